use Rattle.std.proofs.Common.{◌≡◌, ◌+◌, ◌++◌, List, ℕ, length, arith, length-append, subst, sym, IfSome}
use Rattle.durable_disk.specs.Records.{HasBodies, HasFirst}
use Rattle.durable_disk.proofs.RecordMoments.{goes_on, run_on}
use Rattle.durable_disk.proofs.Calls.{each_told, on_ok}
use Rattle.durable_disk.proofs.Pieces.{bodies_synced, first_by, first_synced, mid_told, synced_each, synced_settled}
use Rattle.durable_disk.proofs.records.open_gates.Goals as goal

pub returns-in_err-sync-clause-any_moment : goal.returns-in_err-sync-clause-any_moment
returns-in_err-sync-clause-any_moment g c bodies more is n staging told =
    let d = g.D.Disk in
    let old = c.args.disk.now in
    let mid = c.sync.new.self in
    first_synced d.seen d.may_leave d.moment d.left_since bodies more old mid staging told c.sync.ensures.seen (g.met.D.Disk.only_now old) c.sync.ensures.crash c.sync.ensures.time

pub returns-in_err-write_gates-clause-any_moment : goal.returns-in_err-write_gates-clause-any_moment
returns-in_err-write_gates-clause-any_moment g c bodies more is n staging told =
    let d = g.D.Disk in
    let k = c.args.k in
    let old = c.args.disk.now in
    let mid = c.sync.new.self in
    let gates = c.write_gates.new.disk in
    let Q : List ℕ → Type 0 = λ f. HasBodies f (bodies ++ more) k in
    let first = first_synced d.seen d.may_leave d.moment d.left_since bodies more old mid staging told c.sync.ensures.seen (g.met.D.Disk.only_now old) c.sync.ensures.crash c.sync.ensures.time in
    let has = bodies_synced d.seen d.may_leave d.moment d.left_since bodies more old mid staging told c.sync.ensures.seen k is in
    let each = synced_each Q (d.seen mid) (d.may_leave mid) c.in_ok-sync.ensures.durable has in
    run_on d.moment d.left_since old mid gates (HasFirst bodies more) Q (HasFirst bodies more) first
    (c.write_gates.ensures.any_moment (bodies ++ more) (omega (arith, is, n, length-append bodies more)) each
    (mid_told d.seen d.may_leave d.moment d.left_since bodies more old mid staging told c.sync.ensures.seen))
    (λ f some. some) (λ f q. first_by k bodies more f is q)

pub returns-clause-any_moment : goal.returns-clause-any_moment
returns-clause-any_moment g c bodies more is n staging told =
    let d = g.D.Disk in
    let k = c.args.k in
    let old = c.args.disk.now in
    let mid = c.sync.new.self in
    let gates = c.write_gates.new.disk in
    let new = c.sync-2.new.self in
    let Q : List ℕ → Type 0 = λ f. HasBodies f (bodies ++ more) k in
    let first = first_synced d.seen d.may_leave d.moment d.left_since bodies more old mid staging told c.sync.ensures.seen (g.met.D.Disk.only_now old) c.sync.ensures.crash c.sync.ensures.time in
    let has = bodies_synced d.seen d.may_leave d.moment d.left_since bodies more old mid staging told c.sync.ensures.seen k is in
    let each = synced_each Q (d.seen mid) (d.may_leave mid) c.in_ok-sync.ensures.durable has in
    let count : k + c.args.n ≡ length (bodies ++ more) = omega (arith, is, n, length-append bodies more) in
    let told_mid = mid_told d.seen d.may_leave d.moment d.left_since bodies more old mid staging told c.sync.ensures.seen in
    goes_on d.moment d.left_since old gates new (HasFirst bodies more) (d.may_leave new)
    (run_on d.moment d.left_since old mid gates (HasFirst bodies more) Q (HasFirst bodies more) first (c.write_gates.ensures.any_moment (bodies ++ more) count each told_mid)
    (λ f some. some) (λ f q. first_by k bodies more f is q))
    c.sync-2.ensures.time
    (λ f left. first_by k bodies more f is
    (each_told (d.seen gates) (d.may_leave gates) Q (c.write_gates.ensures.told.0 told_mid) (c.write_gates.ensures.now (bodies ++ more) count each) f (c.sync-2.ensures.crash f left)))

pub returns-clause-settled : goal.returns-clause-settled
returns-clause-settled g c =
    let d = g.D.Disk in
    let k = c.args.k in
    let old = c.args.disk.now in
    let mid = c.sync.new.self in
    let new = c.sync-2.new.self in
    on_ok c.sync-2.result (λ only bodies more is n staging.
    let all : List (List ℕ) = bodies ++ more in
    synced_settled (d.seen new) (d.may_leave new) all (k + c.args.n) (omega (arith, is, n, length-append bodies more)) only
    (subst (λ s. IfSome s (λ file. HasBodies file all (k + c.args.n))) (sym c.sync-2.ensures.seen)
    (c.in_ok-write_gates.ensures.opened all (omega (arith, is, n, length-append bodies more))
    (subst (λ s. IfSome s (λ file. HasBodies file all k)) (sym c.sync.ensures.seen) (subst (λ (m : ℕ). IfSome (d.seen old) (λ file. HasBodies file all m)) (sym is) staging.0)))))
    c.sync-2.ensures.durable
