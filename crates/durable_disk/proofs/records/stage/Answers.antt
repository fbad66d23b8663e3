use Rattle.std.proofs.Common.{rules, ◌≡◌, ℕ, ◌*◌, ◌+◌, ◌<◌, List, [], ◌∷◌, length, arith, ap, length-append}
use Rattle.io_edge.specs.declared.Failed.{Failed}
use Rattle.durable_disk.specs.Records.{Reads}
use Rattle.durable_disk.proofs.RecordMoments.{started, goes_on}
use Rattle.durable_disk.proofs.Calls.{settled_each, stage_left, stage_done, each_told, told_after, on_ok}
use Rattle.durable_disk.proofs.Within.{within_none, within_write, within_sync}
use Rattle.durable_disk.proofs.records.stage.Goals as goal

pub returns-in_err-write_at-clause-any_moment : goal.returns-in_err-write_at-clause-any_moment
returns-in_err-write_at-clause-any_moment g c bodies is settled told =
    let d = g.D.Disk in
    let old = c.args.disk.now in
    let mid = c.write_at.new.self in
    let P : List ℕ → Type 0 = λ f. Reads f bodies in
    let told_mid = told_after _ (d.seen old) (d.seen mid) c.write_at.ensures.seen told in
    let first = each_told (d.seen old) (d.may_leave old) P told (settled_each (d.seen old) (d.may_leave old) bodies settled) in
    let second = each_told (d.seen mid) (d.may_leave mid) P told_mid
    (stage_left c.write_at.result _ _ _ (d.seen old) (d.seen mid) (d.may_leave old) (d.may_leave mid) bodies (omega (arith, is)) c.write_at.ensures.seen c.write_at.ensures.crash settled) in
    goes_on d.moment d.left_since old old mid P (d.may_leave mid)
    (started d.moment d.left_since old P (d.may_leave old) (g.met.D.Disk.only_now old) first)
    c.write_at.ensures.time second

pub returns-clause-any_moment : goal.returns-clause-any_moment
returns-clause-any_moment g c bodies is settled told =
    let d = g.D.Disk in
    let old = c.args.disk.now in
    let mid = c.write_at.new.self in
    let new = c.sync.new.self in
    let P : List ℕ → Type 0 = λ f. Reads f bodies in
    let told_mid = told_after _ (d.seen old) (d.seen mid) c.write_at.ensures.seen told in
    let first = each_told (d.seen old) (d.may_leave old) P told (settled_each (d.seen old) (d.may_leave old) bodies settled) in
    let second = each_told (d.seen mid) (d.may_leave mid) P told_mid
    (stage_left c.write_at.result _ _ _ (d.seen old) (d.seen mid) (d.may_leave old) (d.may_leave mid) bodies (omega (arith, is)) c.write_at.ensures.seen c.write_at.ensures.crash settled) in
    goes_on d.moment d.left_since old mid new P (d.may_leave new)
    (goes_on d.moment d.left_since old old mid P (d.may_leave mid)
    (started d.moment d.left_since old P (d.may_leave old) (g.met.D.Disk.only_now old) first)
    c.write_at.ensures.time second)
    c.sync.ensures.time (λ f left. second f (c.sync.ensures.crash f left))

pub returns-clause-staged : goal.returns-clause-staged
returns-clause-staged g c =
    let d = g.D.Disk in
    let old = c.args.disk.now in
    let mid = c.write_at.new.self in
    let new = c.sync.new.self in
    let bytes = c.before_gate-bytes.ensures in
    let wide : length c.args.body.now ≡ 255 = search rules in
    let long : 0 < length c.before_gate-bytes.result = omega (arith, ap length bytes, length-append c.args.body.now (0 ∷ [])) in
    on_ok c.sync.result (λ only bodies is settled. stage_done Failed c.in_ok-write_at.field-0 _ _ c.args.body.now (d.seen old) (d.seen mid) (d.seen new) (d.may_leave old) (d.may_leave new) bodies (omega (arith, is))
    wide bytes long c.in_ok-write_at.ensures.seen c.sync.ensures.seen only settled) c.sync.ensures.durable

pub returns-in_err-write_at-clause-within : goal.returns-in_err-write_at-clause-within
returns-in_err-write_at-clause-within g c =
    let d = g.D.Disk in
    let old = c.args.disk.now in
    let bytes = c.before_gate-bytes.ensures in
    let wide : length c.args.body.now ≡ 255 = search rules in
    within_write d.seen d.may_leave d.moment d.left_since (256 * c.args.k + 1) 256 c.write_at.result _ _ old old c.write_at.new.self
    (omega arith) (omega (arith, ap length bytes, length-append c.args.body.now (0 ∷ []), wide)) (omega arith)
    (within_none d.seen d.may_leave d.moment d.left_since (256 * c.args.k + 1) 256 old (g.met.D.Disk.only_now old))
    c.write_at.ensures.seen c.write_at.ensures.crash c.write_at.ensures.time

pub returns-clause-within : goal.returns-clause-within
returns-clause-within g c =
    let d = g.D.Disk in
    let old = c.args.disk.now in
    let mid = c.write_at.new.self in
    let bytes = c.before_gate-bytes.ensures in
    let wide : length c.args.body.now ≡ 255 = search rules in
    within_sync d.seen d.may_leave d.moment d.left_since (256 * c.args.k + 1) 256 old mid c.sync.new.self
    (within_write d.seen d.may_leave d.moment d.left_since (256 * c.args.k + 1) 256 c.write_at.result _ _ old old mid
    (omega arith) (omega (arith, ap length bytes, length-append c.args.body.now (0 ∷ []), wide)) (omega arith)
    (within_none d.seen d.may_leave d.moment d.left_since (256 * c.args.k + 1) 256 old (g.met.D.Disk.only_now old))
    c.write_at.ensures.seen c.write_at.ensures.crash c.write_at.ensures.time)
    c.sync.ensures.seen c.sync.ensures.crash c.sync.ensures.time
