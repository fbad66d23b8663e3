use Rattle.std.proofs.Common.{inl, arith}
use Rattle.io_edge.specs.declared.Failed.{Failed}
use Rattle.durable_disk.specs.Records.{IsBeforeOrAfter}
use Rattle.durable_disk.proofs.RecordMoments.{started, goes_on}
use Rattle.durable_disk.proofs.Calls.{staged_each, each_weaker, gate_left, gate_done, each_told, each_fewer, told_after, on_ok}
use Rattle.durable_disk.proofs.records.open_gate.Goals as goal

pub returns-in_err-write_at-clause-now : goal.returns-in_err-write_at-clause-now
returns-in_err-write_at-clause-now g c bodies body is s =
    gate_left c.write_at.result _ _ _ _ _ _ bodies body (omega (arith, is)) c.write_at.ensures.seen c.write_at.ensures.crash s

pub returns-clause-now : goal.returns-clause-now
returns-clause-now g c bodies body is s =
    let d = g.D.Disk in
    let old = c.args.disk.now in
    let mid = c.write_at.new.self in
    let new = c.sync.new.self in
    each_fewer (d.seen mid) (d.seen new) (d.may_leave mid) (d.may_leave new) (IsBeforeOrAfter bodies body) c.sync.ensures.seen c.sync.ensures.crash
    (gate_left c.write_at.result _ _ (d.seen old) (d.seen mid) (d.may_leave old) (d.may_leave mid) bodies body (omega (arith, is)) c.write_at.ensures.seen c.write_at.ensures.crash s)

pub returns-in_err-write_at-clause-any_moment : goal.returns-in_err-write_at-clause-any_moment
returns-in_err-write_at-clause-any_moment g c bodies body is s told =
    let d = g.D.Disk in
    let old = c.args.disk.now in
    let mid = c.write_at.new.self in
    let P = IsBeforeOrAfter bodies body in
    let told_mid = told_after _ (d.seen old) (d.seen mid) c.write_at.ensures.seen told in
    let first = each_told (d.seen old) (d.may_leave old) P told (each_weaker _ _ _ P (λ f r. inl r) (staged_each (d.seen old) (d.may_leave old) bodies body s)) in
    let second = each_told (d.seen mid) (d.may_leave mid) P told_mid
    (gate_left c.write_at.result _ _ (d.seen old) (d.seen mid) (d.may_leave old) (d.may_leave mid) bodies body (omega (arith, is)) c.write_at.ensures.seen c.write_at.ensures.crash s) in
    goes_on d.moment d.left_since old old mid P (d.may_leave mid)
    (started d.moment d.left_since old P (d.may_leave old) (g.met.D.Disk.only_now old) first)
    c.write_at.ensures.time second

pub returns-clause-any_moment : goal.returns-clause-any_moment
returns-clause-any_moment g c bodies body is s told =
    let d = g.D.Disk in
    let old = c.args.disk.now in
    let mid = c.write_at.new.self in
    let new = c.sync.new.self in
    let P = IsBeforeOrAfter bodies body in
    let told_mid = told_after _ (d.seen old) (d.seen mid) c.write_at.ensures.seen told in
    let first = each_told (d.seen old) (d.may_leave old) P told (each_weaker _ _ _ P (λ f r. inl r) (staged_each (d.seen old) (d.may_leave old) bodies body s)) in
    let second = each_told (d.seen mid) (d.may_leave mid) P told_mid
    (gate_left c.write_at.result _ _ (d.seen old) (d.seen mid) (d.may_leave old) (d.may_leave mid) bodies body (omega (arith, is)) c.write_at.ensures.seen c.write_at.ensures.crash s) in
    goes_on d.moment d.left_since old mid new P (d.may_leave new)
    (goes_on d.moment d.left_since old old mid P (d.may_leave mid)
    (started d.moment d.left_since old P (d.may_leave old) (g.met.D.Disk.only_now old) first)
    c.write_at.ensures.time second)
    c.sync.ensures.time (λ f left. second f (c.sync.ensures.crash f left))

pub returns-clause-settled : goal.returns-clause-settled
returns-clause-settled g c =
    let d = g.D.Disk in
    let old = c.args.disk.now in
    let mid = c.write_at.new.self in
    let new = c.sync.new.self in
    on_ok c.sync.result (λ only bodies body is s. gate_done Failed c.in_ok-write_at.field-0 _ (d.seen old) (d.seen mid) (d.seen new) (d.may_leave old) (d.may_leave new) bodies body (omega (arith, is))
    c.in_ok-write_at.ensures.seen c.sync.ensures.seen only s) c.sync.ensures.durable
