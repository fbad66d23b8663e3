use Rattle.std.proofs.Common.{sym, ◌∙◌}
use Rattle.scenario_reader.proofs.Turning.{begins_walking, rounds, stops}
use Rattle.scenario_reader.proofs.scripts.bad_op.Goals as goal

pub loop-place-init : goal.loop-place-init
loop-place-init c =
    begins_walking c.args.items.now c.args.txn.now c.args.ops.now c.args.walk.now c.begin.new.self c.requires.sized
    c.begin.ensures

pub returns-then-not-may_stand-clause-first : goal.returns-then-not-may_stand-clause-first
returns-then-not-may_stand-clause-first c =
    stops c.args.items.now c.args.txn.now c.args.ops.now c.loop-place.place c.index-ops-place.result c.loop-place.walk
    c.loop-place.invariant c.loop-place-test.true c.index-ops-place.is c.requires.good
    (sym c.may_stand.ensures ∙ c.if-not-may_stand.true)

pub loop-place-preserved : goal.loop-place-preserved
loop-place-preserved c =
    rounds c.args.items.now c.args.txn.now c.args.ops.now c.loop-place.place c.index-ops-place.result c.loop-place.walk
    c.go_on.new.self c.loop-place.invariant c.loop-place-test.true c.index-ops-place.is c.requires.good
    (sym c.may_stand.ensures ∙ c.if-not-may_stand.false) c.go_on.ensures
