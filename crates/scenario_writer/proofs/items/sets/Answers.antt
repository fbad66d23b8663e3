use Rattle.std.proofs.lemmas.Result.{on_ok_weaker}
use Rattle.scenario_writer.specs.Canonical.{set_data}
use Rattle.scenario_writer.proofs.Loops.{begun, more_mapped, all_mapped}
use Rattle.scenario_writer.proofs.items.sets.Goals as goal

pub loop-one-init : goal.loop-one-init
loop-one-init c = begun _ _ _ c.in_ok-begin_array.ensures

pub loop-one-preserved : goal.loop-one-preserved
loop-one-preserved c = more_mapped (set_data c.args.names.now) c.args.sets.now c.loop-one.one-index c.one-item.result
    _ _ _ _ c.loop-one-test.true c.one-item.is c.loop-one.invariant c.in_ok-set.ensures

pub returns : goal.returns
returns c = on_ok_weaker c.end_array.result (all_mapped (set_data c.args.names.now) c.args.sets.now c.loop-one.one-index
    _ _ _ _ c.loop-one-test.false c.loop-one.invariant) c.end_array.ensures
