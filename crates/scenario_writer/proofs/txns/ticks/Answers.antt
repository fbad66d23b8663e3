use Rattle.std.proofs.lemmas.Result.{on_ok_weaker}
use Rattle.scenario_writer.specs.Canonical.{whole}
use Rattle.scenario_writer.proofs.Loops.{begun, more_mapped_at, all_mapped}
use Rattle.scenario_writer.proofs.txns.ticks.Goals as goal

pub loop-tick-init : goal.loop-tick-init
loop-tick-init c = begun _ _ _ c.in_ok-begin_array.ensures

pub loop-tick-preserved : goal.loop-tick-preserved
loop-tick-preserved c = more_mapped_at whole c.args.ticks.now c.loop-tick.tick-index 0 _ _ _ _ c.loop-tick-test.true
    c.loop-tick.invariant c.in_ok-whole.ensures

pub returns : goal.returns
returns c = on_ok_weaker c.end_array.result (all_mapped whole c.args.ticks.now c.loop-tick.tick-index _ _ _ _
    c.loop-tick-test.false c.loop-tick.invariant) c.end_array.ensures
