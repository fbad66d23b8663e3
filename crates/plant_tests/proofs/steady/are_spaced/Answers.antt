use Rattle.std.proofs.Common.{◌+◌, arith}
use Rattle.sim_run.proofs.Steady.{spaced_more}
use Rattle.plant_tests.proofs.steady.are_spaced.Goals as goal

pub loop-tick-preserved : goal.loop-tick-preserved
loop-tick-preserved c = λ h.
    let n = c.loop-tick.tick-index in
    c.loop-tick.invariant (spaced_more c.args.period c.loop-tick.from n (n + 1) 0 c.args.ticks.now c.loop-tick-test.true (omega arith) (omega arith) (omega arith) h)
