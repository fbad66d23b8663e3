use Rattle.response_test.proofs.Iteration.{is_below-next}
use Rattle.response_test.proofs.windows.first_window.Goals as goal

pub loop-ticks-preserved : goal.loop-ticks-preserved
loop-ticks-preserved c = is_below-next c.args.loads.now c.args.own _ _ c.loop-ticks.invariant c.next_window-next.ensures.skips c.if-next-ticks.false
