use Rattle.schedule_marks.proofs.Ticks.{next_ceiling, all_ceilings}
use Rattle.schedule_marks.proofs.lists.add_ceilings.Goals as goal

pub loop-tick-preserved : goal.loop-tick-preserved
loop-tick-preserved c =
    next_ceiling c.args.locks.now _ _ _ c.loop-tick.tick c.args.part.to c.loop-tick-test.true c.in_ok-add_ceiling.ensures
    c.loop-tick.invariant

pub returns : goal.returns
returns c =
    all_ceilings c.args.locks.now _ _ c.loop-tick.tick c.args.part.to c.loop-tick-test.false c.loop-tick.invariant
