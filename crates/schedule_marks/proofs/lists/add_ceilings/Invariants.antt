use Rattle.std.proofs.Common.{◌≡◌, ◌++◌, ◌-◌}
use Rattle.schedule_marks.specs.Marks.{ceilings_from}
use Rattle.schedule_marks.proofs.lists.add_ceilings.Given as goal

abbrev pub invariant-loop-tick : goal.invariant-loop-tick
invariant-loop-tick l = l.into.items ++ ceilings_from l.locks l.tick (l.fn.part.to - l.tick) ≡ l.fn.into.items ++ ceilings_from l.locks l.fn.part.from (l.fn.part.to - l.fn.part.from)
