use Rattle.std.proofs.Common.{◌≡◌, [], ◌++◌, take, drop}
use Rattle.schedule_marks.specs.Marks.{locks_along}
use Rattle.schedule_marks.proofs.lists.locks_along.Given as goal

abbrev pub invariant-loop-i : goal.invariant-loop-i
invariant-loop-i l = l.into.items ++ locks_along l.set l.window.part l.window.stop l.rows (take l.i l.entries) (drop l.i l.entries) ≡ locks_along l.set l.window.part l.window.stop l.rows [] l.entries
