use Rattle.std.proofs.Common.{◌≡◌, drop}
use Rattle.schedule_marks.specs.Marks.{until_of}
use Rattle.schedule_marks.proofs.held.until_of.Given as goal

abbrev pub invariant-loop-row : goal.invariant-loop-row
invariant-loop-row l = until_of l.stop (drop l.row-index l.rows) l.job ≡ until_of l.stop l.rows l.job
