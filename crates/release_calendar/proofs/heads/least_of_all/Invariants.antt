use Rattle.std.proofs.Common.{◌*◌}
use Rattle.release_calendar.specs.Heads.{IsLeastOf}
use Rattle.release_calendar.proofs.heads.least_of_all.Given as goal

abbrev pub invariant-loop-row : goal.invariant-loop-row
invariant-loop-row l = IsLeastOf l.keys 0 (8 * l.row) l.least
