use Rattle.std.proofs.Common.{◌≡◌, max, drop}
use Rattle.picture_command.specs.Tables.{worst, delay_in}
use Rattle.picture_command.proofs.jobs.worst_delay.Given as goal

abbrev pub invariant-loop-row : goal.invariant-loop-row
invariant-loop-row l = max l.worst (worst (delay_in l.tx.0) (drop l.row-index l.rows)) ≡ worst (delay_in l.tx.0) l.rows
