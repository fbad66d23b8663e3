use Rattle.std.proofs.Common.{◌≡◌, max, drop}
use Rattle.picture_command.specs.Tables.{worst, response_in}
use Rattle.picture_command.proofs.jobs.worst_response.Given as goal

abbrev pub invariant-loop-row : goal.invariant-loop-row
invariant-loop-row l = max l.worst (worst (response_in l.tx.0) (drop l.row-index l.rows)) ≡ worst (response_in l.tx.0) l.rows
