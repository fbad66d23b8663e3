use Rattle.std.proofs.Common.{◌≡◌, ◌+◌, ◌≤◌, drop}
use Rattle.picture_command.specs.Tables.{total, committed_in}
use Rattle.picture_command.proofs.jobs.all_committed.Given as goal

abbrev pub invariant-loop-row : goal.invariant-loop-row
invariant-loop-row l = record {
  sum : l.count + total (committed_in l.tx.0) (drop l.row-index l.rows) ≡ total (committed_in l.tx.0) l.rows;
  few : l.count ≤ l.row-index;
}
