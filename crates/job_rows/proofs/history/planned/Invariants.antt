use Rattle.std.proofs.Common.{◌≡◌, ◌+◌, ◌≤◌, drop}
use Rattle.job_rows.specs.Upkeep.{planned_jobs}
use Rattle.job_rows.proofs.history.planned.Given as goal

abbrev pub invariant-loop-entry : goal.invariant-loop-entry
invariant-loop-entry l = record {
  count : l.count + planned_jobs (drop l.entry-index l.entries) ≡ planned_jobs l.entries;
  few : l.count ≤ l.entry-index;
}
