-- The running job: from the highest pending job along "waits on" to one that waits on nobody.
use Rattle.std.specs.Prelude.{ℕ, List, length, Option, None, Some, if◌then◌else◌}
use Rattle.std.specs.Option.{option_and_then}
use Rattle.rt_base.specs.Running.{followed as following}
use Rattle.rt_base.specs.declared.ids.JobId.{JobId}
use Rattle.txn_set.specs.Set.{Set}
use Rattle.step_journal.specs.State.{Row, row_of, pending, same_job}
use Rattle.step_journal.specs.LockRule.{highest}

-- the row, if it is this job's
abbrev pub of_job : JobId → Row → Option Row
of_job job row = if same_job row.job job then Some row else None

-- the row of a job, where it is pending
abbrev pub job_row : List (Option Row) → JobId → Option Row
job_row rows job = option_and_then (of_job job) (row_of rows job.tx.0)

-- the job that is reached in at most n links
abbrev pub followed : List (Option Row) → ℕ → Row → Option JobId → Option Row
followed rows n row on = following (job_row rows) (λ r. r.waits_on) n row on

unfoldable pub running : Set → List (Option Row) → Option Row
running set rows = option_and_then (λ r. followed rows (length rows) r r.waits_on) (highest set (pending rows))
