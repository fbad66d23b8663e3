-- The delay of each row is at most the blocking of its job.
use Rattle.std.proofs.Common.{◌≡◌, ◌≤◌, List, [], ◌∷◌, ◌++◌, map, subst, sym}
use Rattle.std.specs.List.{AllByRecursion}
use Rattle.txn_set.specs.Set.{Set}
use Rattle.txn_set.specs.Ceilings.{blocking}
use Rattle.step_journal.specs.declared.entry.Entry.{Entry}
use Rattle.step_journal.specs.declared.entry.EndedJob.{EndedJob}
use Rattle.step_journal.specs.State.{Row, pending, prio_of}
use Rattle.step_journal.specs.LockRule.{in_falling_priority}
use Rattle.step_journal.specs.History.{state_of}
use Rattle.rt_base.specs.declared.ids.JobId.{JobId}
use Rattle.law_histories.specs.Protocol.{DelayedByOne}
use Rattle.job_rows.specs.declared.row.JobRow.{JobRow}
use Rattle.job_rows.specs.Rows.{pending_row, ended_row, job_rows}

abbrev IsLow : Set → JobRow → Type 0
IsLow set row = row.delay ≤ blocking set (prio_of set row.job)

low_pending : (set : Set) (entries : List Entry) (rs : List Row) → ((job : JobId) → DelayedByOne set entries job) → AllByRecursion (IsLow set) (map (pending_row set entries) rs)
low_pending set entries [] h = tt
low_pending set entries (r ∷ rs) h = ((h r.job).few, low_pending set entries rs h)

low_ended : (set : Set) (entries : List Entry) (es : List EndedJob) (rest : List JobRow) → ((job : JobId) → DelayedByOne set entries job) → AllByRecursion (IsLow set) rest → AllByRecursion (IsLow set) (map (ended_row set entries) es ++ rest)
low_ended set entries [] rest h k = k
low_ended set entries (e ∷ es) rest h k = ((h e.job).few, low_ended set entries es rest h k)

pub rows_low : (set : Set) (entries : List Entry) (jobs : List JobRow) → jobs ≡ job_rows set entries → ((job : JobId) → DelayedByOne set entries job) → AllByRecursion (λ row. row.delay ≤ blocking set (prio_of set row.job)) jobs
rows_low set entries jobs is h =
    subst (λ (l : List JobRow). AllByRecursion (λ row. row.delay ≤ blocking set (prio_of set row.job)) l) (sym is)
    (low_ended set entries (state_of set entries).ended (map (pending_row set entries) (in_falling_priority set (pending (state_of set entries).rows))) h
    (low_pending set entries (in_falling_priority set (pending (state_of set entries).rows)) h))
