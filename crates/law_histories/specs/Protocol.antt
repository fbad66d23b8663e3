-- The laws of every legal history of every compiled set: what they say of the state after it, and of its entries.
use Rattle.std.specs.Prelude.{◌≡◌, ◌≢◌, ℕ, Bool, true, false, ◌||◌, List, [], ◌∷◌, ◌++◌, None, Some, length, slice_get, ◌≤◌}
use Rattle.std.specs.List.{list_any}
use Rattle.rt_base.specs.declared.ids.JobId.{JobId}
use Rattle.rt_base.specs.declared.operation.Op.{Op}
use Rattle.step_journal.specs.declared.entry.Entry.{Entry}
use Rattle.step_journal.specs.declared.entry.Entry.TheVariants.{Blocked}
use Rattle.step_journal.specs.declared.entry.EndedJob.{EndedJob}
use Rattle.txn_set.specs.Set.{Set, IsCompiled}
use Rattle.step_journal.specs.State.{State, Row, pending, prio_of, same_job}
use Rattle.step_journal.specs.LockRule.{locks}
use Rattle.step_journal.specs.Running.{running, job_row}
use Rattle.step_journal.specs.History.{IsLegal, state_of}
use Rattle.step_journal.specs.Timing.{WaitsOn, IsWaitCycle, delayers}
use Rattle.txn_set.specs.Ceilings.{blocking}
use Rattle.step_journal.specs.Serial.{IsSerial, ops_of, outcomes_of, work_alone, outcomes_alone}
use Rattle.item_model.specs.Work.{no_work, has_read, has_written}

-- whether an entry refuses this job
abbrev pub is_refusal_of : JobId → Entry → Bool
is_refusal_of job (Blocked by op on ceiling tick) = same_job job by
is_refusal_of job other = false

abbrev pub was_refused : List Entry → JobId → Bool
was_refused entries job = list_any (is_refusal_of job) entries

-- No jobs wait in a cycle, and where something is pending there is a running job.
pub record NeverStuck (set : Set) (s : State) : Type 0 where
  pub no_cycle : (jobs : List JobId) → ¬ IsWaitCycle s jobs
  pub runs : running set s.rows ≡ None → pending s.rows ≡ []

abbrev pub NoHistoryIsStuck : Type 0
NoHistoryIsStuck =
    (set : Set) (entries : List Entry) → IsCompiled set → IsLegal set entries → NeverStuck set (state_of set entries)

-- A job that is refused was not refused before, and holds no lock.
pub record IsFirstRefusal (set : Set) (entries : List Entry) (job : JobId) : Type 0 where
  pub first : was_refused entries job ≡ false
  pub no_lock : (row : Row) → job_row (state_of set entries).rows job ≡ Some row → locks row.work ≡ []

abbrev pub RefusedOnce : Type 0
RefusedOnce =
    (set : Set) (entries : List Entry) (job on : JobId) (op : Op) (ceiling tick : ℕ) → IsCompiled set
    → IsLegal set (entries ++ Blocked job op on ceiling tick ∷ []) → IsFirstRefusal set entries job

-- The outcomes and the items of each legal history are those of its ended jobs run alone, in order of ending.
abbrev pub EachHistoryIsSerial : Type 0
EachHistoryIsSerial = (set : Set) (entries : List Entry) → IsCompiled set → IsLegal set entries → IsSerial set entries

-- A pending job was told, has read and has written what it would alone on the present items.
pub record IsAloneSoFar (set : Set) (entries : List Entry) (row : Row) : Type 0 where
  pub outcomes :
      outcomes_of entries row.job ≡ outcomes_alone (state_of set entries).items no_work (ops_of entries row.job)
  pub work : row.work ≡ work_alone (state_of set entries).items no_work (ops_of entries row.job)

abbrev pub EachPendingIsAlone : Type 0
EachPendingIsAlone =
    (set : Set) (entries : List Entry) (job : JobId) (row : Row) → IsCompiled set → IsLegal set entries
    → job_row (state_of set entries).rows job ≡ Some row → IsAloneSoFar set entries row

-- A job has no row, so that it holds no lock; it waits on nobody, and nobody waits on it.
pub record HoldsNothing (s : State) (job : JobId) : Type 0 where
  pub no_row : job_row s.rows job ≡ None
  pub waits : (other : JobId) → ¬ WaitsOn s job other
  pub waited_on : (other : JobId) → ¬ WaitsOn s other job

abbrev pub EndedHoldNothing : Type 0
EndedHoldNothing =
    (set : Set) (entries : List Entry) (n : ℕ) (ended : EndedJob) → IsCompiled set → IsLegal set entries
    → slice_get (state_of set entries).ended n ≡ Some ended → HoldsNothing (state_of set entries) ended.job

-- Of two pending jobs none holds a lock on an item on which the other holds a write lock.
abbrev pub NoConflict : Type 0
NoConflict =
    (set : Set) (entries : List Entry) (a b : JobId) (x y : Row) (i : ℕ) → IsCompiled set → IsLegal set entries
    → job_row (state_of set entries).rows a ≡ Some x → job_row (state_of set entries).rows b ≡ Some y → a ≢ b
    → has_written x.work i ≡ true → (has_read y.work i || has_written y.work i) ≡ false

-- All steps that delay a job are of one job, and there are at most as many as its blocking.
pub record DelayedByOne (set : Set) (entries : List Entry) (job : JobId) : Type 0 where
  pub one :
      (m n : ℕ) (a b : JobId) → slice_get (delayers set entries job) m ≡ Some a
      → slice_get (delayers set entries job) n ≡ Some b → a ≡ b
  pub few : length (delayers set entries job) ≤ blocking set (prio_of set job)

abbrev pub OneDelay : Type 0
OneDelay =
    (set : Set) (entries : List Entry) (job : JobId) → IsCompiled set → IsLegal set entries
    → DelayedByOne set entries job
