-- The laws of the histories that a board stands for, and what a step of it promises.
use Rattle.std.specs.Prelude.{◌≡◌, ◌≢◌, ℕ, true, false, ◌||◌, List, ◌∷◌, ◌++◌, Some, slice_get}
use Rattle.rt_base.specs.declared.ids.JobId.{JobId}
use Rattle.rt_base.specs.declared.operation.Op.{Op}
use Rattle.step_journal.specs.declared.entry.Entry.{Entry}
use Rattle.step_journal.specs.declared.entry.Entry.TheVariants.{Blocked}
use Rattle.step_journal.specs.declared.entry.EndedJob.{EndedJob}
use Rattle.txn_set.specs.Set.{Set}
use Rattle.item_model.specs.Work.{has_read, has_written}
use Rattle.step_journal.specs.State.{State, Row}
use Rattle.step_journal.specs.Running.{job_row}
use Rattle.step_journal.specs.Step.{ask}
use Rattle.step_journal.specs.History.{state_of}
use Rattle.step_journal.specs.Serial.{IsSerial}
use Rattle.law_histories.specs.Protocol.{NeverStuck, IsFirstRefusal, HoldsNothing, IsAloneSoFar, DelayedByOne}
use Rattle.board.specs.declared.replies.StepReply.{StepReply}
use Rattle.board.specs.Histories.{step_entry, now_of, IsRefusal, IfBlocked}
use Rattle.lock_core.specs.Calls.{IsCallOf}

-- of two pending jobs none holds a lock on an item on which the other holds a write lock
abbrev pub HasNoConflict : State → Type 0
HasNoConflict s =
    (a b : JobId) (x y : Row) (i : ℕ) → job_row s.rows a ≡ Some x → job_row s.rows b ≡ Some y → a ≢ b
    → has_written x.work i ≡ true → (has_read y.work i || has_written y.work i) ≡ false

-- a job that ended holds no lock and waits on nobody, and nobody waits on it
abbrev pub EndedJobsHoldNothing : State → Type 0
EndedJobsHoldNothing s =
    (n : ℕ) (ended : EndedJob) → slice_get s.ended n ≡ Some ended → HoldsNothing s ended.job

-- what the laws say of one history and of the state after it
pub record IsLawful (set : Set) (history : List Entry) : Type 0 where
  pub no_conflict : HasNoConflict (state_of set history)
  pub ended_hold_nothing : EndedJobsHoldNothing (state_of set history)
  pub never_stuck : NeverStuck set (state_of set history)
  pub refused_once :
      (before after : List Entry) (job on : JobId) (op : Op) (ceiling tick : ℕ)
      → history ≡ before ++ Blocked job op on ceiling tick ∷ after → IsFirstRefusal set before job
  pub serial : IsSerial set history
  pub pending_alone :
      (job : JobId) (row : Row) → job_row (state_of set history).rows job ≡ Some row → IsAloneSoFar set history row
  pub one_delay : (job : JobId) → DelayedByOne set history job

-- What a step promises of a board, by what it stands for, its set and the entries that it keeps, before the call and after.
pub record IsLawfulStep {B : Type 0} (stands_for : B → List Entry → Type 0) (set_of : B → Set) (kept_by : B → List Entry) (old new : B) (job : JobId) (op : Op) (reply : StepReply) : Type 0 where
  pub call :
      (history : List Entry) → stands_for old history
      → IsCallOf stands_for set_of kept_by old new history (ask job op) (step_entry (now_of (set_of old) history) job op reply)
  pub refused : IsRefusal reply → new ≡ old
  pub blocked_once : (history : List Entry) → stands_for old history → IfBlocked reply (IsFirstRefusal (set_of old) history job)
  pub no_conflict : (history : List Entry) → stands_for new history → HasNoConflict (state_of (set_of new) history)
  pub ended_hold_nothing : (history : List Entry) → stands_for new history → EndedJobsHoldNothing (state_of (set_of new) history)
  pub no_cycle : (history : List Entry) → stands_for new history → NeverStuck (set_of new) (state_of (set_of new) history)
  pub serial : (history : List Entry) → stands_for new history → IsSerial (set_of new) history
