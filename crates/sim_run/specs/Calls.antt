-- One call of a run, and how the bodies follow the jobs.
use Rattle.std.specs.Prelude.{◌≡◌, ℕ, ◌<◌, ◌≤◌, Bool, true, false, List, [], ◌∷◌, ◌++◌, Some, slice_get}
use Rattle.std.specs.List.{All}
use Rattle.rt_base.specs.declared.ids.JobId.{JobId}
use Rattle.rt_base.specs.declared.operation.Outcome.{Outcome}
use Rattle.txn_set.specs.Set.{Set}
use Rattle.step_journal.specs.declared.entry.Entry.{Entry}
use Rattle.step_journal.specs.State.{State, Row, row_of, pending}
use Rattle.step_journal.specs.Running.{running}
use Rattle.step_journal.specs.Step.{Event, plans_of, may_ask}
use Rattle.step_journal.specs.History.{state_of, event_of}
use Rattle.step_journal.specs.Serial.{outcomes_of}
use Rattle.board.specs.Histories.{running_of}
use Rattle.law_histories.specs.Sim.{Body, Workload, IsScriptRun, IsFixed, plans, next_event}
use Rattle.sim_run.specs.Workloads.{ObeysAt}

-- the jobs of a transaction that are pending, planned or to be planned have this serial or a later one
pub record IsReached (s : State) (tx serial : ℕ) : Type 0 where
  pub rows : (y : Row) → row_of s.rows y.job.tx.0 ≡ Some y → y.job.tx.0 ≡ tx → serial ≤ y.job.serial
  pub planned : All (λ r. r.job.tx.0 ≡ tx → serial ≤ r.job.serial) s.planned
  pub number : serial ≤ (plans_of s tx).number

abbrev pub job_of : ℕ → ℕ → JobId
job_of tx serial = record { tx = record { 0 = tx }; serial = serial }

-- A body that stands for these serials and outcomes follows the transaction's jobs: it has begun the one with this
-- serial and was told the outcomes of its steps, and no later job of the transaction took a step.
pub record IsFollowing (stands : ℕ → List Outcome → Type 0) (set : Set) (history : List Entry) (tx serial : ℕ)
    : Type 0 where
  pub told : stands serial (outcomes_of history (job_of tx serial))
  pub later : (k : ℕ) → serial < k → outcomes_of history (job_of tx k) ≡ []
  pub reached : IsReached (state_of set history) tx serial

-- each body follows the jobs of its transaction
abbrev pub AreFollowing : {Y : Type 0} → (Y → ℕ → List Outcome → Type 0) → Set → List Entry → List Y → List ℕ
    → Type 0
AreFollowing stands set history bodies serials =
    (tx : ℕ) (body : _) (serial : ℕ) → slice_get bodies tx ≡ Some body → slice_get serials tx ≡ Some serial
    → IsFollowing (stands body) set history tx serial

-- the running job may ask for what this function gives by its serial and the outcomes of its steps
abbrev pub MayAsk : Set → List Entry → Body → Type 0
MayAsk set history gives =
    (row : Row) → running set (state_of set history).rows ≡ Some row
    → may_ask set row (gives row.job.serial (outcomes_of history row.job)) ≡ true

-- one more entry, that of this event
abbrev pub IsNoted : Event → List Entry → List Entry → Type 0
IsNoted event before after = (e : Entry) × (event_of e ≡ event) × (after ≡ before ++ e ∷ [])

-- What a call leaves: the entry of the event that the state fixes, or, where no event is fixed, nothing pending and
-- nothing planned.
abbrev pub IsCalled : Workload → List Entry → Bool → List Entry → Type 0
IsCalled w before true after = (event : Event) × (next_event w before ≡ Some event) × IsNoted event before after
IsCalled w before false after =
    (after ≡ before) × (pending (state_of w.set before).rows ≡ []) × ((state_of w.set before).planned ≡ [])

-- A board that stands for this history, in which this job runs, and a body that follows it and may ask.
pub record CanAsk (board : List Entry → Type 0) (body : ℕ → List Outcome → Type 0) (gives : Body) (set : Set)
    (job : JobId) (serial : ℕ) (history : List Entry) : Type 0 where
  pub stands : board history
  pub running : running_of set history ≡ Some job
  pub may : MayAsk set history gives
  pub follows : IsFollowing body set history job.tx.0 serial

-- what an asked operation leaves: one more entry, and a body that was told
pub record HasAsked (board : List Entry → Type 0) (body : ℕ → List Outcome → Type 0) (set : Set) (event : Event)
    (tx serial : ℕ) (history : List Entry) : Type 0 where
  pub after : List Entry
  pub noted : IsNoted event history after
  pub stands : board after
  pub follows : IsFollowing body set after tx serial

-- A board that stands for this history, and bodies that follow it and may ask.
pub record CanCall {Y : Type 0} (board : List Entry → Type 0) (body : Y → ℕ → List Outcome → Type 0) (w : Workload)
    (bodies : List Y) (serials : List ℕ) (history : List Entry) : Type 0 where
  pub stands : board history
  pub may : ObeysAt w history
  pub follows : AreFollowing body w.set history bodies serials

-- what a call leaves
pub record HasCalled {Y : Type 0} (board : List Entry → Type 0) (body : Y → ℕ → List Outcome → Type 0) (w : Workload)
    (bodies : List Y) (serials : List ℕ) (history : List Entry) (went : Bool) : Type 0 where
  pub after : List Entry
  pub called : IsCalled w history went after
  pub stands : board after
  pub follows : AreFollowing body w.set after bodies serials

-- a script run that begins with all plans, and whose every other entry is that of the event that the state fixes
pub record IsUnderWay (w : Workload) (history : List Entry) : Type 0 where
  pub script_run : IsScriptRun w history
  pub rest : List Entry
  pub begins : history ≡ plans w ++ rest
  pub fixed : IsFixed w (plans w) rest
