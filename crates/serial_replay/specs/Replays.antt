-- What replaying entries tells.
use Rattle.std.specs.Prelude.{◌≡◌, ℕ, ◌≤◌, List, [], ◌∷◌, ◌++◌, take, Some, slice_get}
use Rattle.std.specs.List.{AllByRecursion}
use Rattle.rt_base.specs.declared.ids.JobId.{JobId}
use Rattle.item_model.specs.declared.stored.Stored.{Stored}
use Rattle.txn_set.specs.Set.{Set}
use Rattle.txn_set.specs.Ceilings.{blocking}
use Rattle.step_journal.specs.declared.entry.Entry.{Entry}
use Rattle.step_journal.specs.State.{Row, opening, prio_of}
use Rattle.step_journal.specs.Running.{job_row}
use Rattle.step_journal.specs.History.{IsLegal, state_of}
use Rattle.step_journal.specs.Serial.{IsSerial, serial_items}
use Rattle.step_journal.specs.Timing.{IsSteady}
use Rattle.law_histories.specs.Protocol.{IsAloneSoFar, DelayedByOne}
use Rattle.law_times.specs.Ages.{IsAdmitted, age_bound}
use Rattle.law_times.specs.Freshness.{EndsAreFresh}
use Rattle.job_rows.specs.declared.row.JobRow.{JobRow}
use Rattle.job_rows.specs.Rows.{job_rows}
use Rattle.serial_replay.specs.declared.serial.ReplayError.{ReplayError}
use Rattle.serial_replay.specs.declared.serial.ReplayError.TheVariants.{NotLegal, OutOfMemory}

-- The entry at this index is the first that is no legal step: those before it are a legal history, and with it they are none.
pub record IsFirstIllegal (set : Set) (entries : List Entry) (index : ℕ) : Type 0 where
  pub entry : Entry
  pub here : slice_get entries index ≡ Some entry
  pub before : IsLegal set (take index entries)
  pub not_with : ¬ IsLegal set (take index entries ++ entry ∷ [])
  pub not_all : ¬ IsLegal set entries

-- The entries are a legal history, and a board stands for them.
pub record HasReplayed (set : Set) (stands : List Entry → Type 0) (entries : List Entry) : Type 0 where
  pub board : stands entries
  pub legal : IsLegal set entries

-- The entries are a legal history. Its replies and items are those of its ended jobs run alone in order of ending, and a
-- pending job has the replies that it gets alone on the present items. One lower job at most delays a job, for no more than
-- its blocking. Over an admitted set a steady history has fresh ends.
pub record IsReplayed (set : Set) (entries : List Entry) (items : List Stored) (jobs : List JobRow) : Type 0 where
  pub legal : IsLegal set entries
  pub items_are : items ≡ serial_items set entries (opening set).items (state_of set entries).ended
  pub jobs_are : jobs ≡ job_rows set entries
  pub serial : IsSerial set entries
  pub pending :
      (job : JobId) (row : Row) → job_row (state_of set entries).rows job ≡ Some row → IsAloneSoFar set entries row
  pub delays : AllByRecursion (λ row. row.delay ≤ blocking set (prio_of set row.job)) jobs
  pub one_delay : (job : JobId) → DelayedByOne set entries job
  pub fresh :
      (admitted : IsAdmitted set) → IsSteady set entries
      → EndsAreFresh set (age_bound set admitted.response) entries

-- the entries are refused as not legal with the first that is no legal step
abbrev pub Explains : Set → List Entry → ReplayError → Type 0
Explains set entries (NotLegal index) = IsFirstIllegal set entries index
Explains set entries OutOfMemory = Unit {0}
