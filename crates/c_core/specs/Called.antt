-- What each call of a core comes to: `s` is the core before it, and `t` the core after.
use Rattle.std.specs.Prelude.{◌≡◌, ◌≢◌, ◌+◌, ◌^◌, ◌<◌, ◌≤◌, ◌++◌, ℕ, [], List, length, min, map, take, drop, None, Some, slice_get}
use Rattle.rt_base.specs.declared.ids.JobId.{JobId}
use Rattle.rt_base.specs.declared.operation.Op.{Op}
use Rattle.step_journal.specs.declared.entry.Entry.{Entry}
use Rattle.step_journal.specs.History.{state_of}
use Rattle.board.specs.Histories.{noted, plan_entry, plan_next_entry, step_entry, idle_entry, now_of, running_of, pending_of, ended_of, IfBlocked}
use Rattle.law_times.specs.Response.{response}
use Rattle.law_times.specs.Ages.{IsAdmitted}
use Rattle.law_histories.specs.Protocol.{IsFirstRefusal}
use Rattle.txn_set.specs.Set.{Set, txn_of}
use Rattle.txn_set.specs.Ceilings.{blocking}
use Rattle.txn_compiler.specs.Kept.{kept}
use Rattle.txn_compiler.specs.Refusal.{compile_refusal}
use Rattle.lock_core.specs.Stands.{Stands}
use Rattle.c_core.specs.declared.checked.StoredForm.{StoredForm}
use Rattle.c_forms.specs.declared.forms.JobForm.{JobForm}
use Rattle.c_forms.specs.declared.forms.OpForm.{OpForm}
use Rattle.c_forms.specs.declared.forms.StepForm.{StepForm}
use Rattle.c_forms.specs.declared.forms.TimeForm.{TimeForm}
use Rattle.c_forms.specs.declared.entries.EntryForm.{EntryForm}
use Rattle.c_forms.specs.declared.tables.Tables.{Tables}
use Rattle.c_forms.specs.Forms.{op_named, job_of, form_of_step, form_of_plan, form_of_plan_next, form_of_idle, form_of_entry}
use Rattle.c_core.specs.Calls.{tx_status, item_status, step_status, bound_status, step_reply_of, plan_reply_of, plan_next_reply_of, idle_reply_of, IsRunning, IsAgeOf as IsAgeIn}
use Rattle.c_core.specs.Open.{OpenSeen, KeepsBoundsOf}
use Rattle.c_forms.specs.Rows.{set_of_tables, FitTables}

-- a core is opened over the set of the tables, which are fit and admitted, at the opening state
pub record Opened (tables : Tables) (room : ℕ) (s : OpenSeen) : Type 0 where
  pub fit : FitTables tables
  pub set : s.board.set ≡ kept (set_of_tables tables)
  pub admitted : s.admitted ≡ Some s.board.set
  pub is_admitted : IsAdmitted s.board.set
  pub journal : s.board.journal ≡ record { room = room; first = 0; kept = [] }
  pub small : room ≤ 2 ^ 20
  pub stands : Stands s.board []

-- the same of a set that is not admitted
pub record OpenedTrial (tables : Tables) (room : ℕ) (s : OpenSeen) : Type 0 where
  pub fit : FitTables tables
  pub set : s.board.set ≡ kept (set_of_tables tables)
  pub passed : compile_refusal s.board.set ≡ None
  pub trial : s.admitted ≡ None
  pub journal : s.board.journal ≡ record { room = room; first = 0; kept = [] }
  pub small : room ≤ 2 ^ 20
  pub stands : Stands s.board []

-- the set, whether it is admitted, and the room stay, and each history that the core stands for keeps the bounds of the
-- admitted set
pub record Keeps (s t : OpenSeen) : Type 0 where
  pub set : t.board.set ≡ s.board.set
  pub admitted : t.admitted ≡ s.admitted
  pub room : t.board.journal.room ≡ s.board.journal.room
  pub bounds : (history : List Entry) → Stands t.board history → KeepsBoundsOf t history

-- a job asked for an operation: what that came to, and the record of what was answered
pub record AskedOf (job : JobId) (op : Op) (after : StepForm) (s t : OpenSeen) : Type 0 where
  pub keeps : Keeps s t
  pub first : t.board.journal.first ≡ s.board.journal.first
  pub answer : (history : List Entry) → Stands s.board history → after ≡ form_of_step (step_reply_of s.board history job op)
  pub stands : (history : List Entry) → Stands s.board history → Stands t.board (noted history (step_entry (now_of s.board.set history) job op (step_reply_of s.board history job op)))
  pub blocked_once : (history : List Entry) → Stands s.board history → IfBlocked (step_reply_of s.board history job op) (IsFirstRefusal s.board.set history job)

pub record Stepped (job : JobForm) (form : OpForm) (status : ℕ) (before after : StepForm) (s t : OpenSeen) : Type 0 where
  pub status_is : status ≡ step_status s.board job.tx form
  pub refused : status ≢ 0 → (t ≡ s) × (after ≡ before)
  pub keeps : Keeps s t
  pub first : t.board.journal.first ≡ s.board.journal.first
  pub asked : (op : Op) → status ≡ 0 → op_named form ≡ Some op → AskedOf (job_of job) op after s t

pub record Planned (tx tick status : ℕ) (before after : TimeForm) (s t : OpenSeen) : Type 0 where
  pub status_is : status ≡ tx_status s.board tx
  pub refused : status ≢ 0 → (t ≡ s) × (after ≡ before)
  pub keeps : Keeps s t
  pub first : t.board.journal.first ≡ s.board.journal.first
  pub answer : (history : List Entry) → status ≡ 0 → Stands s.board history → after ≡ form_of_plan tick (plan_reply_of s.board history tx tick)
  pub stands : (history : List Entry) → status ≡ 0 → Stands s.board history → Stands t.board (noted history (plan_entry (record { 0 = tx }) tick (plan_reply_of s.board history tx tick)))

pub record PlannedNext (tx status : ℕ) (before after : TimeForm) (s t : OpenSeen) : Type 0 where
  pub status_is : status ≡ tx_status s.board tx
  pub refused : status ≢ 0 → (t ≡ s) × (after ≡ before)
  pub keeps : Keeps s t
  pub first : t.board.journal.first ≡ s.board.journal.first
  pub answer : (history : List Entry) → status ≡ 0 → Stands s.board history → after ≡ form_of_plan_next (plan_next_reply_of s.board history tx)
  pub stands : (history : List Entry) → status ≡ 0 → Stands s.board history → Stands t.board (noted history (plan_next_entry (record { 0 = tx }) (plan_next_reply_of s.board history tx)))

pub record Idled (status : ℕ) (after : TimeForm) (s t : OpenSeen) : Type 0 where
  pub status_is : status ≡ 0
  pub keeps : Keeps s t
  pub first : t.board.journal.first ≡ s.board.journal.first
  pub answer : (history : List Entry) → Stands s.board history → after ≡ form_of_idle (idle_reply_of s.board history)
  pub stands : (history : List Entry) → Stands s.board history → Stands t.board (noted history (idle_entry (now_of s.board.set history) (idle_reply_of s.board history)))

pub record IsRunningOf (status : ℕ) (before after : JobForm) (s t : OpenSeen) : Type 0 where
  pub same : t ≡ s
  pub running : (history : List Entry) → Stands s.board history → IsRunning (running_of s.board.set history) status before after

pub record IsPendingOf (tx status : ℕ) (before after : JobForm) (s t : OpenSeen) : Type 0 where
  pub same : t ≡ s
  pub unknown : length s.board.set.txns ≤ tx → (status ≡ 4) × (after ≡ before)
  pub pending : (history : List Entry) → tx < length s.board.set.txns → Stands s.board history → IsRunning (pending_of s.board.set history tx) status before after

pub record Peeked (item status : ℕ) (before after : StoredForm) (s t : OpenSeen) : Type 0 where
  pub same : t ≡ s
  pub status_is : status ≡ item_status s.board item
  pub refused : status ≢ 0 → after ≡ before
  pub stored : (history : List Entry) → status ≡ 0 → Stands s.board history → slice_get (state_of s.board.set history).items item ≡ Some (record { value = after.value; stamp = after.stamp })

pub record IsEndedOf (tx status before after : ℕ) (s t : OpenSeen) : Type 0 where
  pub same : t ≡ s
  pub status_is : status ≡ tx_status s.board tx
  pub refused : status ≢ 0 → after ≡ before
  pub ended : (history : List Entry) → status ≡ 0 → Stands s.board history → after ≡ ended_of s.board.set history tx

pub record IsResponseOf (tx status before after : ℕ) (s t : OpenSeen) : Type 0 where
  pub same : t ≡ s
  pub status_is : status ≡ bound_status s.admitted tx
  pub refused : status ≢ 0 → after ≡ before
  pub response_is : (set : Set) → status ≡ 0 → s.admitted ≡ Some set → response set tx ≡ Some after

pub record IsBlockingOf (tx status before after : ℕ) (s t : OpenSeen) : Type 0 where
  pub same : t ≡ s
  pub status_is : status ≡ bound_status s.admitted tx
  pub refused : status ≢ 0 → after ≡ before
  pub blocking_is : (set : Set) → status ≡ 0 → s.admitted ≡ Some set → after ≡ blocking set (txn_of set tx).prio

pub record IsAgeOf (item status before after : ℕ) (s t : OpenSeen) : Type 0 where
  pub same : t ≡ s
  pub age_is : IsAgeIn s.admitted item status before after

pub record Drained (status count : ℕ) (before after : List EntryForm) (s t : OpenSeen) : Type 0 where
  pub status_is : status ≡ 0
  pub count_is : count ≡ min (length before) (min (length s.board.journal.kept) 64)
  pub moved : after ≡ map form_of_entry (take count s.board.journal.kept) ++ drop count before
  pub left : t.board.journal.kept ≡ drop count s.board.journal.kept
  pub keeps : Keeps s t
  pub first : t.board.journal.first ≡ s.board.journal.first + count
  pub stands : (history : List Entry) → Stands s.board history → Stands t.board history
