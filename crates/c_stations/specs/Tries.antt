-- What a seat's calls answer to a program in C.
use Rattle.std.specs.Prelude.{◌≡◌, ◌≢◌, ◌⊎◌, ℕ, ◌-◌, ◌++◌, nat_lt, if◌then◌else◌, is_some, List, [], length, map, drop, Option, None, Some, Result, slice_get}
use Rattle.rt_base.specs.declared.ids.TxId.{TxId}
use Rattle.rt_base.specs.declared.ids.JobId.{JobId}
use Rattle.rt_base.specs.declared.operation.Op.{Op}
use Rattle.rt_base.specs.declared.release.PlanRefused.{PlanRefused}
use Rattle.board.specs.declared.replies.StepReply.{StepReply}
use Rattle.board.specs.declared.replies.IdleReply.{IdleReply}
use Rattle.board.specs.Histories.{plan_entry, plan_next_entry, step_entry, idle_entry, plan_answer, plan_next_answer, step_answer, idle_answer, now_of}
use Rattle.step_journal.specs.declared.entry.Entry.{Entry}
use Rattle.step_journal.specs.History.{state_of}
use Rattle.set_admission.specs.Laws.{KeepsBounds}
use Rattle.shared_plant.specs.Answers.{Answered, Drained, nothing, missed_once}
use Rattle.c_core.specs.Calls.{in_set}
use Rattle.c_forms.specs.Forms.{op_named, form_of_step, form_of_plan, form_of_plan_next, form_of_idle, form_of_entry}
use Rattle.c_core.specs.declared.checked.StoredForm.{StoredForm}
use Rattle.c_forms.specs.declared.forms.OpForm.{OpForm}
use Rattle.c_forms.specs.declared.forms.StepForm.{StepForm}
use Rattle.c_forms.specs.declared.forms.TimeForm.{TimeForm}
use Rattle.c_forms.specs.declared.entries.EntryForm.{EntryForm}
use Rattle.c_stations.specs.Seats.{SeatSeen, seen_of}

-- a seat that found the turn taken once more: nothing else of it changes
abbrev pub passed_over : SeatSeen → SeatSeen
passed_over s = seen_of s.plant (missed_once s.seat) s.left

-- One try by a seat. Where `refusal` is not 0 it is the status, and nothing changes. Else the status is 26 where the turn was
-- taken: the seat counts that, and nothing else of it changes; or it is 0, and `said` holds. After each status but 0 what is
-- to be written to is as it was, which `kept` says.
pub record Tries (refusal status : ℕ) (kept : Type 0) (said : SeatSeen → SeatSeen → Type 0) (old new : SeatSeen) : Type 0 where
  pub refused : refusal ≢ 0 → (status ≡ refusal) × (new ≡ old) × kept
  pub tried : refusal ≡ 0 → (status ≡ 0) ⊎ (status ≡ 26)
  pub busy : refusal ≡ 0 → status ≡ 26 → (new ≡ passed_over old) × kept
  pub told : refusal ≡ 0 → status ≡ 0 → said old new

-- What a seat's call promises: it had the turn once, in the one legal history of the plant, which begins with all that the
-- seat had seen. It was answered there what `found` says, and its entry, if it made one, is now the last that the seat has
-- seen, at its place among the seat's own. In the history that it has seen no job is late, and all bounds are kept.
pub record HadItsTurn (found : List Entry → ℕ → Type 0) (own : List Entry → Option Entry) (old new : SeatSeen) : Type 0 where
  pub same : new ≡ seen_of old.plant new.seat old.left
  pub answered : Answered old.plant.set found own old.seat new.seat
  pub bounds : KeepsBounds old.plant.set new.seat.seen

abbrev pub job_at : TxId → ℕ → JobId
job_at tx serial = record { tx = tx; serial = serial }

-- 27 by the operator's seat, and else 3 where the number names no operation
abbrev pub step_refusal : Option TxId → OpForm → ℕ
step_refusal None form = 27
step_refusal (Some tx) form = if is_some (op_named form) then 0 else 3

-- the job is one of the seat's own transaction
pub record StepSaid (serial : ℕ) (op : OpForm) (after : StepForm) (old new : SeatSeen) : Type 0 where
  pub tx : TxId
  pub asked : Op
  pub reply : StepReply
  pub own : old.seat.tx ≡ Some tx
  pub named : op_named op ≡ Some asked
  pub form : after ≡ form_of_step reply
  pub turn : HadItsTurn (λ history base. reply ≡ step_answer old.plant.set history (length history - base) old.plant.room (job_at tx serial) asked)
      (λ history. step_entry (now_of old.plant.set history) (job_at tx serial) asked reply) old new

abbrev pub SeatStepped : (serial : ℕ) → OpForm → (status : ℕ) → StepForm → StepForm → SeatSeen → SeatSeen → Type 0
SeatStepped serial op status before after old new = Tries (step_refusal old.seat.tx op) status (after ≡ before) (StepSaid serial op after) old new

pub record PlanSaid (tx tick : ℕ) (after : TimeForm) (old new : SeatSeen) : Type 0 where
  pub reply : Result JobId PlanRefused
  pub form : after ≡ form_of_plan tick reply
  pub turn : HadItsTurn (λ history base. reply ≡ plan_answer old.plant.set history (length history - base) old.plant.room tx tick) (λ history. plan_entry (record { 0 = tx }) tick reply) old new

abbrev pub SeatPlanned : (tx tick status : ℕ) → TimeForm → TimeForm → SeatSeen → SeatSeen → Type 0
SeatPlanned tx tick status before after old new = Tries (in_set old.plant.set tx) status (after ≡ before) (PlanSaid tx tick after) old new

pub record PlanNextSaid (tx : ℕ) (after : TimeForm) (old new : SeatSeen) : Type 0 where
  pub reply : Result (JobId × ℕ) PlanRefused
  pub form : after ≡ form_of_plan_next reply
  pub turn : HadItsTurn (λ history base. reply ≡ plan_next_answer old.plant.set history (length history - base) old.plant.room tx) (λ history. plan_next_entry (record { 0 = tx }) reply) old new

abbrev pub SeatPlannedNext : (tx status : ℕ) → TimeForm → TimeForm → SeatSeen → SeatSeen → Type 0
SeatPlannedNext tx status before after old new = Tries (in_set old.plant.set tx) status (after ≡ before) (PlanNextSaid tx after) old new

pub record IdleSaid (after : TimeForm) (old new : SeatSeen) : Type 0 where
  pub reply : IdleReply
  pub form : after ≡ form_of_idle reply
  pub turn : HadItsTurn (λ history base. reply ≡ idle_answer old.plant.set history (length history - base) old.plant.room) (λ history. idle_entry (now_of old.plant.set history) reply) old new

abbrev pub SeatIdled : (status : ℕ) → TimeForm → TimeForm → SeatSeen → SeatSeen → Type 0
SeatIdled status before after old new = Tries 0 status (after ≡ before) (IdleSaid after) old new

-- 5 where the number names no item of the set
abbrev pub item_refusal : SeatSeen → ℕ → ℕ
item_refusal s item = if nat_lt item (length s.plant.set.items) then 0 else 5

abbrev pub SeatPeeked : (item status : ℕ) → StoredForm → StoredForm → SeatSeen → SeatSeen → Type 0
SeatPeeked item status before after old new =
    Tries (item_refusal old item) status (after ≡ before)
    (HadItsTurn (λ history base. slice_get (state_of old.plant.set history).items item ≡ Some (record { value = after.value; stamp = after.stamp })) nothing) old new

-- 27 by each other seat than the operator's
abbrev pub drain_refusal : Option TxId → ℕ
drain_refusal None = 0
drain_refusal (Some tx) = 27

-- the oldest kept entries, which the operator's seat had not drained
pub record DrainSaid (count : ℕ) (before after : List EntryForm) (old new : SeatSeen) : Type 0 where
  pub entries : List Entry
  pub many : length entries ≡ count
  pub moved : after ≡ map form_of_entry entries ++ drop count before
  pub same : new ≡ seen_of old.plant new.seat old.left
  pub drained : Drained old.plant (length before) 64 [] entries count old.seat new.seat
  pub bounds : KeepsBounds old.plant.set new.seat.seen

abbrev pub SeatDrained : (status count_before count : ℕ) → List EntryForm → List EntryForm → SeatSeen → SeatSeen → Type 0
SeatDrained status count_before count before after old new =
    Tries (drain_refusal old.seat.tx) status ((count ≡ count_before) × (after ≡ before)) (DrainSaid count before after) old new
