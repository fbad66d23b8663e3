-- What the calls of a station answer beside what the core answers: 0 where the call was made, and else why not.
use Rattle.std.specs.Prelude.{◌≡◌, ℕ, ◌<◌, ◌≤◌, nat_lt, if◌then◌else◌, List, length, Option, None, Some, Result, is_some}
use Rattle.rt_base.specs.declared.ids.JobId.{JobId}
use Rattle.rt_base.specs.declared.operation.Op.{Op}
use Rattle.rt_base.specs.declared.release.PlanRefused.{PlanRefused}
use Rattle.board.specs.declared.replies.StepReply.{StepReply}
use Rattle.board.specs.declared.replies.IdleReply.{IdleReply}
use Rattle.step_journal.specs.declared.entry.Entry.{Entry}
use Rattle.board.specs.Histories.{plan_answer, plan_next_answer, step_answer, idle_answer}
use Rattle.txn_set.specs.Set.{Set}
use Rattle.item_model.specs.Kinds.{is_dated}
use Rattle.set_admission.specs.Bounds.{age_of}
use Rattle.lock_core.specs.Seen.{CoreSeen}
use Rattle.c_forms.specs.declared.forms.JobForm.{JobForm}
use Rattle.c_forms.specs.declared.forms.OpForm.{OpForm}
use Rattle.c_forms.specs.Forms.{op_named, form_of_job}

-- the same of a set
abbrev pub in_set : Set → ℕ → ℕ
in_set set tx = if nat_lt tx (length set.txns) then 0 else 4

-- 4 where the number names no transaction of the set
abbrev pub tx_status : CoreSeen → ℕ → ℕ
tx_status core tx = if nat_lt tx (length core.set.txns) then 0 else 4

-- 5 where the number names no item of the set
abbrev pub item_status : CoreSeen → ℕ → ℕ
item_status core item = if nat_lt item (length core.set.items) then 0 else 5

-- 3 where the number names no operation, and else as above
abbrev pub step_status : CoreSeen → ℕ → OpForm → ℕ
step_status core tx form = if is_some (op_named form) then tx_status core tx else 3

-- what a core that stands for this history answers
abbrev pub step_reply_of : CoreSeen → List Entry → JobId → Op → StepReply
step_reply_of core history job asked = step_answer core.set history (length core.journal.kept) core.journal.room job asked

abbrev pub plan_reply_of : CoreSeen → List Entry → (tx tick : ℕ) → Result JobId PlanRefused
plan_reply_of core history tx tick = plan_answer core.set history (length core.journal.kept) core.journal.room tx tick

abbrev pub plan_next_reply_of : CoreSeen → List Entry → (tx : ℕ) → Result (JobId × ℕ) PlanRefused
plan_next_reply_of core history tx = plan_next_answer core.set history (length core.journal.kept) core.journal.room tx

abbrev pub idle_reply_of : CoreSeen → List Entry → IdleReply
idle_reply_of core history = idle_answer core.set history (length core.journal.kept) core.journal.room

-- what is answered where this is the running job: 6 where there is none
abbrev pub IsRunning : Option JobId → ℕ → JobForm → JobForm → Type 0
IsRunning None status before after = (status ≡ 6) × (after ≡ before)
IsRunning (Some job) status before after = (status ≡ 0) × (after ≡ form_of_job job)

-- the same where a set was admitted, and 10 where none was
abbrev pub bound_status : Option Set → ℕ → ℕ
bound_status None tx = 10
bound_status (Some set) tx = in_set set tx

-- what is answered where this is the age bound: 6 where there is none
abbrev pub IsAge : Option ℕ → ℕ → ℕ → ℕ → Type 0
IsAge None status before after = (status ≡ 6) × (after ≡ before)
IsAge (Some age) status before after = (status ≡ 0) × (after ≡ age)

-- the age bound of an item of the admitted set: 10 where none was admitted, 5 where it is none of the set
abbrev pub IsAgeOf : Option Set → ℕ → ℕ → ℕ → ℕ → Type 0
IsAgeOf None item status before after = (status ≡ 10) × (after ≡ before)
IsAgeOf (Some set) item status before after =
    (length set.items ≤ item → (status ≡ 5) × (after ≡ before)) × (item < length set.items → IsAge (if is_dated set.items item then Some (age_of set item) else None) status before after)
