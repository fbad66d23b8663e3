-- Nothing is lost between what a call answers and its record.
use Rattle.std.specs.Prelude.{◌≡◌, ℕ, Option, Some, Result}
use Rattle.rt_base.specs.declared.ids.JobId.{JobId}
use Rattle.rt_base.specs.declared.operation.Op.{Op}
use Rattle.rt_base.specs.declared.operation.End.{End}
use Rattle.rt_base.specs.declared.release.PlanRefused.{PlanRefused}
use Rattle.item_model.specs.declared.decl.ItemDecl.{ItemDecl}
use Rattle.board.specs.declared.replies.StepReply.{StepReply}
use Rattle.board.specs.declared.replies.IdleReply.{IdleReply}
use Rattle.step_journal.specs.declared.entry.Entry.{Entry}
use Rattle.c_forms.specs.declared.refusals.Refused.{Refused}
use Rattle.c_forms.specs.Forms.{op_named, job_of, bare_entry, form_of_asked, with_op, end_of, form_of_job, form_of_end, form_of_step, form_of_plan, form_of_plan_next, form_of_idle, form_of_entry}
use Rattle.c_forms.specs.Back.{step_of, plan_of, plan_next_of, idle_of, entry_of}
use Rattle.c_forms.specs.Refusals.{form_of_refusal, refusal_of, plain}
use Rattle.c_forms.specs.Rows.{IsKind, item_of_row, row_of_item}

abbrev pub JobsComeBack : Type 0
JobsComeBack = (job : JobId) → job_of (form_of_job job) ≡ job

abbrev pub EndsComeBack : Type 0
EndsComeBack = (end : Option End) → end_of (form_of_end end) ≡ end

abbrev pub StepsComeBack : Type 0
StepsComeBack = (reply : StepReply) → step_of (form_of_step reply) ≡ reply

abbrev pub PlansComeBack : Type 0
PlansComeBack = (tick : ℕ) (answer : Result JobId PlanRefused) → plan_of (form_of_plan tick answer) ≡ answer

abbrev pub NextPlansComeBack : Type 0
NextPlansComeBack = (answer : Result (JobId × ℕ) PlanRefused) → plan_next_of (form_of_plan_next answer) ≡ answer

abbrev pub IdlesComeBack : Type 0
IdlesComeBack = (answer : IdleReply) → idle_of (form_of_idle answer) ≡ answer

-- what each call answers
pub record AnswersComeBack : Type 0 where
  pub steps : StepsComeBack
  pub plans : PlansComeBack
  pub next_plans : NextPlansComeBack
  pub idles : IdlesComeBack

abbrev pub EntriesComeBack : Type 0
EntriesComeBack = (entry : Entry) → entry_of (form_of_entry entry) ≡ entry

-- an operation has the same numbers in an entry as in a call
abbrev pub OperationsAreNamed : Type 0
OperationsAreNamed = (kind : ℕ) (op : Op) → op_named (form_of_asked (with_op op (bare_entry kind))) ≡ Some op

-- wherever memory is wanted, it is told as one refusal
abbrev pub RefusalsComeBack : Type 0
RefusalsComeBack = (refused : Refused) → refusal_of (form_of_refusal refused) ≡ plain refused

-- each item can be declared by a row
abbrev pub ItemsHaveRows : Type 0
ItemsHaveRows = (item : ItemDecl) → IsKind (row_of_item item) × (item_of_row (row_of_item item) ≡ item)
