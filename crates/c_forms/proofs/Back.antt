-- Each record is read back as what it was made of.
use Rattle.std.proofs.Common.{◌≡◌, ℕ, ℤ, refl, ap, ◌∙◌, lit≤}
use Rattle.std.specs.Prelude.{Option, None, Some, Err}
use Rattle.rt_base.specs.declared.ids.JobId.{JobId}
use Rattle.rt_base.specs.declared.operation.Op.{Op}
use Rattle.rt_base.specs.declared.operation.Op.TheVariants as op
use Rattle.rt_base.specs.declared.operation.End.{End}
use Rattle.rt_base.specs.declared.operation.End.TheVariants as end
use Rattle.rt_base.specs.declared.operation.Outcome.{Outcome}
use Rattle.rt_base.specs.declared.operation.Outcome.TheVariants as outcome
use Rattle.rt_base.specs.declared.release.PlanRefused.TheVariants as refused
use Rattle.item_model.specs.declared.decl.ItemKind.TheVariants.{Sensor, Derived, State}
use Rattle.item_model.specs.declared.decl.ItemKind.{ItemKind}
use Rattle.item_model.specs.declared.decl.ItemDecl.{ItemDecl}
use Rattle.board.specs.declared.replies.StepReply.TheVariants as reply
use Rattle.board.specs.declared.replies.IdleReply.TheVariants as idle
use Rattle.step_journal.specs.declared.entry.Entry.TheVariants as entry
use Rattle.txn_compiler.specs.declared.error.Which.{Which}
use Rattle.txn_compiler.specs.declared.error.Which.TheVariants as which
use Rattle.txn_compiler.specs.declared.error.CompileError.TheVariants as rule
use Rattle.set_admission.specs.declared.error.AdmitError.TheVariants as admission
use Rattle.c_forms.specs.declared.refusals.Refused.TheVariants as opening
use Rattle.c_forms.specs.declared.forms.StepForm.{StepForm}
use Rattle.c_forms.specs.Forms.{form_of_job, end_of, form_of_step, with_op, bare_entry, form_of_entry}
use Rattle.c_forms.specs.Back.{outcome_of, entry_of}
use Rattle.c_forms.specs.Refusals.{number_of_which, which_of}
use Rattle.c_forms.specs.Rows.{IsKind, row_of_item, item_of_row}
use Rattle.c_forms.specs.Laws.{JobsComeBack, EndsComeBack, StepsComeBack, PlansComeBack, NextPlansComeBack, IdlesComeBack, EntriesComeBack, OperationsAreNamed, RefusalsComeBack, ItemsHaveRows}

pub jobs_back : JobsComeBack
jobs_back job = refl

pub ends_back : EndsComeBack
ends_back (Some (end.Stale item stamp)) = refl
ends_back end = refl

pub steps_back : StepsComeBack
steps_back (reply.Done (outcome.Got value None) over) = ap (λ (e : Option End). reply.Done (outcome.Got value None) e) (ends_back over)
steps_back (reply.Done told over) = ap (λ (e : Option End). reply.Done told e) (ends_back over)
steps_back (reply.NoJob ended last) = ap (λ (e : Option End). reply.NoJob ended e) (ends_back last)
steps_back answer = refl

pub plans_back : PlansComeBack
plans_back tick (Err (refused.Past now)) = refl
plans_back tick answer = refl

pub next_plans_back : NextPlansComeBack
next_plans_back (Err (refused.Past now)) = refl
next_plans_back answer = refl

pub idles_back : IdlesComeBack
idles_back idle.Nothing = refl
idles_back answer = refl

pub operations_named : OperationsAreNamed
operations_named kind op.Quit = refl
operations_named kind asked = refl

-- the entry of a step, by its operation
asked_back : (job : JobId) (asked : Op) (answer : StepForm) (tick : ℕ)
    → entry_of (with_op asked (record (bare_entry 1) { job = form_of_job job; tick = tick; answer = answer })) ≡ entry.Step job asked (outcome_of answer) (end_of answer.over) tick
asked_back job op.Quit answer tick = refl
asked_back job asked answer tick = refl

-- the outcome and the end of a granted step
told_back : (told : Outcome) (over : Option End) → outcome_of (form_of_step (reply.Done told over)) ≡ told
told_back (outcome.Got v None) over = refl
told_back told over = refl

over_back : (told : Outcome) (over : Option End) → end_of (form_of_step (reply.Done told over)).over ≡ over
over_back (outcome.Got v None) over = ends_back over
over_back told over = ends_back over

step_back : (job : JobId) (asked : Op) (told : Outcome) (over : Option End) (tick : ℕ) → entry_of (form_of_entry (entry.Step job asked told over tick)) ≡ entry.Step job asked told over tick
step_back job asked told over tick =
    let answer = form_of_step (reply.Done told over) in
    asked_back job asked answer tick
    ∙ ap (λ (o : Outcome). entry.Step job asked o (end_of answer.over) tick) (told_back told over)
    ∙ ap (λ (e : Option End). entry.Step job asked told e tick) (over_back told over)

pub entries_back : EntriesComeBack
entries_back (entry.Step job asked told over tick) = step_back job asked told over tick
entries_back (entry.Blocked job op.Quit by ceiling tick) = refl
entries_back entry = refl

which_back : (w : Which) → which_of (number_of_which w) ≡ w
which_back which.Prio = refl
which_back w = refl

pub refusals_back : RefusalsComeBack
refusals_back (opening.NotCompiled (rule.BadTimes tx w)) = ap (λ (x : Which). opening.NotCompiled (rule.BadTimes tx x)) (which_back w)
refusals_back (opening.NotAdmitted admission.OutOfMemory) = refl
refusals_back why = refl

item_back : (kind : ItemKind) (initial : ℤ) → let item : ItemDecl = record { kind = kind; initial = initial } in IsKind (row_of_item item) × (item_of_row (row_of_item item) ≡ item)
item_back (Sensor validity) initial = (lit≤ tt, refl)
item_back (Derived validity) initial = (lit≤ tt, refl)
item_back State initial = (lit≤ tt, refl)

pub items_have_rows : ItemsHaveRows
items_have_rows item = item_back item.kind item.initial
