-- A margin as a plain record.
use Rattle.std.specs.Prelude.{◌≡◌, ℕ, Option, None, Some}
use Rattle.txn_set.specs.Set.{Set}
use Rattle.scale_margin.specs.declared.barrier.Barrier.{Barrier}
use Rattle.scale_margin.specs.declared.barrier.Barrier.TheVariants.{Compile, Admit}
use Rattle.scale_margin.specs.declared.barrier.Margin.{Margin}
use Rattle.scale_margin.specs.Margins.{IsMargin}
use Rattle.c_forms.specs.declared.refusals.Refused.TheVariants.{NotCompiled, NotAdmitted}
use Rattle.c_forms.specs.declared.refusals.RefusalForm.{RefusalForm}
use Rattle.c_forms.specs.Refusals.{bare_refusal, form_of_refusal}
use Rattle.c_forms.specs.declared.margin_forms.MarginForm.{MarginForm}

-- what bars a percentage: a status and a record, those of an opening that is refused for it
abbrev pub form_of_barrier : Option Barrier → ℕ × RefusalForm
form_of_barrier None = (0, bare_refusal 0 0 0 0)
form_of_barrier (Some (Compile error)) = form_of_refusal (NotCompiled error)
form_of_barrier (Some (Admit error)) = form_of_refusal (NotAdmitted error)

abbrev pub form_of_margin : Margin → MarginForm
form_of_margin margin = record { percent = margin.percent; barrier = (form_of_barrier margin.barrier).0; refusal = (form_of_barrier margin.barrier).1 }

-- the record is that of the set's margin
abbrev pub ToldMargin : Set → MarginForm → Type 0
ToldMargin set form = (margin : Margin) × IsMargin set margin × (form ≡ form_of_margin margin)
