-- A granted operation's record has what it is told and how the job ended, whichever is written first.
use Rattle.std.proofs.Common.{◌≡◌, refl}
use Rattle.std.specs.Prelude.{None, Some}
use Rattle.rt_base.specs.declared.operation.Outcome.{Outcome}
use Rattle.rt_base.specs.declared.operation.Outcome.TheVariants as outcome
use Rattle.c_forms.specs.declared.forms.EndForm.{EndForm}
use Rattle.c_forms.specs.Forms.{no_end, bare_step, with_outcome}

pub not_over : (o : Outcome) → (with_outcome o (bare_step 0)).over ≡ no_end
not_over (outcome.Got value None) = refl
not_over (outcome.Got value (Some stamp)) = refl
not_over outcome.Put = refl
not_over outcome.Computed = refl
not_over outcome.Closed = refl

pub told_over : (o : Outcome) (end : EndForm) → record (with_outcome o (bare_step 0)) { over = end } ≡ with_outcome o (record (bare_step 0) { over = end })
told_over (outcome.Got value None) end = refl
told_over (outcome.Got value (Some stamp)) end = refl
told_over outcome.Put end = refl
told_over outcome.Computed end = refl
told_over outcome.Closed end = refl
