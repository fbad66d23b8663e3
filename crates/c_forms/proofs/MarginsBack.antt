-- Each margin is read back.
use Rattle.std.proofs.Common.{◌≡◌, ℕ, refl, ap}
use Rattle.std.specs.Prelude.{Option, Some}
use Rattle.txn_compiler.specs.declared.error.Which.TheVariants as which
use Rattle.txn_compiler.specs.declared.error.CompileError.TheVariants as rule
use Rattle.set_admission.specs.declared.error.AdmitError.TheVariants as admission
use Rattle.scale_margin.specs.declared.barrier.Barrier.{Barrier}
use Rattle.scale_margin.specs.declared.barrier.Barrier.TheVariants.{Compile, Admit}
use Rattle.scale_margin.specs.Barriers.{IsCause}
use Rattle.c_forms.specs.Margins.{form_of_margin}
use Rattle.c_forms.specs.MarginLaws.{barrier_of, MarginsComeBack}

barrier_back : (percent : ℕ) (barrier : Option Barrier) → IsCause barrier → barrier_of (form_of_margin (record { percent = percent; barrier = barrier })) ≡ barrier
barrier_back percent (Some (Compile (rule.BadTimes tx which.Prio))) cause = refl
barrier_back percent (Some (Compile rule.OutOfMemory)) cause = absurd (cause.0 refl)
barrier_back percent (Some (Admit admission.OutOfMemory)) cause = absurd (cause.1 refl)
barrier_back percent barrier cause = refl

pub margins_back : MarginsComeBack
margins_back margin cause = ap (λ (b : Option Barrier). record margin { barrier = b }) (barrier_back margin.percent margin.barrier cause)
