-- What bars a percentage of a set's steps, as one total function.
use Rattle.std.specs.Prelude.{◌≡◌, ℕ, nat_lt, List, Option, Some}
use Rattle.std.specs.Option.{option_map}
use Rattle.item_model.specs.Work.{first_of_both}
use Rattle.txn_set.specs.Set.{Set, IsCompiled}
use Rattle.txn_set.specs.declared.decl.TxnDecl.{TxnDecl}
use Rattle.txn_compiler.specs.declared.error.Which.TheVariants.{Steps}
use Rattle.txn_compiler.specs.declared.error.CompileError.{CompileError}
use Rattle.txn_compiler.specs.declared.error.CompileError.TheVariants.{BadTimes, OutOfMemory as CompilerWant}
use Rattle.txn_compiler.specs.Refusal.{given, first_refusal, compile_refusal}
use Rattle.law_times.specs.Ages.{IsAdmitted}
use Rattle.set_admission.specs.declared.error.AdmitError.TheVariants.{OutOfMemory as AdmissionWant}
use Rattle.set_admission.specs.Admission.{refusal}
use Rattle.scale_margin.specs.declared.barrier.Barrier.{Barrier}
use Rattle.scale_margin.specs.declared.barrier.Barrier.TheVariants.{Compile, Admit}
use Rattle.scale_margin.specs.Scaled.{scaled}

-- the first transaction in list order that has more than 10,000 steps
abbrev pub too_many_steps : List TxnDecl → Option CompileError
too_many_steps txns = first_refusal (λ tx txn. given (nat_lt 10000 txn.steps) (BadTimes (record { 0 = tx }) Steps)) 0 txns

-- the refusal of a set: that of compiling it, else that of admitting it
abbrev pub barrier_of : Set → Option Barrier
barrier_of set = first_of_both (option_map Compile (compile_refusal set)) (option_map Admit (refusal set))

unfoldable pub barrier_at : Set → ℕ → Option Barrier
barrier_at set percent = barrier_of (scaled set percent)

-- a percentage is accepted where the scaled set is compiled and admitted
pub record IsAccepted (set : Set) (percent : ℕ) : Type 0 where
  pub compiled : IsCompiled (scaled set percent)
  pub admitted : IsAdmitted (scaled set percent)

-- want of memory is no barrier
abbrev pub IsCause : Option Barrier → Type 0
IsCause barrier = ¬ (barrier ≡ Some (Compile CompilerWant)) × ¬ (barrier ≡ Some (Admit AdmissionWant))
