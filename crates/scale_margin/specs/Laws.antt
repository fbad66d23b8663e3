-- What is accepted at one percentage is accepted at each smaller one.
use Rattle.std.specs.Prelude.{◌≡◌, ◌↔◌, ℕ, ◌≤◌, None}
use Rattle.std.specs.List.{All}
use Rattle.txn_set.specs.Set.{Set, IsCompiled}
use Rattle.txn_compiler.specs.Refusal.{compile_refusal}
use Rattle.set_admission.specs.Bounds.{MeetsAdmission, response_of, age_of}
use Rattle.scale_margin.specs.Scaled.{StepCounts, counted, AreFewer, steps_at, scaled}
use Rattle.scale_margin.specs.Barriers.{too_many_steps, barrier_at, IsAccepted}

-- fewer steps keep a set admitted, with no greater response and no greater age bound
pub record KeepsAdmitted (fewer more : Set) : Type 0 where
  pub admitted : MeetsAdmission fewer
  pub responses : (tx : ℕ) → response_of fewer tx ≤ response_of more tx
  pub ages : (item : ℕ) → age_of fewer item ≤ age_of more item

abbrev pub FewerStepsAdmitted : Type 0
FewerStepsAdmitted = (set : Set) (few many : StepCounts) → AreFewer few many → MeetsAdmission (counted many set)
    → KeepsAdmitted (counted few set) (counted many set)

-- of the rules of compiling a scaled set can break only the range of the steps
pub record IsJudgedBySteps (set : Set) (percent : ℕ) : Type 0 where
  pub refusal : compile_refusal (scaled set percent) ≡ too_many_steps (scaled set percent).txns
  pub compiled : (compile_refusal (scaled set percent) ≡ None) ↔ All (λ t. steps_at percent t.steps ≤ 10000) set.txns

abbrev pub JudgedBySteps : Type 0
JudgedBySteps = (set : Set) (percent : ℕ) → IsCompiled set → 1 ≤ percent → IsJudgedBySteps set percent

abbrev pub SameAtHundred : Type 0
SameAtHundred = (set : Set) → IsCompiled set → scaled set 100 ≡ set

abbrev pub AcceptedUnlessBarred : Type 0
AcceptedUnlessBarred = (set : Set) (percent : ℕ) → IsCompiled set → (barrier_at set percent ≡ None) ↔ IsAccepted set percent

abbrev pub AcceptedFallsOnce : Type 0
AcceptedFallsOnce = (set : Set) (percent smaller : ℕ) → IsCompiled set → 1 ≤ smaller → smaller ≤ percent
    → barrier_at set percent ≡ None → barrier_at set smaller ≡ None
