-- Generated sets are admitted.
use Rattle.std.specs.Prelude.{◌≡◌, ℕ, ◌+◌, ◌*◌, ◌<◌, ◌≤◌, None, false}
use Rattle.item_model.specs.Kinds.{is_derived}
use Rattle.txn_set.specs.Set.{Set}
use Rattle.step_script.specs.Shown.{set_of}
use Rattle.set_admission.specs.Admission.{refusal}
use Rattle.set_admission.specs.Bounds.{response_of, age_of}
use Rattle.scenario_writer.specs.Generated.{period_of, generated_of}

abbrev pub generated_set : ℕ → Set
generated_set n = set_of (generated_of n)

-- Nothing refuses the set. Each response is at most four steps for each transaction, and the three steps by which a lower
-- job may delay. The age bound of an item that is not derived is at most that and a period.
pub record IsAdmittedAt (n : ℕ) : Type 0 where
  pub admitted : refusal (generated_set n) ≡ None
  pub responses : (tx : ℕ) → tx < n → response_of (generated_set n) tx ≤ 4 * n + 3
  pub ages :
      (item : ℕ) → is_derived (generated_set n).items item ≡ false
      → age_of (generated_set n) item ≤ period_of n + (4 * n + 3)

abbrev pub GeneratedAdmitted : Type 0
GeneratedAdmitted = (n : ℕ) → 1 ≤ n → n ≤ 64 → IsAdmittedAt n
