-- Laws of other steps and of other validities.
use Rattle.std.specs.Prelude.{◌≡◌, ◌↔◌, ℕ, ◌<◌, ◌≤◌, length, None, Some, IsTrue}
use Rattle.item_model.specs.Kinds.{validity_of}
use Rattle.txn_set.specs.Set.{Set, txn_of, IsCompiled}
use Rattle.law_times.specs.Ages.{IsAdmitted}
use Rattle.set_admission.specs.Bounds.{age_of}
use Rattle.scale_margin.specs.Steps.{with_steps, IsAccepted, IsCount, barrier_at}
use Rattle.scale_margin.specs.Spares.{with_validity, is_read}

-- with its own steps the set is as it was
abbrev pub SameAtOwn : Type 0
SameAtOwn = (set : Set) (tx : ℕ) → tx < length set.txns → with_steps set tx (txn_of set tx).steps ≡ set

-- a count breaks no rule of compiling
abbrev pub CompiledAtCounts : Type 0
CompiledAtCounts = (set : Set) (tx count : ℕ) → IsCompiled set → IsCount set tx count → IsCompiled (with_steps set tx count)

-- nothing bars a count exactly if it is accepted
abbrev pub SlackUnlessBarred : Type 0
SlackUnlessBarred = (set : Set) (tx count : ℕ) → IsCompiled set → IsCount set tx count
    → (barrier_at set tx count ≡ None) ↔ IsAccepted set tx count

-- what is accepted at one count is accepted at each smaller one
abbrev pub SlackFallsOnce : Type 0
SlackFallsOnce = (set : Set) (tx count fewer : ℕ) → IsCompiled set → IsCount set tx fewer → fewer ≤ count
    → IsAccepted set tx count → IsAccepted set tx fewer

-- With another validity of an item an admitted set is compiled, and it is admitted exactly if nobody reads the item or the
-- validity is at least its age bound.
pub record IsSpare (set : Set) (item validity : ℕ) : Type 0 where
  pub compiled : IsCompiled (with_validity set item validity)
  pub admitted : IsAdmitted (with_validity set item validity) ↔ (IsTrue (is_read set.txns item) → age_of set item ≤ validity)

abbrev pub SpareIsLeast : Type 0
SpareIsLeast = (set : Set) (item validity : ℕ) (own : ℕ) → IsCompiled set → IsAdmitted set
    → validity_of set.items item ≡ Some own → IsSpare set item validity
