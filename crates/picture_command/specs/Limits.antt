-- What admission found of a set: nothing in a trial.
use Rattle.std.specs.Prelude.{ℕ, zero, suc, Bool, true, false, if◌then◌else◌, List, [], ◌∷◌, ◌++◌, length}
use Rattle.item_model.specs.Kinds.{is_dated}
use Rattle.txn_set.specs.Set.{Set}
use Rattle.set_admission.specs.Bounds.{response_of, age_of}
use Rattle.schedule_marks.specs.declared.showing.Limits.{Limits}

-- the values of a function at the numbers below one
abbrev pub firsts : (ℕ → ℕ) → ℕ → List ℕ
firsts f zero = []
firsts f (suc n) = firsts f n ++ f n ∷ []

-- the age bound of an item, and 0 of a state item
abbrev pub age_or_none : Set → ℕ → ℕ
age_or_none set item = if is_dated set.items item then age_of set item else 0

abbrev pub responses_in : Set → List ℕ
responses_in set = firsts (response_of set) (length set.txns)

abbrev pub ages_in : Set → List ℕ
ages_in set = firsts (age_or_none set) (length set.items)

abbrev pub limits_of : Set → Bool → Limits
limits_of set true = record { responses = responses_in set; ages = ages_in set }
limits_of set false = record { responses = []; ages = [] }
