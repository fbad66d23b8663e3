-- What rates are good for: they keep the validities, no assignment of periods that keeps them has a greater one, and where
-- there are none, no assignment keeps them.
use Rattle.std.specs.Prelude.{◌≡◌, ◌≢◌, ◌↔◌, ℕ, ◌+◌, ◌<◌, ◌≤◌, List, length, Some, None, IsTrue}
use Rattle.txn_set.specs.Set.{Set, txn_of}
use Rattle.law_times.specs.Response.{response}
use Rattle.update_rates.specs.declared.updaters.Updater.{Updater}
use Rattle.update_rates.specs.declared.error.RateError.{RateError}
use Rattle.update_rates.specs.declared.error.RateError.TheVariants.{Compile, NotAnUpdater, TooTight, OutOfMemory}
use Rattle.update_rates.specs.Updaters.{updater_at, updaters}
use Rattle.update_rates.specs.Rates.{is_earlier, place_of, load, longest, least_window, deadline, period}
use Rattle.update_rates.specs.Refusal.{too_tight}

-- each updater has a place of its own, and the earlier one has the lesser place
pub record ArePlaced (us : List Updater) : Type 0 where
  pub in_range : (tx : ℕ) → tx < length us → place_of us tx < length us
  pub in_order :
      (h tx : ℕ) → h < length us → tx < length us
      → IsTrue (is_earlier us h tx) ↔ (place_of us h < place_of us tx)
  pub alone : (h tx : ℕ) → h < length us → tx < length us → h ≢ tx → place_of us h ≢ place_of us tx

abbrev pub PlacesInOrder : Type 0
PlacesInOrder = (us : List Updater) → ArePlaced us

-- each deadline is the least window that holds its load, with the periods that the deadlines leave
abbrev pub DeadlinesAreLeast : Type 0
DeadlinesAreLeast = (us : List Updater) (tx : ℕ) → tx < length us → deadline us tx ≡ least_window us (period us) tx

-- the period of an updater keeps the validity of what it writes: the least window that holds the load exists and is
-- within the period, and both together are within the validity
pub record KeepsValidity (us : List Updater) (periods : ℕ → ℕ) (tx : ℕ) : Type 0 where
  pub some : 1 ≤ periods tx
  pub few : periods tx ≤ longest
  pub window : ℕ
  pub from : 1 ≤ window
  pub fits : load us periods tx window ≤ window
  pub least : (w : ℕ) → 1 ≤ w → load us periods tx w ≤ w → window ≤ w
  pub within : window ≤ periods tx
  pub valid : periods tx + window ≤ (updater_at us tx).validity

-- an assignment of periods keeps the validities
abbrev pub Keeps : Set → (ℕ → ℕ) → Type 0
Keeps set periods = (tx : ℕ) → tx < length set.txns → KeepsValidity (updaters set) periods tx

-- the periods keep the validities, and each assignment that keeps them has no period that is greater
pub record AreGreatest (set : Set) (periods : ℕ → ℕ) : Type 0 where
  pub keep : Keeps set periods
  pub greatest : (others : ℕ → ℕ) → Keeps set others → (tx : ℕ) → tx < length set.txns → others tx ≤ periods tx

abbrev pub PeriodsAreGreatest : Type 0
PeriodsAreGreatest = (set : Set) → too_tight (updaters set) ≡ None → AreGreatest set (period (updaters set))

-- no assignment keeps the validities
abbrev pub AreTooTight : Set → Type 0
AreTooTight set = (periods : ℕ → ℕ) → ¬ Keeps set periods

abbrev pub TightUnlessKept : Type 0
TightUnlessKept = (set : Set) → too_tight (updaters set) ≢ None → AreTooTight set

-- a set with rates: its periods are the greatest that keep the declared validities, and each deadline is the response
pub record HasBestRates (declared rated : Set) : Type 0 where
  pub periods : AreGreatest declared (λ tx. (txn_of rated tx).period)
  pub responses : (tx : ℕ) → tx < length rated.txns → response rated tx ≡ Some (txn_of rated tx).deadline

-- what an error tells of the assignments
abbrev pub TellsTight : Set → RateError → Type 0
TellsTight set (Compile error) = Unit {0}
TellsTight set (NotAnUpdater tx) = Unit {0}
TellsTight set (TooTight tx demand) = AreTooTight set
TellsTight set OutOfMemory = Unit {0}
