-- The laws of assigning priorities.
use Rattle.std.specs.Prelude.{◌≡◌, ◌≢◌, ◌↔◌, ℕ, ◌<◌, ◌≤◌, Bool, true, false, List, length}
use Rattle.txn_set.specs.Set.{Set, IsCompiled}
use Rattle.txn_set.specs.Ceilings.{blocking}
use Rattle.law_times.specs.Response.{demand, response, IsResponse}
use Rattle.law_times.specs.Assigned.{with_prios, IsAssignment, RespondsWithin, Keeps}
use Rattle.law_times.specs.Pass.{trial, prio_at, pass, AreGiven, IsStuck}

-- by two assignments the same transactions are above one, and the same are below it
pub record StandsAlike (set : Set) (p q : ℕ → ℕ) (tx : ℕ) : Type 0 where
  pub above : (t : ℕ) → t < length set.txns → (p tx < p t) ↔ (q tx < q t)
  pub below : (t : ℕ) → t < length set.txns → (p t < p tx) ↔ (q t < q tx)

pub record RespondsAlike (set : Set) (p q : ℕ → ℕ) (tx : ℕ) : Type 0 where
  pub one_blocking : blocking (with_prios p set) (p tx) ≡ blocking (with_prios q set) (q tx)
  pub one_demand : (w : ℕ) → demand (with_prios p set) tx w ≡ demand (with_prios q set) tx w
  pub one_response : response (with_prios p set) tx ≡ response (with_prios q set) tx

abbrev pub SetsAlone : Type 0
SetsAlone = (set : Set) (p q : ℕ → ℕ) (tx : ℕ) → tx < length set.txns → 1 ≤ p tx → 1 ≤ q tx → StandsAlike set p q tx
    → RespondsAlike set p q tx

-- one that stood above comes to stand below, and all else stays above or below
pub record GoesAbove (set : Set) (p q : ℕ → ℕ) (tx other : ℕ) : Type 0 where
  pub in_range : other < length set.txns
  pub before : p tx < p other
  pub after : q other < q tx
  pub above : (t : ℕ) → t < length set.txns → t ≢ other → (p tx < p t) ↔ (q tx < q t)
  pub below : (t : ℕ) → t < length set.txns → t ≢ other → (p t < p tx) ↔ (q t < q tx)

pub record IsNoWorse (set : Set) (p q : ℕ → ℕ) (tx : ℕ) : Type 0 where
  pub no_more : (w : ℕ) → 1 ≤ w → demand (with_prios q set) tx w ≤ demand (with_prios p set) tx w
  pub no_later : (r : ℕ) → IsResponse (with_prios p set) tx r → RespondsWithin (with_prios q set) tx r

abbrev pub UpIsNeverWorse : Type 0
UpIsNeverWorse = (set : Set) (p q : ℕ → ℕ) (tx other : ℕ) → IsCompiled set → tx < length set.txns → 1 ≤ p tx → 1 ≤ q tx
    → GoesAbove set p q tx other → IsNoWorse set p q tx

-- some transactions are the lowest ones
abbrev pub AreLowest : Set → (placed : ℕ → Bool) → (prios : ℕ → ℕ) → Type 0
AreLowest set placed prios = (a b : ℕ) → a < length set.txns → b < length set.txns → placed a ≡ true → placed b ≡ false
    → prios a < prios b

-- an assignment that keeps the limits, with some transactions as the lowest ones and one right above them
pub record KeepsWithNext (set : Set) (limits : ℕ → ℕ) (placed : ℕ → Bool) (tx : ℕ) : Type 0 where
  pub prios : ℕ → ℕ
  pub is : IsAssignment set prios
  pub keeps : Keeps set limits prios
  pub lowest : AreLowest set placed prios
  pub next : (t : ℕ) → t < length set.txns → placed t ≡ false → t ≢ tx → prios tx < prios t

abbrev pub Exchange : Type 0
Exchange = (set : Set) (limits : ℕ → ℕ) (placed : ℕ → Bool) (prios : ℕ → ℕ) (tx : ℕ) → IsCompiled set
    → IsAssignment set prios → Keeps set limits prios → AreLowest set placed prios
    → tx < length set.txns → placed tx ≡ false → RespondsWithin (with_prios (trial placed tx) set) tx (limits tx)
    → KeepsWithNext set limits placed tx

-- the priorities are those from 1 to the number of the transactions, and keep the limits
pub record IsSolved (set : Set) (limits : ℕ → ℕ) (prios : List ℕ) : Type 0 where
  pub one_each : length prios ≡ length set.txns
  pub few : (tx : ℕ) → tx < length set.txns → prio_at prios tx ≤ length set.txns
  pub is : IsAssignment set (prio_at prios)
  pub keeps : Keeps set limits (prio_at prios)

-- no assignment keeps the limits
abbrev pub NoneKeeps : Set → (limits : ℕ → ℕ) → Type 0
NoneKeeps set limits = (prios : ℕ → ℕ) → IsAssignment set prios → ¬ Keeps set limits prios

pub record IsDecidedBy (set : Set) (limits : ℕ → ℕ) : Type 0 where
  pub solved : AreGiven set limits (length set.txns) → IsSolved set limits (pass set limits)
  pub stuck : (below : ℕ) → IsStuck set limits below → NoneKeeps set limits

abbrev pub PassDecides : Type 0
PassDecides = (set : Set) (limits : ℕ → ℕ) → IsCompiled set → IsDecidedBy set limits
