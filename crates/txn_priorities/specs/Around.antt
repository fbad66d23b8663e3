-- What the test of one level knows of the others.
use Rattle.std.specs.Prelude.{◌≡◌, ℕ, Bool, if◌then◌else◌, List}
use Rattle.txn_set.specs.Set.{Set}
use Rattle.law_times.specs.Response.{higher_demand}
use Rattle.response_test.specs.declared.windows.Load.{Load}
use Rattle.response_test.specs.Loads.{uses}
use Rattle.law_times.specs.Assigned.{with_prios}
use Rattle.law_times.specs.Pass.{trial, is_placed}

-- the placed ones below, and all others above
abbrev pub around : (ℕ → Bool) → ℕ → ℕ
around placed t = if placed t then 1 else 3

abbrev pub around_set : Set → List ℕ → Set
around_set set prios = with_prios (around (is_placed prios)) set

abbrev pub trial_set : Set → List ℕ → ℕ → Set
trial_set set prios tx = with_prios (trial (is_placed prios) tx) set

-- the loads are those of the ones above it
abbrev pub StandForHigher : Set → List ℕ → ℕ → List Load → Type 0
StandForHigher set prios tx loads = (w : ℕ) → uses w loads ≡ higher_demand 2 w (trial_set set prios tx).txns
