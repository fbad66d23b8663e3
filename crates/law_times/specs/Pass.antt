-- The pass from the lowest level up (Audsley): each level is given to the first transaction in list order, of those that have none,
-- which passes the response test there with all others of them above it.
use Rattle.std.specs.Prelude.{◌≡◌, ℕ, zero, suc, ◌<◌, ◌==◌, nat_lt, nat_le, Bool, false, ◌&&◌, not, if◌then◌else◌, List, length, slice_index_or, slice_set, replicate, Option, None, Some, IsSome}
use Rattle.std.specs.List.{count_by}
use Rattle.txn_set.specs.Set.{Set}
use Rattle.law_times.specs.Response.{response}
use Rattle.response_test.specs.Response.{least_from}
use Rattle.law_times.specs.Assigned.{with_prios}

-- a transaction in the middle: above the placed ones, and below all others
abbrev pub trial : (ℕ → Bool) → ℕ → ℕ → ℕ
trial placed tx t = if placed t then 1 else if t == tx then 2 else 3

-- the priority that a transaction has in a list, 0 as long as it has none
abbrev pub prio_at : List ℕ → ℕ → ℕ
prio_at prios tx = slice_index_or prios tx 0

abbrev pub is_placed : List ℕ → ℕ → Bool
is_placed prios tx = nat_lt 0 (prio_at prios tx)

-- how many have none yet
abbrev pub left : List ℕ → ℕ
left prios = count_by (λ p. p == 0) prios

-- whether there is a response of at most so many ticks
abbrev pub is_within : Option ℕ → ℕ → Bool
is_within None most = false
is_within (Some r) most = nat_le r most

-- whether a transaction that has no priority yet passes the response test in the middle
unfoldable pub passes : Set → (limits : ℕ → ℕ) → List ℕ → ℕ → Bool
passes set limits prios tx =
    not (is_placed prios tx) && is_within (response (with_prios (trial (is_placed prios) tx) set) tx) (limits tx)

-- the first in list order that does
abbrev pub first_passing : Set → (limits : ℕ → ℕ) → List ℕ → Option ℕ
first_passing set limits prios = least_from (passes set limits prios) 0 (length set.txns)

abbrev pub with_level : List ℕ → ℕ → Option ℕ → List ℕ
with_level prios level None = prios
with_level prios level (Some tx) = slice_set prios tx level

-- the priorities when the levels from 1 to this one are given
abbrev pub pass_to : Set → (limits : ℕ → ℕ) → ℕ → List ℕ
pass_to set limits zero = replicate (length set.txns) 0
pass_to set limits (suc level) =
    with_level (pass_to set limits level) (suc level) (first_passing set limits (pass_to set limits level))

abbrev pub pass : Set → (limits : ℕ → ℕ) → List ℕ
pass set limits = pass_to set limits (length set.txns)

-- each of the levels from 1 to this one is given
abbrev pub AreGiven : Set → (limits : ℕ → ℕ) → ℕ → Type 0
AreGiven set limits level = (below : ℕ) → below < level → IsSome (first_passing set limits (pass_to set limits below))

-- the level above this one is the first at which none passes
pub record IsStuck (set : Set) (limits : ℕ → ℕ) (below : ℕ) : Type 0 where
  pub in_range : below < length set.txns
  pub given : AreGiven set limits below
  pub none : first_passing set limits (pass_to set limits below) ≡ None
