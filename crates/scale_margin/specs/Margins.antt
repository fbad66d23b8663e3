-- The margin of a set: how many of the percentages from 1 to 1000 are accepted, by trying each, and what bars the next.
use Rattle.std.specs.Prelude.{◌≡◌, ◌↔◌, ◌⊎◌, ℕ, zero, suc, ◌+◌, ◌≤◌, nat_le, if◌then◌else◌, Option, None, is_none}
use Rattle.txn_set.specs.Set.{Set}
use Rattle.scale_margin.specs.declared.barrier.Barrier.{Barrier}
use Rattle.scale_margin.specs.declared.barrier.Margin.{Margin}
use Rattle.scale_margin.specs.Barriers.{barrier_at, IsCause}

-- how many of the percentages from 1 to n are accepted
unfoldable pub accepted_to : Set → ℕ → ℕ
accepted_to set zero = 0
accepted_to set (suc n) = accepted_to set n + (if is_none (barrier_at set (suc n)) then 1 else 0)

unfoldable pub percent_of : Set → ℕ
percent_of set = accepted_to set 1000

-- what bars a percentage; nothing is asked of those above 1000
abbrev pub barrier_within : Set → ℕ → Option Barrier
barrier_within set percent = if nat_le percent 1000 then barrier_at set percent else None

-- The margin of a set. The percentages up to it are accepted and no other is, so they are the number of those that are
-- accepted.
pub record IsMargin (set : Set) (margin : Margin) : Type 0 where
  pub percent : margin.percent ≡ percent_of set
  pub in_range : margin.percent ≤ 1000
  pub accepted : (percent : ℕ) → 1 ≤ percent → percent ≤ 1000 → (barrier_at set percent ≡ None) ↔ (percent ≤ margin.percent)
  pub barrier : margin.barrier ≡ barrier_within set (margin.percent + 1)
  pub cause : IsCause margin.barrier
  pub none_above : (margin.barrier ≡ None) ↔ (margin.percent ≡ 1000)

-- The search so far: the percentage is 0 or accepted, and the one so many above is above 1000 or refused, by this barrier.
pub record IsBetween (set : Set) (span : ℕ) (found : Margin) : Type 0 where
  pub in_range : found.percent ≤ 1000
  pub low : (found.percent ≡ 0) ⊎ (barrier_at set found.percent ≡ None)
  pub high : found.barrier ≡ barrier_within set (found.percent + span)
  pub refused : (found.barrier ≡ None) → 1001 ≤ found.percent + span
  pub cause : IsCause found.barrier
