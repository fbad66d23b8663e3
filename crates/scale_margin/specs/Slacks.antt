-- The slack of a transaction: up to how many steps it alone may grow, by trying each count, and what bars the next.
use Rattle.std.specs.Prelude.{◌≡◌, ◌↔◌, ℕ, zero, suc, ◌+◌, ◌-◌, ◌≤◌, if◌then◌else◌, None, is_none}
use Rattle.txn_set.specs.Set.{Set, txn_of}
use Rattle.scale_margin.specs.declared.limits.Slack.{Slack}
use Rattle.scale_margin.specs.Steps.{IsAccepted, barrier_at, barrier_within}

-- the last of the counts behind this one, of so many, up to which nothing bars one; this one if the next is barred
unfoldable pub most_from : Set → ℕ → ℕ → ℕ → ℕ
most_from set tx count zero = count
most_from set tx count (suc n) = if is_none (barrier_at set tx (count + 1)) then most_from set tx (count + 1) n else count

-- the greatest count from its own steps to 10,000 up to which nothing bars one
unfoldable pub most_steps : Set → ℕ → ℕ
most_steps set tx = most_from set tx (txn_of set tx).steps (10000 - (txn_of set tx).steps)

-- The slack of a transaction of an admitted set.
pub record IsSlack (set : Set) (tx : ℕ) (slack : Slack) : Type 0 where
  pub steps : slack.steps ≡ (txn_of set tx).steps
  pub most : slack.most ≡ most_steps set tx
  pub least : slack.steps ≤ slack.most
  pub in_range : slack.most ≤ 10000
  pub accepted : (count : ℕ) → slack.steps ≤ count → count ≤ 10000 → IsAccepted set tx count ↔ (count ≤ slack.most)
  pub barrier : slack.barrier ≡ barrier_within set tx (slack.most + 1)
  pub none_above : (slack.barrier ≡ None) ↔ (slack.most ≡ 10000)

-- The search so far: nothing bars the count that was found, and the one so many above is above 10,000, or this bars it.
pub record IsBetween (set : Set) (tx span : ℕ) (found : Slack) : Type 0 where
  pub steps : found.steps ≡ (txn_of set tx).steps
  pub least : found.steps ≤ found.most
  pub in_range : found.most ≤ 10000
  pub low : barrier_at set tx found.most ≡ None
  pub high : found.barrier ≡ barrier_within set tx (found.most + span)
  pub refused : (found.barrier ≡ None) → 10001 ≤ found.most + span
