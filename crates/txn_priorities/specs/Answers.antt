-- What is answered if no assignment keeps the limits.
use Rattle.std.specs.Prelude.{◌≡◌, ℕ, suc, not, List, map, length}
use Rattle.std.specs.List.{filter, range_with_len}
use Rattle.txn_set.specs.Set.{Set}
use Rattle.law_times.specs.Response.{demand}
use Rattle.law_times.specs.Pass.{is_placed, pass_to, IsStuck}
use Rattle.txn_priorities.specs.declared.refusal.Unplaced.{Unplaced}
use Rattle.txn_priorities.specs.declared.refusal.NoAssignment.{NoAssignment}
use Rattle.txn_priorities.specs.Limits.{limit}
use Rattle.txn_priorities.specs.Around.{trial_set}

-- what a transaction asks at a level within its limit
abbrev pub unplaced_at : Set → List ℕ → ℕ → Unplaced
unplaced_at set prios tx =
    record { tx = record { 0 = tx }; limit = limit set tx; demand = demand (trial_set set prios tx) tx (limit set tx) }

-- those that have no priority yet, in list order
abbrev pub unplaced : Set → List ℕ → List Unplaced
unplaced set prios =
    map (unplaced_at set prios) (filter (λ tx. not (is_placed prios tx)) (range_with_len 0 (length set.txns)))

-- the first level at which none passes, and what each of the transactions that are left asks there
pub record IsRefusal (set : Set) (refusal : NoAssignment) : Type 0 where
  pub below : ℕ
  pub level : refusal.level ≡ suc below
  pub stuck : IsStuck set (limit set) below
  pub rows : refusal.unplaced.items ≡ unplaced set (pass_to set (limit set) below)
