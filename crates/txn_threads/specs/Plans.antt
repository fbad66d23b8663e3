-- The plans of an eager member.
use Rattle.std.specs.Prelude.{◌≡◌, ℕ, ◌+◌, ◌<◌, ◌≤◌, Bool, true, List, [], ◌∷◌, length}
use Rattle.rt_base.specs.declared.ids.TxId.{TxId}
use Rattle.txn_set.specs.Set.{Set}
use Rattle.step_journal.specs.declared.entry.Entry.{Entry}
use Rattle.step_journal.specs.declared.entry.Entry.TheVariants.{Planned}
use Rattle.step_journal.specs.History.{state_of}
use Rattle.board.specs.Answers.{next_tick_for}
use Rattle.board.specs.Histories.{ended_of}
use Rattle.turn_cell.specs.Turn.{Begins}

-- how many of the entries are plans
abbrev pub plan_number : Entry → ℕ
plan_number (Planned tx tick) = 1
plan_number other = 0

abbrev pub plans_in : List (ℕ × Entry) → ℕ
plans_in [] = 0
plans_in (p ∷ ps) = plan_number p.1 + plans_in ps

-- A plan at a place of a history, of a member that has planned so many jobs before: the member is eager, with fewer planned
-- than it is to have, and the tick is that of plan_next. Among the entries before the place at least as many jobs had ended
-- as the member had planned.
pub record IsNextPlan (set : Set) (seen : List Entry) (tx : TxId) (eager : Bool) (jobs planned place : ℕ) (by : TxId) (tick : ℕ) : Type 0 where
  pub is_eager : eager ≡ true
  pub own : by ≡ tx
  pub left : planned < jobs
  pub history : List Entry
  pub begins : Begins history seen
  pub place_is : length history ≡ place
  pub tick_is : tick ≡ next_tick_for set (state_of set history) tx.0
  pub ended : planned ≤ ended_of set history tx.0

abbrev pub IsPlanned : Set → List Entry → TxId → Bool → ℕ → ℕ → ℕ → Entry → Type 0
IsPlanned set seen tx eager jobs planned place (Planned by tick) = IsNextPlan set seen tx eager jobs planned place by tick
IsPlanned set seen tx eager jobs planned place other = Unit {0}

-- each Planned entry of the list is such a plan, after so many plans and those before it in the list
abbrev pub ArePlanned : Set → List Entry → TxId → Bool → ℕ → ℕ → List (ℕ × Entry) → Type 0
ArePlanned set seen tx eager jobs planned [] = Unit {0}
ArePlanned set seen tx eager jobs planned (p ∷ ps) =
    IsPlanned set seen tx eager jobs planned p.0 p.1
    × ArePlanned set seen tx eager jobs (planned + plan_number p.1) ps
