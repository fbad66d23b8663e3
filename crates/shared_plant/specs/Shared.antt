-- A board before and after a call of a plant.
use Rattle.std.specs.Prelude.{ℕ, ◌≤◌, List, length, Option, None, Some}
use Rattle.step_journal.specs.declared.entry.Entry.{Entry}
use Rattle.step_journal.specs.History.{IsLegal}
use Rattle.txn_set.specs.Set.{Set}
use Rattle.turn_cell.specs.Turn.{noting}
use Rattle.turn_cell.specs.declared.view.View.{View}

-- The board stood for one history, and stands now for another, which is legal too. What it had drained is of the first.
pub record IsNext {B : Type 0} (stands : B → List Entry → Type 0) (set : B → Set) (first : B → ℕ) (old new : B) (history next : List Entry) : Type 0 where
  pub stood : stands new next
  pub legal : IsLegal (set old) next
  pub within : first old ≤ length history

-- the view of the turn's seat below after it noted this entry, or none
abbrev pub noting_own : View Entry → Option Entry → View Entry
noting_own v None = v
noting_own v (Some entry) = noting v entry
