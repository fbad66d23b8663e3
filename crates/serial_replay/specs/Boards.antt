-- What making the call of an entry again does to a board.
use Rattle.std.specs.Prelude.{◌≡◌, ℕ, List, Option}
use Rattle.txn_set.specs.Set.{Set}
use Rattle.step_journal.specs.declared.entry.Entry.{Entry}
use Rattle.step_journal.specs.Step.{Event, step}
use Rattle.step_journal.specs.History.{entry_given, state_of}
use Rattle.board.specs.Histories.{noted}

-- the entry of the step for this event after a history, if there is one
abbrev pub made_by : Set → List Entry → Event → Option Entry
made_by set history event = entry_given (step set (state_of set history) event)

-- The board stands for the same entries and that of the step for this event behind them, if there is one, and has the set, the
-- room and the first that it had.
abbrev pub GoesOnBy : {B : Type 0} → (stands : B → List Entry → Type 0) → (set : B → Set) → (room first : B → ℕ) → B → B
    → Event → Type 0
GoesOnBy stands set room first was is event =
    ((history : List Entry) → stands was history → stands is (noted history (made_by (set was) history event)))
    × (set is ≡ set was) × (room is ≡ room was) × (first is ≡ first was)
