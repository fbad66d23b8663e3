-- What contracts see of a plant and of a seat.
use Rattle.std.specs.Prelude.{◌≡◌, ℕ, zero, suc, ◌+◌, ◌≤◌, ◌<◌, Bool, true, false, List, [], ◌∷◌, ◌++◌, length, Option, None, Some}
use mathlib.Core.Option.{some}
use lib.ListN.{get_elem?}
use Rattle.rt_base.specs.declared.ids.TxId.{TxId}
use Rattle.step_journal.specs.declared.entry.Entry.{Entry}
use Rattle.txn_set.specs.Set.{Set}
use Rattle.board.specs.Histories.{IsHistory}
use Rattle.turn_cell.specs.Turn.{Begins, Stand, mark_number, below, times, total}
pub use Rattle.turn_cell.specs.Seats.{TableId}
use Rattle.turn_cell.specs.Seats.{Standing}
use Rattle.turn_cell.specs.declared.view.View.{View}

-- A plant: which it is, the set and the room of its board, how many entries the history had at the start, and how many
-- seats there are.
pub record PlantFacts : Type 0 where
  pub id : TableId
  pub set : Set
  pub room : ℕ
  pub start : ℕ
  pub seats : ℕ

-- A seat: its plant, its transaction (none: it is the operator's), and the six seat facts.
pub record SeatFacts : Type 0 where
  pub plant : TableId
  pub tx : Option TxId
  -- the entries that the seat has seen
  pub seen : List Entry
  -- its own entries, each with its place in the history
  pub mine : List (ℕ × Entry)
  -- how many of its exchanges found the turn free, and how many found it taken
  pub turns : ℕ
  pub missed : ℕ
  -- in the operator's seat, how many entries were drained
  pub drained : ℕ
  -- how many entries had been drained when the seat last took the turn
  pub base : ℕ

abbrev pub is_operator : Option TxId → Bool
is_operator None = true
is_operator (Some tx) = false

-- the view of the turn's seat below
abbrev pub view_of : SeatFacts → View Entry
view_of s = record {
  begun = true;
  holds = false;
  seen = s.seen;
  heard = [];
  mine = s.mine;
  turns = s.turns;
  missed = s.missed;
  weight = 1;
  marked = is_operator s.tx;
  marks = mark_number (is_operator s.tx);
  drained = s.drained;
  base = s.base;
}

abbrev pub standing_of : SeatFacts → Standing Entry
standing_of s = record { cell = s.plant; view = view_of s }

abbrev pub facts_of : Standing Entry → Option TxId → SeatFacts
facts_of s tx = record {
  plant = s.cell;
  tx = tx;
  seen = s.view.seen;
  mine = s.view.mine;
  turns = s.view.turns;
  missed = s.view.missed;
  drained = s.view.drained;
  base = s.view.base;
}

-- what holds of each seat: its own entries stand in what it has seen, and what it drained it has seen
abbrev pub IsSound : SeatFacts → Type 0
IsSound s = Stand s.mine s.seen × (s.drained ≤ length s.seen)

-- what a seat keeps: it is seen as it is, and its number is that of the entries it has seen
abbrev pub IsKept : Standing Entry → Option TxId → ℕ → Type 0
IsKept s tx front =
    (s.view ≡ view_of (facts_of s tx)) × (front ≡ length s.view.seen) × IsSound (facts_of s tx)

-- what the operator's seat has drained at the start
abbrev pub drained_at : Option TxId → ℕ → ℕ
drained_at None first = first
drained_at (Some tx) first = 0

-- a new seat, which has seen the past and made no call
abbrev pub newcomer : TableId → List Entry → ℕ → Option TxId → SeatFacts
newcomer id past first tx = record {
  plant = id;
  tx = tx;
  seen = past;
  mine = [];
  turns = 0;
  missed = 0;
  drained = drained_at tx first;
  base = first;
}

abbrev pub tx_of : ℕ → TxId
tx_of n = record { 0 = n }

-- the new seats of the transactions below n, in order
abbrev pub newcomers : TableId → List Entry → ℕ → ℕ → List SeatFacts
newcomers id past first zero = []
newcomers id past first (suc n) = newcomers id past first n ++ newcomer id past first (Some (tx_of n)) ∷ []

-- the seat is of this plant, and its transaction is of the set
abbrev pub IsOf : PlantFacts → SeatFacts → Type 0
IsOf p s = (s.plant ≡ p.id) × ((tx : TxId) → s.tx ≡ Some tx → tx.0 < length p.set.txns)

abbrev pub AreOf : PlantFacts → List SeatFacts → Type 0
AreOf p seats = (k : ℕ) (s : SeatFacts) → get_elem? seats k ≡ some s → IsOf p s

abbrev pub times_of : ℕ → SeatFacts → ℕ
times_of place s = times place s.mine

abbrev pub operators_in : SeatFacts → ℕ
operators_in s = mark_number (is_operator s.tx)

-- What the board is when a plant on it is closed, and how all seats lie in its one history.
pub record Closed {B : Type 0} (stands : B → List Entry → Type 0) (set : B → Set) (room first : B → ℕ) (kept : B → List Entry) (p : PlantFacts) (b : B) (seats : List SeatFacts) : Type 0 where
  pub history : List Entry
  pub stood : stands b history
  -- the history is legal for the set, and the board keeps it from first on
  pub legal : IsHistory p.set p.room (first b) (kept b) history
  pub set_is : set b ≡ p.set
  pub room_is : room b ≡ p.room
  pub began : p.start ≤ length history
  -- what each seat has seen begins the history, and each of its own entries stands there at its place
  pub each : (k : ℕ) (s : SeatFacts) → get_elem? seats k ≡ some s → Begins s.seen history × Stand s.mine history × (s.base ≤ first b)
  -- each place from the start's length on is that of exactly one entry of one seat, and no other place is
  pub placed : (place : ℕ) → total (times_of place) seats + below place p.start ≡ below place (length history)
  -- one seat is the operator's, and the board keeps the history from that seat's drained on
  pub operator : total operators_in seats ≡ 1
  pub drained : (k : ℕ) (s : SeatFacts) → get_elem? seats k ≡ some s → s.tx ≡ None → s.drained ≡ first b
