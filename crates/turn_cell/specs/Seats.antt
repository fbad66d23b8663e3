-- New seats, and what a cell leaves when it is closed.
use Rattle.std.specs.Prelude.{◌≡◌, ℕ, ◌+◌, ◌<◌, ◌≤◌, ◌∷◌, Bool, true, false, if◌then◌else◌, List, [], length, Option, None}
use mathlib.Core.Option.{some}
use lib.ListN.{get_elem?}
pub use Rattle.atomic_table.specs.Seated.{TableId}
use Rattle.atomic_table.specs.Table.{Me}
use Rattle.atomic_table.specs.declared.shared.Seat.{Seat}
use Rattle.turn_cell.specs.declared.view.View.{View}
use Rattle.turn_cell.specs.Turn.{Begins, Stand, Heard, mark_number, below, times, total, times_in}

module _ {N : Type 0} where
  -- the view of a seat that has seen the past, and made no call
  abbrev pub opened : List N → ℕ → Bool → ℕ → View N
  opened past first marked weight = record {
    begun = true;
    holds = false;
    seen = past;
    heard = [];
    mine = [];
    turns = 0;
    missed = 0;
    weight = weight;
    marked = marked;
    marks = mark_number marked;
    drained = if marked then first else 0;
    base = first;
  }

  abbrev pub drained_in : View N → ℕ
  drained_in v = v.drained

  abbrev pub marks_in : View N → ℕ
  marks_in v = v.marks

  -- the mark is counted once, and a seat without it has drained nothing
  abbrev pub MarkIsOne : View N → Type 0
  MarkIsOne v = (v.marks ≡ mark_number v.marked) × (v.marked ≡ false → v.drained ≡ 0)

-- What a value stands for when its cell is closed, and how the views of all seats lie in it.
pub record Whole {T N F : Type 0} (stands : T → List N → Type 0) (fixed : T → F) (first : T → ℕ) (origin : T) (start : ℕ) (x : T) (views : List (View N)) : Type 0 where
  pub history : List N
  pub stood : stands x history
  pub same : fixed x ≡ fixed origin
  pub began : start ≤ length history
  -- what each seat had seen begins the history, and each of its notes stands there at its place
  pub each : (k : ℕ) (v : View N) → get_elem? views k ≡ some v → Begins v.seen history × Stand v.mine history × (v.base ≤ first x)
  -- each place from the start on is that of exactly one note of one seat, and no other place is
  pub placed : (place : ℕ) → total (times_in place) views + below place start ≡ below place (length history)
  -- one seat carries the mark, and its number is the number of notes that the value no longer keeps
  pub marked : total marks_in views ≡ 1
  pub drained : (k : ℕ) (v : View N) → get_elem? views k ≡ some v → v.marked ≡ true → v.drained ≡ first x

-- A view in which these were joined.
pub record Gathered {N : Type 0} (views : List (View N)) (v : View N) : Type 0 where
  pub begun : v.begun ≡ true
  pub idle : v.holds ≡ false
  pub any : 0 < length views
  pub weighs : v.weight ≡ length views
  pub counts : (place : ℕ) → times place v.mine ≡ total (times_in place) views
  pub number : v.drained ≡ total drained_in views
  pub marks : v.marks ≡ total marks_in views
  pub single : (k : ℕ) (u : View N) → get_elem? views k ≡ some u → MarkIsOne u
  pub lies : (history : List N) → Begins v.seen history → Heard v.heard history → Stand v.mine history
      → (k : ℕ) (u : View N) → get_elem? views k ≡ some u → Begins u.seen history × Stand u.mine history
  pub based : (k : ℕ) (u : View N) → get_elem? views k ≡ some u → u.base ≤ v.base

-- A seat, as contracts see it: the cell that it is of, and what it knows.
pub record Standing (N : Type 0) : Type 0 where
  pub cell : TableId
  pub view : View N

-- A cell, as contracts see it: which it is, what it was made with, how many notes that stood for, and how many seats it has.
pub record Cell (T : Type 0) : Type 0 where
  pub id : TableId
  pub origin : T
  pub start : ℕ
  pub seats : ℕ

-- the cell's slot is out with the seat where the seat holds the turn
abbrev pub slots_of : {T : Type 0} → Bool → List (ℕ × Option T)
slots_of true = (0, None) ∷ []
slots_of false = []

-- a seat that a caller has
abbrev pub Ready : {T N : Type 0} → Me (Option T) (View N) → Type 0
Ready m = (m.0.begun ≡ true) × (m.0.weight ≡ 1) × (m.1 ≡ slots_of m.0.holds) × MarkIsOne m.0

-- the seat is of this cell, which has the words and the slot of a turn
abbrev pub IsOf : {T N : Type 0} → TableId → Seat (Option T) (View N) → Type 0
IsOf id s = (s.table_id ≡ id) × (id.words ≡ 3) × (id.slots ≡ 1)

-- a seat that has seen the past, and made no call
abbrev pub fresh : {N : Type 0} → TableId → List N → ℕ → Bool → Standing N
fresh id past first marked = record { cell = id; view = opened past first marked 1 }

-- what these have in them are seats of this cell, none of which holds the turn
abbrev pub AreIdle : {S N : Type 0} → (S → Standing N) → TableId → List S → Type 0
AreIdle {S} standing id seats =
    (k : ℕ) (s : S) → get_elem? seats k ≡ some s → ((standing s).cell ≡ id) × ((standing s).view.holds ≡ false)
