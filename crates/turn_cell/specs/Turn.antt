-- The rule of a turn, and what each kind of atomic step tells the seat that makes it.
use Rattle.std.specs.Prelude.{◌≡◌, ◌≢◌, ◌⊎◌, ℕ, ◌+◌, ◌-◌, ◌≤◌, max, Bool, true, false, ◌||◌, if◌then◌else◌, nat_lt, nat_le, nat_eq, List, [], ◌∷◌, ◌++◌, length, Option, Some, None}
use mathlib.Core.Option.{some}
use mathlib.Core.Option as maybe
use lib.ListN.{get_elem?}
use Rattle.atomic_table.specs.Table.{State, Me, Step}
use Rattle.atomic_table.specs.declared.shared.Seat.{Seat}
use Rattle.turn_cell.specs.declared.view.View.{View}

-- the list begins with this one
abbrev pub Begins : {N : Type 0} → List N → List N → Type 0
Begins {N} seen history = (rest : List N) × (history ≡ seen ++ rest)

-- each pair stands in the list at its place
abbrev pub Stand : {N : Type 0} → List (ℕ × N) → List N → Type 0
Stand {N} mine history = (k : ℕ) (p : ℕ × N) → get_elem? mine k ≡ some p → get_elem? history p.0 ≡ some p.1

-- the list begins with each of these
abbrev pub Heard : {N : Type 0} → List (List N) → List N → Type 0
Heard {N} heard history = (k : ℕ) (seen : List N) → get_elem? heard k ≡ some seen → Begins seen history

-- 1 where the place is below n, and else 0
abbrev pub below : ℕ → ℕ → ℕ
below place n = if nat_lt place n then 1 else 0

-- how often the place stands in the list
abbrev pub times : {N : Type 0} → ℕ → List (ℕ × N) → ℕ
times place [] = 0
times place (p ∷ ps) = (if nat_eq place p.0 then 1 else 0) + times place ps

-- f of each, added up
abbrev pub total : {V : Type 0} → (V → ℕ) → List V → ℕ
total f [] = 0
total f (v ∷ vs) = f v + total f vs

abbrev pub longer_of : {N : Type 0} → List N → List N → List N
longer_of a b = if nat_le (length a) (length b) then b else a

-- how many marks a seat carries
abbrev pub mark_number : Bool → ℕ
mark_number true = 1
mark_number false = 0

module _ {N : Type 0} where
  abbrev pub weight : View N → ℕ
  weight v = v.weight

  abbrev pub times_in : ℕ → View N → ℕ
  times_in place v = times place v.mine

  -- how many notes the value no longer keeps, as far as the holder of the turn has counted
  abbrev pub counted : View N → ℕ
  counted v = if v.marked then v.drained else v.base

  -- the view of the first seat, before the history is chosen
  abbrev pub unborn : ℕ → ℕ → View N
  unborn first seats = record { begun = false; holds = false; seen = []; heard = []; mine = []; turns = 0; missed = 0; weight = seats; marked = true; marks = 1; drained = first; base = first }

  abbrev pub starting : View N → List N → View N
  starting v past = record v { begun = true; seen = past }

  abbrev pub missing : View N → View N
  missing v = record v { missed = v.missed + 1 }

  abbrev pub taking : View N → List N → ℕ → View N
  taking v history first = record v { holds = true; seen = history; turns = v.turns + 1; base = first }

  abbrev pub noting : View N → N → View N
  noting v note = record v { seen = v.seen ++ note ∷ []; mine = v.mine ++ (length v.seen, note) ∷ [] }

  abbrev pub draining : View N → ℕ → View N
  draining v count = record v { drained = v.drained + count }

  abbrev pub released : View N → View N
  released v = record v { holds = false }

  -- the two views after a cut
  abbrev pub keeping : View N → View N
  keeping v = record v { weight = v.weight - 1 }

  abbrev pub sibling : View N → View N
  sibling v = record { begun = true; holds = false; seen = v.seen; heard = []; mine = []; turns = 0; missed = 0; weight = 1; marked = false; marks = 0; drained = 0; base = v.base }

  -- two views in one, and what is left of the second
  abbrev pub joined : View N → View N → View N
  joined v w = record {
    begun = true;
    holds = false;
    seen = longer_of v.seen w.seen;
    heard = v.seen ∷ w.seen ∷ (v.heard ++ w.heard);
    mine = v.mine ++ w.mine;
    turns = v.turns + w.turns;
    missed = v.missed + w.missed;
    weight = v.weight + w.weight;
    marked = w.marked || v.marked;
    marks = v.marks + w.marks;
    drained = v.drained + w.drained;
    base = max v.base w.base;
  }

  abbrev pub spent : View N
  spent = record { begun = true; holds = false; seen = []; heard = []; mine = []; turns = 0; missed = 0; weight = 0; marked = false; marks = 0; drained = 0; base = 0 }

  -- what the rule says of one view
  pub record Fits (history : List N) (turn holder drained marker seat : ℕ) (v : View N) : Type 0 where
    pub begun : v.begun ≡ true
    pub sees : Begins v.seen history
    pub told : Heard v.heard history
    pub stand : Stand v.mine v.seen
    pub holds : v.holds ≡ true → (seat ≡ holder) × (turn ≢ 0) × (v.seen ≡ history) × (counted v ≡ drained)
    pub spent_is : v.weight ≡ 0 → (v.mine ≡ []) × (v.holds ≡ false) × (v.marked ≡ false)
    pub marked : v.marked ≡ true → (seat ≡ marker) × (v.drained ≡ drained)
    pub plain : v.marked ≡ false → v.drained ≡ 0
    pub once : v.marks ≡ mark_number v.marked
    pub based : v.base ≤ drained

  -- where the turn is not free, a seat holds it
  abbrev pub IsHeld : List (View N) → ℕ → ℕ → Type 0
  IsHeld views turn holder = turn ≢ 0 → (v : View N) × (get_elem? views holder ≡ some v) × (v.holds ≡ true)

  -- a seat has the mark
  abbrev pub IsMarked : List (View N) → ℕ → Type 0
  IsMarked views marker = (v : View N) × (get_elem? views marker ≡ some v) × (v.marked ≡ true)

module _ {T N F : Type 0} (stands : T → List N → Type 0) (fixed : T → F) (first : T → ℕ) (origin : T) (start seats : ℕ) where
  -- where the turn is free, the value is at home, and stands for the history
  abbrev pub AtHome : List N → ℕ → maybe.Option (Option T) → ℕ → Type 0
  AtHome history turn home drained = turn ≡ 0 → (x : T) × (home ≡ some (Some x)) × stands x history × (fixed x ≡ fixed origin) × (first x ≡ drained)

  pub record Kept (turn drained : ℕ) (home : maybe.Option (Option T)) (views : List (View N)) (history : List N) : Type 0 where
    pub holder : ℕ
    pub marker : ℕ
    pub began : start ≤ length history
    pub each : (seat : ℕ) (v : View N) → get_elem? views seat ≡ some v → Fits history turn holder drained marker seat v
    pub free : AtHome history turn home drained
    pub held : IsHeld views turn holder
    pub mark : IsMarked views marker
    pub weighs : total weight views ≡ seats
    -- each place from the start on stands once among the notes of all seats, and no other
    pub placed : (place : ℕ) → total (times_in place) views + below place start ≡ below place (length history)

  abbrev Table : Type 0
  Table = State (Option T) (View N)

  abbrev pub Unborn : Table → Type 0
  Unborn s = (s.words ≡ 0 ∷ start ∷ first origin ∷ []) × (s.homes ≡ some (Some origin) ∷ []) × (s.views ≡ unborn (first origin) seats ∷ [])

  abbrev pub Born : Table → Type 0
  Born s = (turn : ℕ) × (drained : ℕ) × (home : maybe.Option (Option T)) × (history : List N) × (s.words ≡ turn ∷ length history ∷ drained ∷ []) × (s.homes ≡ home ∷ []) × Kept turn drained home s.views history

  abbrev pub Holds : Table → Type 0
  Holds s = Unborn s ⊎ Born s

abbrev Sat : Type 0 → Type 0 → Type 0
Sat T N = Me (Option T) (View N)

abbrev At : Type 0 → Type 0
At T = Step (Option T)

module _ {T N : Type 0} where
  abbrev pub Starts : List N → At T → Sat T N → ℕ → Sat T N → Type 0
  Starts past st m r m' = (m'.0 ≡ starting m.0 past) × (m'.1 ≡ m.1)

  abbrev pub Gives : At T → Sat T N → ℕ → Sat T N → Type 0
  Gives st m r m' = (m'.0 ≡ released m.0) × (m'.1 ≡ [])

  abbrev pub Adds : Option N → At T → Sat T N → ℕ → Sat T N → Type 0
  Adds told st m r m' = (note : N) → told ≡ Some note → (m'.0 ≡ noting m.0 note) × (m'.1 ≡ m.1)

  abbrev pub Drains : At T → Sat T N → ℕ → Sat T N → Type 0
  Drains st m r m' = (m'.0 ≡ draining m.0 st.first) × (m'.1 ≡ m.1)

  abbrev pub Looks : At T → Sat T N → ℕ → Sat T N → Type 0
  Looks st m r m' = (m'.0 ≡ m.0) × (m'.1 ≡ m.1) × (length m.0.seen ≤ r)

module _ {T N F : Type 0} (stands : T → List N → Type 0) (fixed : T → F) (first : T → ℕ) where
  -- found 0: the value, whose history begins with what was seen
  abbrev pub Tries : Option T → At T → Sat T N → ℕ → Sat T N → Type 0
  Tries told st m r m' =
      (r ≡ 0 → (x : T) × (history : List N) × (m'.1 ≡ (0, Some x) ∷ m.1) × (m'.0 ≡ taking m.0 history (first x)) × (counted m'.0 ≡ first x) × (m.0.base ≤ first x) × Begins m.0.seen history × stands x history × ((origin : T) → told ≡ Some origin → fixed x ≡ fixed origin))
      × (r ≢ 0 → (m'.0 ≡ missing m.0) × (m'.1 ≡ m.1))

-- Seats, as the clauses of the cell name them.
module _ {T N : Type 0} where
  abbrev pub IsSame : Seat (Option T) (View N) → Seat (Option T) (View N) → Type 0
  IsSame p q = (q.table_id ≡ p.table_id) × (q.id ≡ p.id)

  -- the seat does not hold the turn
  abbrev pub Idle : Seat (Option T) (View N) → Type 0
  Idle s = (s.me.0.begun ≡ true) × (s.me.0.holds ≡ false) × (s.me.0.weight ≡ 1) × (s.me.1 ≡ [])

  abbrev pub Holding : Seat (Option T) (View N) → Type 0
  Holding s = (s.me.0.begun ≡ true) × (s.me.0.holds ≡ true) × (s.me.0.weight ≡ 1) × (s.me.1 ≡ (0, None) ∷ [])
