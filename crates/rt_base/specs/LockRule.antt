-- The lock rule over plain rows, after Sha, Rajkumar, Son and Chang: what holds locks, each row with a priority and the greatest ceiling of its locks.
use Rattle.std.specs.Prelude.{ℕ, ◌==◌, nat_lt, ◌&&◌, ◌||◌, if◌then◌else◌, Bool, List, [], ◌∷◌, Option, None, Some}

-- whether a row stands above another: by its ceiling, and among equal ceilings by its priority
abbrev pub stands_above : {A : Type 0} → (A → ℕ) → (A → ℕ) → A → A → Bool
stands_above prio ceiling a b = nat_lt (ceiling b) (ceiling a) || (ceiling a == ceiling b && nat_lt (prio b) (prio a))

abbrev pub upper : {A : Type 0} → (A → ℕ) → (A → ℕ) → A → Option A → A
upper prio ceiling a None = a
upper prio ceiling a (Some b) = if stands_above prio ceiling b a then b else a

-- the row with the greatest ceiling, and among those with it the one with the highest priority
abbrev pub topmost : {A : Type 0} → (A → ℕ) → (A → ℕ) → List A → Option A
topmost prio ceiling [] = None
topmost prio ceiling (a ∷ rows) = Some (upper prio ceiling a (topmost prio ceiling rows))

abbrev pub unless_below : {A : Type 0} → (A → ℕ) → ℕ → Option A → Option A
unless_below ceiling own None = None
unless_below ceiling own (Some a) = if nat_lt (ceiling a) own then None else Some a

-- A new lock is granted where the own priority is above every ceiling of the others. Else the topmost of them is the blocker.
unfoldable pub blocker : {A : Type 0} → (A → ℕ) → (A → ℕ) → ℕ → List A → Option A
blocker prio ceiling own others = unless_below ceiling own (topmost prio ceiling others)
