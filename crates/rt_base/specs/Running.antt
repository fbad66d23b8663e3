-- The rule of the running job, over plain rows: follow "waits on" to one that waits on nobody.
use Rattle.std.specs.Prelude.{ℕ, zero, suc, Option, None, Some}
use Rattle.std.specs.Option.{option_and_then}

-- what is reached in at most n links from a, which waits on this one, if on any. `find` is the row of a name, and `waits`
-- the name on which a row waits
abbrev pub followed : {A B : Type 0} → (B → Option A) → (A → Option B) → ℕ → A → Option B → Option A
followed find waits n a None = Some a
followed find waits zero a (Some b) = None
followed find waits (suc n) a (Some b) = option_and_then (λ r. followed find waits n r (waits r)) (find b)
