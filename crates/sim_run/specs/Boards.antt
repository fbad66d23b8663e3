-- What calls on a board leave as it was.
use Rattle.std.specs.Prelude.{◌≡◌, ℕ}
use Rattle.txn_set.specs.Set.{Set}

-- the board has the set and the room that it had
abbrev pub IsFixed : {B : Type 0} → (set : B → Set) → (room : B → ℕ) → B → B → Type 0
IsFixed set room was is = (set is ≡ set was) × (room is ≡ room was)
