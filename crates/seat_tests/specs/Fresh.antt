-- Seats that have made no call.
use Rattle.std.specs.Prelude.{◌≡◌, ℕ, List, []}
use mathlib.Core.Option.{some}
use lib.ListN.{get_elem?}
use Rattle.shared_plant.specs.Seats.{PlantFacts, SeatFacts, IsOf}

abbrev pub IsFresh : PlantFacts → SeatFacts → Type 0
IsFresh p s = IsOf p s × (s.mine ≡ [])

abbrev pub AreFresh : PlantFacts → List SeatFacts → Type 0
AreFresh p seats = (k : ℕ) (s : SeatFacts) → get_elem? seats k ≡ some s → IsFresh p s
