-- Seats that are of a plant, one by one and in a list.
use Rattle.std.proofs.Common.{◌≡◌, List, [], ◌∷◌, ◌++◌, sym, subst, ⊎_elim}
use mathlib.Core.Option.{some-ne-none}
use Rattle.turn_cell.proofs.Lists.{at_snoc_place}
use Rattle.shared_plant.specs.Seats.{PlantFacts, SeatFacts, IsOf, AreOf}

pub of_none : (p : PlantFacts) → AreOf p []
of_none p k s e = absurd (some-ne-none s (sym e))

pub of_more : (p : PlantFacts) (seats new : List SeatFacts) (seat : SeatFacts) → AreOf p seats → IsOf p seat → new ≡ seats ++ seat ∷ [] → AreOf p new
of_more p seats new seat all one is = subst (AreOf p) (sym is) (λ k s e. ⊎_elim (λ t. all k s t.1) (λ t. subst (IsOf p) t.1 one) (at_snoc_place seats seat s k e))
