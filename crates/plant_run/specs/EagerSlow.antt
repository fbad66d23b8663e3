-- For the tests: the releases of two transactions of which the other one plans its jobs itself.
use Rattle.std.specs.Prelude.{ℕ, List, [], ◌∷◌}

abbrev pub fast_releases : List (List ℕ)
fast_releases = (0 ∷ 4 ∷ 8 ∷ []) ∷ [] ∷ []
