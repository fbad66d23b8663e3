-- The numbers of names.
use Rattle.std.specs.Prelude.{ℕ, List, Option, position}
use Rattle.std.specs.Str.{bytes_eq}

-- the place of a name among these
unfoldable pub place_in : List (List ℕ) → List ℕ → Option ℕ
place_in names name = position (λ n. bytes_eq n name) names
