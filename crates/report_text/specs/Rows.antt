-- Lines in a row.
use Rattle.std.specs.Prelude.{ℕ, ◌+◌, List, [], ◌∷◌, ◌++◌}

-- the text of each, which may use its place in the list
abbrev pub numbered : {A : Type 0} → (ℕ → A → List ℕ) → ℕ → List A → List ℕ
numbered f i [] = []
numbered f i (x ∷ xs) = f i x ++ numbered f (i + 1) xs
