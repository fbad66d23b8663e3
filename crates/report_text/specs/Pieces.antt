-- A text in pieces between bytes of a kind.
use Rattle.std.specs.Prelude.{ℕ, ◌==◌, List, [], ◌∷◌, ◌++◌, if◌then◌else◌}

abbrev pub longer : ℕ → List (List ℕ) → List ℕ → List (List ℕ) × List ℕ
longer b [] last = ([], b ∷ last)
longer b (p ∷ ps) last = ((b ∷ p) ∷ ps, last)

-- the pieces that such a byte ends, and what stands after the last such byte
abbrev pub pieces : ℕ → List ℕ → List (List ℕ) × List ℕ
pieces byte [] = ([], [])
pieces byte (b ∷ bs) =
    if b == byte then ([] ∷ (pieces byte bs).0, (pieces byte bs).1) else longer b (pieces byte bs).0 (pieces byte bs).1

-- all pieces
abbrev pub all_pieces : ℕ → List ℕ → List (List ℕ)
all_pieces byte bs = (pieces byte bs).0 ++ (pieces byte bs).1 ∷ []
