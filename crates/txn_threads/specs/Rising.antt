-- The places of a seat's own entries rise.
use Rattle.std.specs.Prelude.{ℕ, ◌+◌, ◌≤◌, List, [], ◌∷◌}
use Rattle.step_journal.specs.declared.entry.Entry.{Entry}

-- the places rise along the list: the first is at least `from`, and all are below `to`
abbrev pub AreRising : ℕ → ℕ → List (ℕ × Entry) → Type 0
AreRising from to [] = from ≤ to
AreRising from to (p ∷ ps) = (from ≤ p.0) × AreRising (p.0 + 1) to ps
