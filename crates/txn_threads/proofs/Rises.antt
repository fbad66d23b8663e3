-- Lists whose places rise.
use Rattle.std.proofs.Common.{ℕ, ◌+◌, ◌≤◌, List, [], ◌∷◌, ◌++◌, arith}
use Rattle.step_journal.specs.declared.entry.Entry.{Entry}
use Rattle.txn_threads.specs.Rising.{AreRising}

pub rising_from : (a b to : ℕ) (ps : List (ℕ × Entry)) → a ≤ b → AreRising b to ps → AreRising a to ps
rising_from a b to [] le h = omega (arith, le, h)
rising_from a b to (p ∷ ps) le h = let low = h.0 in (omega (arith, le, low), h.1)

pub rising_append : (a b c : ℕ) (ps qs : List (ℕ × Entry)) → AreRising a b ps → AreRising b c qs → AreRising a c (ps ++ qs)
rising_append a b c [] qs h k = rising_from a b c qs h k
rising_append a b c (p ∷ ps) qs h k = (h.0, rising_append (p.0 + 1) b c ps qs h.1 k)
