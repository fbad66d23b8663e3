-- Laws of compilation.
use Rattle.std.specs.Prelude.{◌≡◌, ◌↔◌, ℕ, suc, None, IsTrue}
use Rattle.txn_set.specs.Set.{Set, Walk, IsCompiled}
use Rattle.txn_compiler.specs.Graph.{reaches}
use Rattle.txn_compiler.specs.Refusal.{compile_refusal}
use Rattle.txn_compiler.specs.Kept.{AreLists, kept}

-- an item reaches another exactly where a walk of one or more dependencies leads there
abbrev pub ReachesByWalks : Type 0
ReachesByWalks = (set : Set) (from to : ℕ) → IsTrue (reaches set.items set.txns from to) ↔ ((n : ℕ) × Walk set from to (suc n))

-- a set is compiled exactly where nothing refuses it
abbrev pub CompiledUnlessRefused : Type 0
CompiledUnlessRefused = (set : Set) → AreLists set → (compile_refusal set ≡ None) ↔ IsCompiled set

-- lists that stand in rising order without repeats are kept as they are
abbrev pub KeptAsDeclared : Type 0
KeptAsDeclared = (set : Set) → AreLists set → kept set ≡ set
