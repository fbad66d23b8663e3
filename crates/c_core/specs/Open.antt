-- What contracts see of a core over an admitted set or over one that was not admitted.
use Rattle.std.specs.Prelude.{◌≡◌, List, Option, Some, IfSome}
use Rattle.step_journal.specs.declared.entry.Entry.{Entry}
use Rattle.txn_set.specs.Set.{Set, IsCompiled}
use Rattle.set_admission.specs.Bounds.{MeetsAdmission}
use Rattle.set_admission.specs.Laws.{KeepsBounds}
use Rattle.lock_core.specs.Seen.{CoreSeen}

-- the core, and the set that was admitted, if one was
pub record OpenSeen : Type 0 where
  pub board : CoreSeen
  pub admitted : Option Set

-- the core is over the admitted set
pub record IsOver (o : OpenSeen) : Type 0 where
  pub same : (set : Set) → o.admitted ≡ Some set → o.board.set ≡ set
  pub compiled : (set : Set) → o.admitted ≡ Some set → IsCompiled set
  pub meets : (set : Set) → o.admitted ≡ Some set → MeetsAdmission set

-- a history keeps the bounds of the admitted set
abbrev pub KeepsBoundsOf : OpenSeen → List Entry → Type 0
KeepsBoundsOf o history = IfSome o.admitted (λ set. KeepsBounds set history)
