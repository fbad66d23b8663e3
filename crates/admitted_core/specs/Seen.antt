-- What contracts see of a core over an admitted set.
use Rattle.std.specs.Prelude.{◌≡◌}
use Rattle.txn_set.specs.Set.{Set, IsCompiled}
use Rattle.set_admission.specs.Bounds.{MeetsAdmission}
use Rattle.lock_core.specs.Seen.{CoreSeen}

-- the core, and the set that was admitted
pub record AdmittedSeen : Type 0 where
  pub board : CoreSeen
  pub admitted : Set

-- the core is over the admitted set
pub record IsOver (a : AdmittedSeen) : Type 0 where
  pub same : a.board.set ≡ a.admitted
  pub compiled : IsCompiled a.admitted
  pub meets : MeetsAdmission a.admitted
