-- A core over an admitted set keeps its bounds.
use Rattle.std.proofs.Common.{List, refl, subst}
use Rattle.std.specs.Prelude.{Option, None, Some}
use Rattle.step_journal.specs.declared.entry.Entry.{Entry}
use Rattle.step_journal.specs.History.{IsLegal}
use Rattle.txn_set.specs.Set.{Set}
use Rattle.set_admission.proofs.Kept.{keeps_bounds}
use Rattle.lock_core.specs.Seen.{CoreSeen}
use Rattle.lock_core.specs.Stands.{Stands}
use Rattle.c_core.specs.Open.{IsOver, KeepsBoundsOf}

pub kept : (board : CoreSeen) (admitted : Option Set) (history : List Entry) → IsOver (record { board = board; admitted = admitted }) → Stands board history
    → KeepsBoundsOf (record { board = board; admitted = admitted }) history
kept board None history over stands = tt
kept board (Some set) history over stands =
    keeps_bounds set history (over.compiled set refl) (over.meets set refl) (subst (λ (s : Set). IsLegal s history) (over.same set refl) stands.is_history.legal)
