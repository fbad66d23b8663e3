use Rattle.std.proofs.Common.{List, subst}
use Rattle.step_journal.specs.declared.entry.Entry.{Entry}
use Rattle.lock_core.specs.Stands.{Stands}
use Rattle.c_core.specs.Open.{OpenSeen, KeepsBoundsOf}
use Rattle.c_core.proofs.Over.{kept}
use Rattle.c_core.proofs.checked.CheckedCore.keeps_bounds.Goals as goal

pub returns : goal.returns
returns c =
    subst (λ (o : OpenSeen). (history : List Entry) → Stands o.board history → KeepsBoundsOf o history) c.self.view_is
    (λ history h. kept c.self.inside.core c.self.inside.admitted history c.self.invariant.0 h)
