use Rattle.std.proofs.Common.{List, subst}
use Rattle.step_journal.specs.declared.entry.Entry.{Entry}
use Rattle.lock_core.specs.Promises.{IsLawful}
use Rattle.lock_core.proofs.Stood.{lawful_history}
use Rattle.lock_core.specs.Stands.{Stands}
use Rattle.admitted_core.specs.Seen.{AdmittedSeen}
use Rattle.admitted_core.proofs.admitted.AdmittedCore.is_lawful.Goals as goal

pub returns : goal.returns
returns c =
    subst (λ (a : AdmittedSeen). (history : List Entry) → Stands a.board history → IsLawful a.board.set history) c.self.view_is
    (λ history h. let is = h.is_history in lawful_history (c.self.inside.board.set) history is.compiled is.legal)
