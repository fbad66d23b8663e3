use Rattle.std.proofs.Common.{List, subst}
use Rattle.step_journal.specs.declared.entry.Entry.{Entry}
use Rattle.step_journal.specs.History.{IsLegal}
use Rattle.txn_set.specs.Set.{Set}
use Rattle.set_admission.specs.Laws.{KeepsBounds}
use Rattle.set_admission.proofs.Kept.{keeps_bounds}
use Rattle.lock_core.specs.Stands.{Stands}
use Rattle.admitted_core.specs.Seen.{AdmittedSeen}
use Rattle.admitted_core.proofs.admitted.AdmittedCore.keeps_bounds.Goals as goal

pub returns : goal.returns
returns c =
    subst (λ (a : AdmittedSeen). (history : List Entry) → Stands a.board history → KeepsBounds a.admitted history) c.self.view_is
    (λ history h.
    let is = h.is_history in
    let same = c.self.invariant.same in
    keeps_bounds c.self.inside.admitted history c.self.invariant.compiled c.self.invariant.meets
    (subst (λ (set : Set). IsLegal set history) same is.legal))
