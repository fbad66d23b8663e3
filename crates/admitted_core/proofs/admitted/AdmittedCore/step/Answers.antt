use Rattle.std.proofs.Common.{List, ap, subst}
use Rattle.step_journal.specs.declared.entry.Entry.{Entry}
use Rattle.lock_core.specs.Promises.{IsLawfulStep}
use Rattle.lock_core.proofs.Lawful.{lawful_step}
use Rattle.lock_core.specs.Stands.{Stands}
use Rattle.admitted_core.specs.Seen.{AdmittedSeen}
use Rattle.admitted_core.proofs.admitted.AdmittedCore.step.Goals as goal

pub returns-clause-lawful : goal.returns-clause-lawful
returns-clause-lawful c =
    let said = c.step-reply.ensures in
    subst
    (λ (old : AdmittedSeen). IsLawfulStep (λ (a : AdmittedSeen) (history : List Entry). Stands a.board history) (λ a. a.board.set) (λ a. a.board.journal.kept) old (record { board = c.step-reply.new.self; admitted = c.self.inside.admitted }) c.args.job c.args.op c.step-reply.result)
    c.self.view_is
    (lawful_step (λ (a : AdmittedSeen) (history : List Entry). Stands a.board history) (λ a. a.board.set) (λ a. a.board.journal.room) (λ a. a.board.journal.first) (λ a. a.board.journal.kept)
    (λ a history h. h.is_history)
    (record { board = c.self.inside.board; admitted = c.self.inside.admitted }) (record { board = c.step-reply.new.self; admitted = c.self.inside.admitted }) c.args.job c.args.op c.step-reply.result said.fixed.0 said.fixed.2
    (λ r. ap (λ b. record { board = b; admitted = c.self.inside.admitted }) (said.refused r)) said.after)
