use Rattle.std.proofs.Common.{refl, sym, ◌∙◌}
use Rattle.txn_threads.proofs.Rounding.{tried_ran, ran_busy}
use Rattle.txn_threads.proofs.Trying.{stepped}
use Rattle.txn_threads.proofs.member.Member.step.Goals as goal

pub returns-in-Busy : goal.returns-in-Busy
returns-in-Busy g c =
    tried_ran _ (ran_busy g.Y.Body.gives g.Y.Body.stands c.args.plant.now c.args.self.now _ c.requires (c.in-Busy.ensures.busy tt) refl refl c.operation-op.ensures.same refl refl
    (λ tx is. c.operation-op.ensures.tied tx c.args.self.now.seat.mine (c.requires.tied tx is)))

pub returns-in-Said : goal.returns-in-Said
returns-in-Said g c =
    let is = sym c.tx.ensures ∙ c.in-Some.is in
    stepped g.Y.Body.gives g.Y.Body.stands c.args.plant.now c.args.self.now _ c.in-Some.tx c.operation-op.new.self c.operation-op.result c.in-Said.reply _ c.requires is (c.in-Said.ensures.said c.in-Some.tx is)
    refl refl (c.answered.ensures.same ∙ c.operation-op.ensures.same) c.operation-op.ensures.same c.operation-op.ensures.kept c.operation-op.ensures.tied c.answered.ensures.tied refl c.ended_after-self.ensures c.outcome_of.ensures
