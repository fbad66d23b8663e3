use Rattle.std.proofs.Common.{◌≡◌, ◌⊎◌, ℕ, inl, refl, sym, ap, subst, ◌∙◌}
use Rattle.txn_threads.specs.declared.task.Task.{Task}
use Rattle.txn_threads.specs.declared.task.Heard.TheVariants as hear
use Rattle.txn_threads.specs.Tasks.{Tied}
use Rattle.txn_threads.proofs.Rounding.{tried_ran, ran_busy}
use Rattle.txn_threads.proofs.Stepping.{tied_quiet, ended_by_is, steps_one}
use Rattle.txn_threads.proofs.member.Member.steps.Goals as goal

pub returns-in-Busy : goal.returns-in-Busy
returns-in-Busy g c =
    let m = c.args.self.now in let busy = c.in-Busy.ensures.busy tt in
    tried_ran _ (ran_busy g.Y.Body.gives g.Y.Body.stands c.args.plant.now m _ c.requires busy.0 refl refl (ap (λ (t : Task g.row.Y.Denot). g.Y.Body.gives t.body) busy.1) refl refl
    (λ tx e. subst (λ (t : Task g.row.Y.Denot). Tied g.Y.Body.gives g.Y.Body.stands tx m.seat.mine t) (sym busy.1) (tied_quiet g.Y.Body.gives g.Y.Body.stands tx m.seat.mine m.task hear.Nothing (c.requires.tied tx e))))

pub returns-in-Nothing : goal.returns-in-Nothing
returns-in-Nothing g c =
    let is = sym c.tx.ensures ∙ c.in-Some.is in
    steps_one g.Y.Body.gives g.Y.Body.stands c.args.plant.now c.args.self.now c.in-Some.tx c.in-Said.running c.try_steps.new.asker c.try_steps.new.seat c.args.self.now.ended _ c.requires is (c.in-Said.ensures.said c.in-Some.tx is) (inl refl) tt

pub returns-in_default-heard : goal.returns-in_default-heard
returns-in_default-heard g c =
    let is = sym c.tx.ensures ∙ c.in-Some.is in
    let known = subst (λ (n : ℕ). (n ≡ c.args.self.now.ended) ⊎ (c.try_steps.new.asker.heard ≡ hear.Over n)) (sym c.ended_by-self.ensures) (ended_by_is c.args.self.now.ended c.try_steps.new.asker.heard) in
    steps_one g.Y.Body.gives g.Y.Body.stands c.args.plant.now c.args.self.now c.in-Some.tx c.in-Said.running c.try_steps.new.asker c.try_steps.new.seat c.ended_by-self.result _ c.requires is (c.in-Said.ensures.said c.in-Some.tx is) known c.outcome_of_steps.ensures
