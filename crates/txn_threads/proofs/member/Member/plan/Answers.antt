use Rattle.std.proofs.Common.{◌≡◌, ◌<◌, ◌≤◌, true, refl, sym, ◌∙◌, rules}
use Rattle.txn_threads.proofs.Rounding.{ran_refl, tried_ran, ran_busy}
use Rattle.txn_threads.proofs.Trying.{planned_one}
use Rattle.txn_threads.proofs.member.Member.plan.Goals as goal

pub returns-then-not-self : goal.returns-then-not-self
returns-then-not-self g c = tried_ran _ (ran_refl g.Y.Body.gives g.Y.Body.stands c.args.plant.now c.args.self.now c.requires)

pub returns-in-Busy : goal.returns-in-Busy
returns-in-Busy g c = tried_ran _ (ran_busy g.Y.Body.gives g.Y.Body.stands c.args.plant.now c.args.self.now _ c.requires (c.in-Busy.ensures.busy tt) refl refl refl refl refl c.requires.tied)

pub returns-in-Said : goal.returns-in-Said
returns-in-Said g c =
    let m = c.args.self.now in let is = sym c.tx.ensures ∙ c.in-Some.is in
    let eager : m.eager ≡ true = search rules in
    let left : m.planned < m.jobs = search rules in
    let behind : m.planned ≤ m.ended = search rules in
    planned_one g.Y.Body.gives g.Y.Body.stands c.args.plant.now m _ c.in-Some.tx c.in-Said.reply _ c.requires is c.in-Said.ensures.said refl refl refl refl eager left behind c.planned_after-self.ensures c.outcome_of_plan.ensures
