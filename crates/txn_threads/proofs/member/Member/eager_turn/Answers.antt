use Rattle.txn_threads.proofs.Rounding.{ran_refl, tried_ran}
use Rattle.txn_threads.proofs.member.Member.eager_turn.Goals as goal

pub returns-else-has_plans : goal.returns-else-has_plans
returns-else-has_plans g c = tried_ran _ (ran_refl g.Y.Body.gives g.Y.Body.stands c.args.plant.now c.args.self.now c.requires)
