use Rattle.txn_threads.proofs.Rounding.{ran_trans, tried_ran}
use Rattle.txn_threads.proofs.member.Member.go.Goals as goal

pub idle-requires : goal.idle-requires
idle-requires g c = c.steps.ensures.ran.sits

pub returns-in-NoJob : goal.returns-in-NoJob
returns-in-NoJob g c = tried_ran _ (ran_trans g.Y.Body.gives g.Y.Body.stands c.args.plant.now c.args.self.now c.steps.new.self c.idle.new.self c.steps.ensures.ran c.idle.ensures)

pub returns-in_default : goal.returns-in_default
returns-in_default g c = tried_ran _ c.steps.ensures.ran
