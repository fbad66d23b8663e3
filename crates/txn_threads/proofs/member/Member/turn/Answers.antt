use Rattle.txn_threads.proofs.Rounding.{tried_on, tried_ran, tried_err}
use Rattle.txn_threads.proofs.member.Member.turn.Goals as goal

pub plan-requires : goal.plan-requires
plan-requires g c = c.step.ensures.ran.sits

pub returns-in-NoJob : goal.returns-in-NoJob
returns-in-NoJob g c = tried_on c.step.ensures.ran c.plan.ensures

pub returns-in_default : goal.returns-in_default
returns-in_default g c = tried_ran _ c.step.ensures.ran

pub returns-in_err-other : goal.returns-in_err-other
returns-in_err-other g c = tried_err c.from_residual.result c.step.ensures c.in_err-other.was c.from_residual.ensures
