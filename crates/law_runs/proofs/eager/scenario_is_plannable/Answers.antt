use Rattle.law_runs.proofs.Scenario.{plannable, eager_alone, jobs_of_each, none_eager}
use Rattle.law_runs.proofs.eager.scenario_is_plannable.Goals as goal

pub returns-clause-plannable : goal.returns-clause-plannable
returns-clause-plannable c = plannable

pub returns-clause-eager : goal.returns-clause-eager
returns-clause-eager c = eager_alone

pub returns-clause-jobs : goal.returns-clause-jobs
returns-clause-jobs c = jobs_of_each

pub returns-clause-none_eager : goal.returns-clause-none_eager
returns-clause-none_eager c = none_eager
