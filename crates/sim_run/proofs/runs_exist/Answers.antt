use Rattle.sim_run.proofs.Exist.{runs_are, histories_go_on}
use Rattle.sim_run.proofs.runs_exist.Goals as goal

pub returns-clause-runs : goal.returns-clause-runs
returns-clause-runs c = runs_are

pub returns-clause-goes_on : goal.returns-clause-goes_on
returns-clause-goes_on c = histories_go_on
