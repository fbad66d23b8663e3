use Rattle.scenario_run.proofs.Stopping.{has_front}
use Rattle.scenario_run.proofs.report_laws.has_front.Goals as goal

pub returns : goal.returns
returns c = has_front
