use Rattle.scenario_run.proofs.Stopping.{after_full}
use Rattle.scenario_run.proofs.report_laws.after_full.Goals as goal

pub returns : goal.returns
returns c = after_full
