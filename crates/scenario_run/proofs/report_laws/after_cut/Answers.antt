use Rattle.scenario_run.proofs.Stopping.{after_cut}
use Rattle.scenario_run.proofs.report_laws.after_cut.Goals as goal

pub returns : goal.returns
returns c = after_cut
