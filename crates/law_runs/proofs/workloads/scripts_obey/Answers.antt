use Rattle.law_runs.proofs.Obeys.{obeys}
use Rattle.law_runs.proofs.workloads.scripts_obey.Goals as goal

pub returns : goal.returns
returns c = obeys
