use Rattle.law_runs.proofs.Accepted.{accepted}
use Rattle.law_runs.proofs.workloads.releases_are_accepted.Goals as goal

pub returns : goal.returns
returns c = accepted
