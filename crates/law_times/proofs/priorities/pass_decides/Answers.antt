use Rattle.law_times.proofs.Deciding.{pass-decides}
use Rattle.law_times.proofs.priorities.pass_decides.Goals as goal

pub returns : goal.returns
returns c = pass-decides
