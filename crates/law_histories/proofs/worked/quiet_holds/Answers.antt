use Rattle.law_histories.proofs.Quiet.{holds}
use Rattle.law_histories.proofs.worked.quiet_holds.Goals as goal

pub returns : goal.returns
returns c = holds
