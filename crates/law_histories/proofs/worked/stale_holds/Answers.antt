use Rattle.law_histories.proofs.Stale.{holds}
use Rattle.law_histories.proofs.worked.stale_holds.Goals as goal

pub returns : goal.returns
returns c = holds
