use Rattle.law_histories.proofs.Base.{holds}
use Rattle.law_histories.proofs.worked.base_holds.Goals as goal

pub returns : goal.returns
returns c = holds
