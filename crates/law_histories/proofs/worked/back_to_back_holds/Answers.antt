use Rattle.law_histories.proofs.BackToBack.{holds}
use Rattle.law_histories.proofs.worked.back_to_back_holds.Goals as goal

pub returns : goal.returns
returns c = holds
