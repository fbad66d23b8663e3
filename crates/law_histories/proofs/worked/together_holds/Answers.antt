use Rattle.law_histories.proofs.Together.{holds}
use Rattle.law_histories.proofs.worked.together_holds.Goals as goal

pub returns : goal.returns
returns c = holds
