use Rattle.law_histories.proofs.Late.{holds}
use Rattle.law_histories.proofs.worked.late_holds.Goals as goal

pub returns : goal.returns
returns c = holds
