use Rattle.law_histories.proofs.Bystander.{holds}
use Rattle.law_histories.proofs.worked.bystander_holds.Goals as goal

pub returns : goal.returns
returns c = holds
