use Rattle.law_histories.proofs.Overrun.{holds}
use Rattle.law_histories.proofs.worked.overrun_holds.Goals as goal

pub returns : goal.returns
returns c = holds
