use Rattle.law_histories.proofs.DerivedStamp.{holds}
use Rattle.law_histories.proofs.worked.derived_stamp_holds.Goals as goal

pub returns : goal.returns
returns c = holds
