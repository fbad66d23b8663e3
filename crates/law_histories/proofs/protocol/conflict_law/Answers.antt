use Rattle.law_histories.proofs.SerialAll.{no_conflict}
use Rattle.law_histories.proofs.protocol.conflict_law.Goals as goal

pub returns : goal.returns
returns c = no_conflict
