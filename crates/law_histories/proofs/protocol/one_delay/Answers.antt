use Rattle.law_histories.proofs.DelayAll.{one_delay}
use Rattle.law_histories.proofs.protocol.one_delay.Goals as goal

pub returns : goal.returns
returns c = one_delay
