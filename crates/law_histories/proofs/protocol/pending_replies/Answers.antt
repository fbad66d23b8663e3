use Rattle.law_histories.proofs.SerialAll.{pending_alone}
use Rattle.law_histories.proofs.protocol.pending_replies.Goals as goal

pub returns : goal.returns
returns c = pending_alone
