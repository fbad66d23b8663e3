use Rattle.law_histories.proofs.SerialAll.{serial}
use Rattle.law_histories.proofs.protocol.serial_replies.Goals as goal

pub returns : goal.returns
returns c = serial
