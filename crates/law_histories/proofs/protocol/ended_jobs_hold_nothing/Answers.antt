use Rattle.law_histories.proofs.SerialAll.{ended_hold_nothing}
use Rattle.law_histories.proofs.protocol.ended_jobs_hold_nothing.Goals as goal

pub returns : goal.returns
returns c = ended_hold_nothing
