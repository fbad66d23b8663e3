use Rattle.txn_priorities.proofs.Admitted.{admitted-keeps}
use Rattle.txn_priorities.proofs.admitted_keeps_limits.Goals as goal

pub returns : goal.returns
returns c = λ set prios ok admitted tx inside. admitted-keeps set prios ok admitted tx inside
