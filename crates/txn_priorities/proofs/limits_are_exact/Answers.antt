use Rattle.txn_priorities.proofs.Limited.{limits-are-exact}
use Rattle.txn_priorities.proofs.limits_are_exact.Goals as goal

pub returns : goal.returns
returns c = limits-are-exact
