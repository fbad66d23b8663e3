use Rattle.std.proofs.Common.{◌≡◌, nat_le}
use Rattle.txn_set.specs.Ceilings.{absolute_ceiling}
use Rattle.txn_priorities.specs.Around.{around_set}
use Rattle.txn_priorities.proofs.Above.{users_from}
use Rattle.txn_priorities.proofs.blocking.is_used_above.Given as goal

abbrev pub invariant-loop-tx : goal.invariant-loop-tx
invariant-loop-tx l = users_from l.set l.prios l.item.0 l.tx ≡ nat_le 2 (absolute_ceiling (around_set l.set l.prios) l.item.0)
