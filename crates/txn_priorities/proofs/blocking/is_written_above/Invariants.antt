use Rattle.std.proofs.Common.{◌≡◌, nat_le}
use Rattle.txn_set.specs.Ceilings.{write_ceiling}
use Rattle.txn_priorities.specs.Around.{around_set}
use Rattle.txn_priorities.proofs.Above.{writers_from}
use Rattle.txn_priorities.proofs.blocking.is_written_above.Given as goal

abbrev pub invariant-loop-tx : goal.invariant-loop-tx
invariant-loop-tx l = writers_from l.set l.prios l.item.0 l.tx ≡ nat_le 2 (write_ceiling (around_set l.set l.prios) l.item.0)
