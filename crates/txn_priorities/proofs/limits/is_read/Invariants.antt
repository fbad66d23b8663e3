use Rattle.std.proofs.Common.{◌≡◌, drop}
use Rattle.txn_priorities.specs.Limits.{is_read}
use Rattle.txn_priorities.proofs.limits.is_read.Given as goal

abbrev pub invariant-loop-txn : goal.invariant-loop-txn
invariant-loop-txn l = is_read l.txns l.item.0 ≡ is_read (drop l.txn-index l.txns) l.item.0
