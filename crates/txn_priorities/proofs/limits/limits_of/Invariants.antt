use Rattle.std.proofs.Common.{◌≡◌, map, take}
use Rattle.txn_priorities.specs.Limits.{limit_of}
use Rattle.txn_priorities.proofs.limits.limits_of.Given as goal

abbrev pub invariant-loop-txn : goal.invariant-loop-txn
invariant-loop-txn l = l.limits.items ≡ map (limit_of l.set) (take l.txn-index l.set.txns)
