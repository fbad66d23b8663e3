use Rattle.std.proofs.Common.{◌≡◌, drop}
use Rattle.std.specs.List.{fold}
use Rattle.txn_priorities.specs.Limits.{limit_of}
use Rattle.txn_priorities.proofs.Limited.{step}
use Rattle.txn_priorities.proofs.limits.limit_of.Given as goal

abbrev pub invariant-loop-item : goal.invariant-loop-item
invariant-loop-item l = fold (step l.set l.txn.period) l.most (drop l.item-index l.item-items) ≡ limit_of l.set l.txn
