use Rattle.std.proofs.Common.{◌≡◌, ◌≤◌, max}
use Rattle.txn_set.specs.Ceilings.{blocking}
use Rattle.txn_priorities.specs.Around.{around_set}
use Rattle.txn_priorities.proofs.Above.{loudest}
use Rattle.txn_priorities.proofs.blocking.blocking_above.Given as goal

abbrev pub invariant-loop-tx : goal.invariant-loop-tx
invariant-loop-tx l = record {
  few : l.greatest ≤ 9999;
  is : max l.greatest (loudest l.set l.prios l.tx) ≡ blocking (around_set l.set l.prios) 2;
}
