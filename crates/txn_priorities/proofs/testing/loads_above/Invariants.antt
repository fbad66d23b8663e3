use Rattle.std.proofs.Common.{◌≡◌, ◌+◌, ◌≤◌, ℕ, length}
use Rattle.response_test.specs.Loads.{uses}
use Rattle.txn_priorities.proofs.Tested.{others}
use Rattle.txn_priorities.proofs.testing.loads_above.Given as goal

abbrev pub invariant-loop-other : goal.invariant-loop-other
invariant-loop-other l = record {
  few : length l.loads ≤ l.other;
  is : (w : ℕ) → uses w l.loads + others l.set l.prios l.tx w l.other ≡ others l.set l.prios l.tx w 0;
}
