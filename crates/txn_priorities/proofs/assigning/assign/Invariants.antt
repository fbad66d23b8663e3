use Rattle.std.proofs.Common.{◌≡◌, ◌+◌, ◌-◌, ◌*◌, ◌≤◌, length}
use Rattle.law_times.specs.Pass.{pass_to, AreGiven}
use Rattle.txn_priorities.specs.Limits.{limit}
use Rattle.txn_priorities.proofs.assigning.assign.Given as goal

abbrev pub invariant-loop-below : goal.invariant-loop-below
invariant-loop-below g l = record {
  prios : l.prios.items ≡ pass_to l.set (limit l.set) l.below;
  given : AreGiven l.set (limit l.set) l.below;
  looks :
      2 * l.steps + (length l.set.txns - l.below) * (length l.set.txns - l.below + 1)
      ≤ 2 * l.fn.steps + length l.set.txns * (length l.set.txns + 1);
}
