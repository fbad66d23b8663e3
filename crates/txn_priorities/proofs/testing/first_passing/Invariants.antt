use Rattle.std.proofs.Common.{◌≡◌, ◌+◌, ◌≤◌, drop}
use Rattle.law_times.specs.Pass.{first_passing, left}
use Rattle.txn_priorities.specs.Limits.{limit}
use Rattle.txn_priorities.proofs.Tested.{first_from}
use Rattle.txn_priorities.proofs.testing.first_passing.Given as goal

abbrev pub invariant-loop-tx : goal.invariant-loop-tx
invariant-loop-tx g l = record {
  rest : first_from l.set l.prios l.tx ≡ first_passing l.set (limit l.set) l.prios;
  looks : l.steps + left (drop l.tx l.prios) ≤ l.fn.steps + left l.prios;
}
