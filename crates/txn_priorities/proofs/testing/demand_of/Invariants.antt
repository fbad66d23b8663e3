use Rattle.std.proofs.Common.{◌≡◌, ◌+◌, ◌*◌, ◌^◌, ◌≤◌}
use Rattle.law_times.specs.Response.{demand}
use Rattle.txn_priorities.specs.Around.{trial_set}
use Rattle.txn_priorities.proofs.Tested.{others}
use Rattle.txn_priorities.proofs.testing.demand_of.Given as goal

abbrev pub invariant-loop-other : goal.invariant-loop-other
invariant-loop-other l = record {
  few : l.total ≤ 19999 + l.other * (2 ^ 30 * 10000);
  is : l.total + others l.set l.prios l.tx l.ticks l.other ≡ demand (trial_set l.set l.prios l.tx) l.tx l.ticks;
}
