use Rattle.std.proofs.Common.{◌≡◌, ◌^◌, ◌≤◌, drop, map, max}
use Rattle.txn_set.specs.Ceilings.{greatest}
use Rattle.scenario_reader.proofs.plans.longest_period.Given as goal

abbrev pub invariant-loop-txn : goal.invariant-loop-txn
invariant-loop-txn l = record {
  same : max l.longest (greatest (map (λ t. t.period) (drop l.txn-index l.txns)))
      ≡ greatest (map (λ t. t.period) l.txns);
  fits : l.longest ≤ 2 ^ 40;
}
