use Rattle.std.proofs.Common.{◌≡◌, map}
use Rattle.std.specs.List.{range_with_len}
use Rattle.txn_set.specs.Set.{periodic_release}
use Rattle.scenario_run.proofs.ticks.periodic.Given as goal

abbrev pub invariant-loop-k : goal.invariant-loop-k
invariant-loop-k l = l.ticks.items ≡ map (λ k. periodic_release l.txn k) (range_with_len 0 l.k)
