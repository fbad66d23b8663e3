use Rattle.std.proofs.Common.{◌≡◌, drop, map, max}
use Rattle.txn_set.specs.Ceilings.{greatest}
use Rattle.step_script.specs.Releases.{fixed_ticks}
use Rattle.scenario_reader.proofs.plans.last_of_all.Given as goal

abbrev pub invariant-loop-tx : goal.invariant-loop-tx
invariant-loop-tx l =
    max l.last (greatest (map greatest (fixed_ticks (drop l.tx l.txns) (drop l.tx l.releases))))
    ≡ greatest (map greatest (fixed_ticks l.txns l.releases))
