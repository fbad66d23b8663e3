use Rattle.std.proofs.Common.{◌≡◌, drop, max}
use Rattle.txn_set.specs.Ceilings.{greatest}
use Rattle.step_script.specs.Releases.{ticks_of}
use Rattle.scenario_reader.proofs.plans.last_tick.Given as goal

abbrev pub invariant-loop-index : goal.invariant-loop-index
invariant-loop-index l =
    max l.last (greatest (drop l.index (ticks_of l.txn l.releases))) ≡ greatest (ticks_of l.txn l.releases)
