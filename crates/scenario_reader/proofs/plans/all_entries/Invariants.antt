use Rattle.std.proofs.Common.{◌≡◌, ◌+◌, drop}
use Rattle.step_script.specs.Releases.{entries_in}
use Rattle.scenario_reader.proofs.plans.all_entries.Given as goal

abbrev pub invariant-loop-tx : goal.invariant-loop-tx
invariant-loop-tx l =
    l.total + entries_in (drop l.tx l.txns) (drop l.tx l.releases) ≡ entries_in l.txns l.releases
