use Rattle.std.proofs.Common.{◌≡◌, ◌++◌, drop}
use Rattle.step_script.specs.Releases.{fixed_ticks}
use Rattle.scenario_run.proofs.ticks.all_fixed.Given as goal

abbrev pub invariant-loop-i : goal.invariant-loop-i
invariant-loop-i l = l.ticks.items ++ fixed_ticks (drop l.i l.txns) (drop l.i l.releases) ≡ fixed_ticks l.txns l.releases
