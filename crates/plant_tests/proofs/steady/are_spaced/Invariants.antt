use Rattle.std.proofs.Common.{drop}
use Rattle.sim_run.specs.Workloads.{AreSpaced}
use Rattle.plant_tests.proofs.steady.are_spaced.Given as goal

abbrev pub invariant-loop-tick : goal.invariant-loop-tick
invariant-loop-tick l = AreSpaced l.period l.from (drop l.tick-index l.ticks) → AreSpaced l.period 0 l.ticks
