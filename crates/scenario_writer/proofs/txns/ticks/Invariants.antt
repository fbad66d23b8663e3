use Rattle.std.proofs.Common.{map, drop}
use Rattle.scenario_writer.specs.Canonical.{whole}
use Rattle.scenario_writer.proofs.Loops.{Begun}
use Rattle.scenario_writer.proofs.txns.ticks.Given as goal

abbrev pub invariant-loop-tick : goal.invariant-loop-tick
invariant-loop-tick l = Begun (map whole l.ticks) (map whole (drop l.tick-index l.ticks)) l.fn.out l.out
