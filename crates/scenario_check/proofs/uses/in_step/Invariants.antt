use Rattle.std.proofs.Common.{◌≡◌, drop}
use Rattle.scenario_check.specs.Scripts.{in_step}
use Rattle.scenario_check.proofs.uses.in_step.Given as goal

abbrev pub invariant-loop-tick : goal.invariant-loop-tick
invariant-loop-tick l =
    in_step l.next l.period (drop l.tick-index l.ticks) ≡ in_step l.fn.first l.period l.ticks
