use Rattle.std.proofs.Common.{◌≡◌, map, drop}
use Rattle.std.specs.List.{list_any}
use Rattle.step_script.specs.Scripts.{operation}
use Rattle.step_script.specs.Bodies.{closes}
use Rattle.scenario_check.proofs.scripts.ends.Given as goal

abbrev pub invariant-loop-op : goal.invariant-loop-op
invariant-loop-op l =
    list_any closes (map operation (drop l.op-index l.ops)) ≡ list_any closes (map operation l.ops)
