use Rattle.std.proofs.Common.{◌≡◌, ltb, map, drop}
use Rattle.step_script.specs.Scripts.{operation}
use Rattle.step_script.specs.Bodies.{steps_of}
use Rattle.scenario_reader.proofs.scripts.is_long.Given as goal

abbrev pub invariant-loop-op : goal.invariant-loop-op
invariant-loop-op l =
    ltb l.left (steps_of (map operation (drop l.op-index l.ops))) ≡ ltb 10000 (steps_of (map operation l.ops))
