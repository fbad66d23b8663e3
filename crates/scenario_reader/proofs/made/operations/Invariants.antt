use Rattle.std.proofs.Common.{◌≡◌, map}
use Rattle.step_script.specs.Scripts.{operation}
use Rattle.scenario_forms.specs.Ops.{op_view}
use Rattle.scenario_reader.specs.Made.{ops_of}
use Rattle.scenario_reader.proofs.made.operations.Given as goal

abbrev pub invariant-loop-read : goal.invariant-loop-read
invariant-loop-read l = map operation l.ops.items ≡ ops_of (map op_view l.yielded)
