use Rattle.scenario_writer.proofs.Runs.{IsLeft}
use Rattle.scenario_writer.proofs.script.script.Given as goal

abbrev pub invariant-loop-op : goal.invariant-loop-op
invariant-loop-op l = IsLeft l.names l.ops l.fn.out l.out l.run l.op-index
