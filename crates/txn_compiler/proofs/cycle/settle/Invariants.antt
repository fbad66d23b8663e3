use Rattle.txn_compiler.specs.Tables.{AreSettled}
use Rattle.txn_compiler.proofs.cycle.settle.Given as goal

abbrev pub invariant-loop-item : goal.invariant-loop-item
invariant-loop-item l = AreSettled l.graph.items l.graph.txns l.settled
