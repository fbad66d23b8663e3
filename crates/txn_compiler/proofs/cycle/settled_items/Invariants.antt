use Rattle.std.proofs.Common.{◌≡◌, length}
use Rattle.txn_compiler.specs.Tables.{AreSettled}
use Rattle.txn_compiler.proofs.cycle.settled_items.Given as goal

abbrev pub invariant-loop : goal.invariant-loop
invariant-loop l = record {
  one_each : length l.settled.items ≡ length l.graph.items;
  settled : AreSettled l.graph.items l.graph.txns l.settled.items;
}
