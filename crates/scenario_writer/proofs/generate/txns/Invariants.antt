use Rattle.std.proofs.Common.{◌≡◌}
use Rattle.scenario_writer.specs.Generated.{each, txn_decl}
use Rattle.scenario_writer.proofs.generate.txns.Given as goal

abbrev pub invariant-loop-i : goal.invariant-loop-i
invariant-loop-i l = l.txns.items ≡ each (txn_decl l.n) l.i
