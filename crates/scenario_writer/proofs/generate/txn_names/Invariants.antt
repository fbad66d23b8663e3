use Rattle.std.proofs.Common.{◌≡◌}
use Rattle.scenario_writer.specs.Generated.{each, txn_name}
use Rattle.scenario_writer.proofs.generate.txn_names.Given as goal

abbrev pub invariant-loop-i : goal.invariant-loop-i
invariant-loop-i l = l.names.items ≡ each txn_name l.i
