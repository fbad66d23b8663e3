use Rattle.std.proofs.Common.{◌≡◌}
use Rattle.scenario_writer.specs.Generated.{each, dated_name}
use Rattle.scenario_writer.proofs.generate.item_names.Given as goal

abbrev pub invariant-loop-i : goal.invariant-loop-i
invariant-loop-i l = l.names.items ≡ each dated_name l.i
