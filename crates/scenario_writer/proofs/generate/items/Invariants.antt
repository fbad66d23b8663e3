use Rattle.std.proofs.Common.{◌≡◌}
use Rattle.scenario_writer.specs.Generated.{each, dated_item}
use Rattle.scenario_writer.proofs.generate.items.Given as goal

abbrev pub invariant-loop-i : goal.invariant-loop-i
invariant-loop-i l = l.decls.items ≡ each (dated_item l.n) l.i
