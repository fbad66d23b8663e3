use Rattle.std.proofs.Common.{◌≡◌, drop, map}
use Rattle.scenario_forms.specs.Sets.{set_view}
use Rattle.scenario_reader.specs.Unknown.{unknown_set_from}
use Rattle.scenario_reader.proofs.unknown.in_sets.Given as goal

abbrev pub invariant-loop-i : goal.invariant-loop-i
invariant-loop-i l = unknown_set_from l.i (map set_view (drop l.i l.sets)) ≡ unknown_set_from 0 (map set_view l.sets)
