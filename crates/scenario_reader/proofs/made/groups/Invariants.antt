use Rattle.std.proofs.Common.{◌≡◌, map, take}
use Rattle.scenario_forms.specs.Sets.{set_view}
use Rattle.scenario_reader.specs.Made.{group_of}
use Rattle.scenario_reader.proofs.made.groups.Given as goal

abbrev pub invariant-loop-set : goal.invariant-loop-set
invariant-loop-set l = l.found.items ≡ map (group_of l.items) (map set_view (take l.set-index l.sets))
