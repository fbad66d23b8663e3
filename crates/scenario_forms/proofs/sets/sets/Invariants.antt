use Rattle.std.proofs.Common.{◌≡◌, [], drop, map}
use Rattle.name_table.specs.Places.{place_in}
use Rattle.serde_json.specs.View.{items_view}
use Rattle.scenario_forms.specs.Reading.{fold_at}
use Rattle.scenario_forms.specs.Sets.{set_step, set_view}
use Rattle.scenario_forms.proofs.sets.sets.Given as goal

abbrev pub invariant-loop-value : goal.invariant-loop-value
invariant-loop-value l = fold_at (set_step (place_in l.items)) (map set_view l.found.items)
    (items_view (drop l.value-index l.values)) ≡ fold_at (set_step (place_in l.items)) [] (items_view l.values)
