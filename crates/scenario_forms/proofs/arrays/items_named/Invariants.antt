use Rattle.std.proofs.Common.{◌≡◌, [], drop}
use Rattle.name_table.specs.Places.{place_in}
use Rattle.serde_json.specs.View.{items_view}
use Rattle.scenario_forms.specs.Reading.{fold_at, form_step}
use Rattle.scenario_forms.specs.Arrays.{element_place, named}
use Rattle.scenario_forms.proofs.arrays.items_named.Given as goal

abbrev pub invariant-loop-value : goal.invariant-loop-value
invariant-loop-value l = fold_at (form_step (element_place l.owner) (named (place_in l.names))) (l.found.items)
    (items_view (drop l.value-index l.values)) ≡ fold_at
    (form_step (element_place l.owner) (named (place_in l.names))) [] (items_view l.values)
