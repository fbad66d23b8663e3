use Rattle.std.proofs.Common.{◌≡◌, [], drop, map}
use Rattle.name_table.specs.Places.{place_in}
use Rattle.serde_json.specs.View.{items_view}
use Rattle.scenario_forms.specs.declared.error.TxnMember.TheVariants as members
use Rattle.scenario_forms.specs.declared.arrays.Owner.TheVariants.{Txn}
use Rattle.scenario_forms.specs.Reading.{fold_at, form_step}
use Rattle.scenario_forms.specs.Ops.{op_view, op_in}
use Rattle.scenario_forms.specs.Arrays.{element_place}
use Rattle.scenario_forms.proofs.arrays.script.Given as goal

abbrev pub invariant-loop-value : goal.invariant-loop-value
invariant-loop-value l = fold_at (form_step (element_place (Txn l.i members.Script)) (op_in (place_in l.names)))
    (map op_view l.found.items) (items_view (drop l.value-index l.values)) ≡ fold_at
    (form_step (element_place (Txn l.i members.Script)) (op_in (place_in l.names))) [] (items_view l.values)
