use Rattle.std.proofs.Common.{◌≡◌, [], drop}
use Rattle.serde_json.specs.View.{items_view}
use Rattle.scenario_forms.specs.declared.error.TxnMember.TheVariants as members
use Rattle.scenario_forms.specs.declared.arrays.Owner.TheVariants.{Txn}
use Rattle.scenario_forms.specs.Reading.{fold_at, form_step}
use Rattle.scenario_forms.specs.Fields.{integer}
use Rattle.scenario_forms.specs.Arrays.{element_place}
use Rattle.scenario_forms.proofs.arrays.samples.Given as goal

abbrev pub invariant-loop-value : goal.invariant-loop-value
invariant-loop-value l = fold_at (form_step (element_place (Txn l.i members.Samples)) (integer)) (l.found.items)
    (items_view (drop l.value-index l.values)) ≡ fold_at
    (form_step (element_place (Txn l.i members.Samples)) (integer)) [] (items_view l.values)
