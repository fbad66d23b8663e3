use Rattle.std.proofs.Common.{◌≡◌, drop, length}
use Rattle.name_table.specs.Places.{place_in}
use Rattle.serde_json.specs.View.{items_view}
use Rattle.scenario_forms.specs.Reading.{fold_at}
use Rattle.scenario_forms.specs.Txns.{txn_step, txns_view, no_txns_yet}
use Rattle.scenario_forms.proofs.txn.txns.Given as goal

abbrev pub invariant-loop-value : goal.invariant-loop-value
invariant-loop-value l = record {
  count : length l.table.names ≡ l.value-index;
  read : fold_at (txn_step l.second (place_in l.items)) (txns_view l.table) (items_view (drop l.value-index l.values))
      ≡ fold_at (txn_step l.second (place_in l.items)) no_txns_yet (items_view l.values);
}
