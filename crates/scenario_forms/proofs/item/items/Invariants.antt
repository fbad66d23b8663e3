use Rattle.std.proofs.Common.{◌≡◌, drop, length}
use Rattle.serde_json.specs.View.{items_view}
use Rattle.scenario_forms.specs.Reading.{fold_at}
use Rattle.scenario_forms.specs.Items.{item_step, no_items_yet, table_view}
use Rattle.scenario_forms.proofs.item.items.Given as goal

abbrev pub invariant-loop-value : goal.invariant-loop-value
invariant-loop-value l = record {
  count : length l.table.names ≡ l.value-index;
  read : fold_at item_step (table_view l.table) (items_view (drop l.value-index l.values))
      ≡ fold_at item_step no_items_yet (items_view l.values);
}
