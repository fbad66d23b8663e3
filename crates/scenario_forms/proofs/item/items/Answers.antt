use Rattle.std.proofs.Common.{arith}
use Rattle.std.proofs.lemmas.Result.{err_from_is_err_and}
use Rattle.scenario_forms.specs.Items.{item_step, table_view}
use Rattle.scenario_forms.proofs.Folds.{goes_on, ends, is_done}
use Rattle.scenario_forms.proofs.ItemSteps.{one_more_name}
use Rattle.scenario_forms.proofs.item.items.Goals as goal

pub returns-in_err-add_item : goal.returns-in_err-add_item
returns-in_err-add_item c =
    let p = err_from_is_err_and c.from_residual.result c.from_residual.ensures.1 in
    rw (p.1, p.2) (ends item_step _ (table_view c.loop-value.table) _ _ _ _ c.loop-value-test.true c.value-item.is
    c.in_err-add_item.ensures c.loop-value.invariant.read)

pub add_item-requires : goal.add_item-requires
add_item-requires c = omega (arith, c.loop-value.invariant.count, c.loop-value-test.true, c.requires)

pub loop-value-preserved : goal.loop-value-preserved
loop-value-preserved c = record {
  count = omega (arith, one_more_name _ _ _ c.in_ok-add_item.ensures, c.loop-value.invariant.count);
  read = goes_on item_step (table_view c.loop-value.table) _ _ _ _ _ c.loop-value-test.true c.value-item.is
      c.in_ok-add_item.ensures c.loop-value.invariant.read;
}

pub returns : goal.returns
returns c = is_done item_step _ _ _ _ c.loop-value-test.false c.loop-value.invariant.read
