use Rattle.std.proofs.Common.{arith}
use Rattle.std.proofs.lemmas.Result.{err_from_is_err_and}
use Rattle.name_table.specs.Places.{place_in}
use Rattle.scenario_forms.specs.Txns.{txn_step, txns_view}
use Rattle.scenario_forms.proofs.Folds.{goes_on, ends, is_done}
use Rattle.scenario_forms.proofs.TxnSteps.{one_more_name}
use Rattle.scenario_forms.proofs.txn.txns.Goals as goal

pub returns-in_err-add_txn : goal.returns-in_err-add_txn
returns-in_err-add_txn c =
    let p = err_from_is_err_and c.from_residual.result c.from_residual.ensures.1 in
    rw (p.1, p.2) (ends (txn_step c.args.second (place_in c.args.items.now)) _ (txns_view c.loop-value.table) _ _ _ _
    c.loop-value-test.true c.value-item.is c.in_err-add_txn.ensures c.loop-value.invariant.read)

pub add_txn-requires : goal.add_txn-requires
add_txn-requires c = omega (arith, c.loop-value.invariant.count, c.loop-value-test.true, c.requires)

pub loop-value-preserved : goal.loop-value-preserved
loop-value-preserved c = record {
  count = omega (arith, one_more_name _ _ _ _ _ c.in_ok-add_txn.ensures, c.loop-value.invariant.count);
  read = goes_on (txn_step c.args.second (place_in c.args.items.now)) (txns_view c.loop-value.table) _ _ _ _ _
      c.loop-value-test.true c.value-item.is c.in_ok-add_txn.ensures c.loop-value.invariant.read;
}

pub returns : goal.returns
returns c = is_done _ _ _ _ _ c.loop-value-test.false c.loop-value.invariant.read
