use Rattle.std.proofs.Common.{sym, ap, ◌∙◌, length, is_none, arith}
use Rattle.update_rates.proofs.Updating.{other-is, other-found, others-none}
use Rattle.update_rates.proofs.updaters.updaters_of.Goals as goal

pub returns-in_default-clause-err : goal.returns-in_default-clause-err
returns-in_default-clause-err c =
    other-found c.args.set.now c.loop-tx.tx (omega (arith, ap length c.txns-txn-items.ensures))
    (sym
    (other-is c.args.set.now c.loop-tx.tx c.txn-item.result c.txns-txn-items.result.now c.items.result.now c.updater_validity.result c.txns-txn-items.ensures
    c.items.ensures (omega arith) c.txn-item.is c.updater_validity.ensures)
    ∙ ap is_none c.in_default.is)
    c.loop-tx.invariant.passed

pub returns-clause-passed : goal.returns-clause-passed
returns-clause-passed c = others-none c.args.set.now c.loop-tx.tx (omega (arith, ap length c.txns-txn-items.ensures)) c.loop-tx.invariant.passed
