use Rattle.txn_compiler.specs.Tables.{raise_write}
use Rattle.txn_compiler.proofs.Named.{due-more}
use Rattle.txn_compiler.proofs.ceilings.raise_write.Goals as goal

pub loop-item-preserved : goal.loop-item-preserved
loop-item-preserved c =
    due-more (raise_write c.args.prio) c.args.items.now c.loop-item.item-index _ c.args.table.now c.loop-item.table _ _ c.requires c.loop-item.auto.table c.loop-item-test.true c.write_row.ensures c.loop-item.invariant
