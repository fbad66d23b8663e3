use Rattle.txn_compiler.specs.Tables.{with_writer}
use Rattle.txn_compiler.proofs.Named.{due-more}
use Rattle.txn_compiler.proofs.writing.note.Goals as goal

pub loop-item-preserved : goal.loop-item-preserved
loop-item-preserved c =
    due-more (with_writer c.args.tx) c.args.writes.now c.loop-item.item-index _ c.args.table.now c.loop-item.table _ _ c.requires c.loop-item.auto.table c.loop-item-test.true c.with_writer.ensures c.loop-item.invariant
