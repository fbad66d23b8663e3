use Rattle.std.proofs.Common.{length, ap, ◌∙◌}
use Rattle.txn_set.specs.declared.decl.TxnDecl.{TxnDecl}
use Rattle.txn_compiler.proofs.Noting.{noted-none, noted-more, noted-all, list-at}
use Rattle.txn_compiler.proofs.writing.note_all.Goals as goal

pub loop-tx-init : goal.loop-tx-init
loop-tx-init c = noted-none c.args.txns.now c.args.table.now c.requires.nobody

pub note-requires : goal.note-requires
note-requires c =
    list-at (length c.args.table.now) c.args.txns.now c.loop-tx.tx c.index-txns-tx.result _ _ c.requires.lists c.loop-tx-test.true
    (c.as_slice.ensures ∙ ap (λ (t : TxnDecl). t.writes) c.index-txns-tx.is) c.loop-tx.auto.table

pub loop-tx-preserved : goal.loop-tx-preserved
loop-tx-preserved c =
    noted-more (length c.args.table.now) c.args.txns.now c.loop-tx.tx c.index-txns-tx.result c.as_slice.result.now c.loop-tx.table _ c.loop-tx-test.true
    (c.as_slice.ensures ∙ ap (λ (t : TxnDecl). t.writes) c.index-txns-tx.is) c.note.ensures c.note.auto.table c.loop-tx.invariant

pub returns : goal.returns
returns c = noted-all (length c.args.table.now) c.args.txns.now c.loop-tx.tx c.loop-tx.table c.loop-tx-test.false c.loop-tx.invariant
