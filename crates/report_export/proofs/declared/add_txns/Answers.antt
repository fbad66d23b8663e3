use Rattle.std.proofs.Common.{List, get_or, ap, ◌∙◌}
use Rattle.std.proofs.lemmas.List.{get_or_read}
use Rattle.txn_set.specs.declared.decl.TxnDecl.{TxnDecl}
use Rattle.txn_set.specs.Set.{no_txn}
use Rattle.report_text.proofs.Named.{reads_named, writes_named}
use Rattle.report_export.proofs.declared.add_txns.Goals as goal

pub add_txn-requires-clause-reads : goal.add_txn-requires-clause-reads
add_txn-requires-clause-reads c =
    reads_named c.args.names.now c.args.set.now c.loop-i.i c.decl-item.result c.requires c.is_compiled.ensures
    (rw c.txns-decl-items.ensures at c.loop-i-test.true)
    (get_or_read _ c.loop-i.i c.decl-item.result c.loop-i-test.true c.decl-item.is no_txn
    ∙ ap (λ (l : List TxnDecl). get_or l c.loop-i.i no_txn) c.txns-decl-items.ensures)

pub add_txn-requires-clause-writes : goal.add_txn-requires-clause-writes
add_txn-requires-clause-writes c =
    writes_named c.args.names.now c.args.set.now c.loop-i.i c.decl-item.result c.requires c.is_compiled.ensures
    (rw c.txns-decl-items.ensures at c.loop-i-test.true)
    (get_or_read _ c.loop-i.i c.decl-item.result c.loop-i-test.true c.decl-item.is no_txn
    ∙ ap (λ (l : List TxnDecl). get_or l c.loop-i.i no_txn) c.txns-decl-items.ensures)
