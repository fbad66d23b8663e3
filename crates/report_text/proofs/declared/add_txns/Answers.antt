use Rattle.txn_set.specs.Set.{no_txn}
use Rattle.report_text.specs.Texts.{txn_line}
use Rattle.report_text.proofs.RowLaws.{next_row, all_rows}
use Rattle.report_text.proofs.Named.{reads_named, writes_named}
use Rattle.report_text.proofs.declared.add_txns.Goals as goal

pub add_txn-requires-clause-reads : goal.add_txn-requires-clause-reads
add_txn-requires-clause-reads c =
    reads_named c.args.names.now c.args.set.now c.loop-i.i c.txn.result.now c.requires c.is_compiled.ensures
    (rw c.txns-i-end.ensures at c.loop-i-test.true) c.txn.ensures

pub add_txn-requires-clause-writes : goal.add_txn-requires-clause-writes
add_txn-requires-clause-writes c =
    writes_named c.args.names.now c.args.set.now c.loop-i.i c.txn.result.now c.requires c.is_compiled.ensures
    (rw c.txns-i-end.ensures at c.loop-i-test.true) c.txn.ensures

pub loop-i-preserved : goal.loop-i-preserved
loop-i-preserved c =
    next_row (txn_line c.args.second c.args.names.now) _ _ _ c.args.set.now.txns c.loop-i.i no_txn
    (rw c.txns-i-end.ensures at c.loop-i-test.true) (rw c.txn.ensures at c.in_ok-add_txn.ensures) c.loop-i.invariant

pub returns : goal.returns
returns c =
    all_rows (txn_line c.args.second c.args.names.now) _ _ c.args.set.now.txns c.loop-i.i
    (rw c.txns-i-end.ensures at c.loop-i-test.false) c.loop-i.invariant
