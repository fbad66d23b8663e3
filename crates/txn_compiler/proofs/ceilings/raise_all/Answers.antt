use Rattle.std.proofs.Common.{length, ap, ◌∙◌}
use Rattle.txn_set.specs.declared.decl.TxnDecl.{TxnDecl}
use Rattle.txn_compiler.proofs.Raising.{raised-none, raised-more, raised-all, reads-at, writes-at}
use Rattle.txn_compiler.proofs.ceilings.raise_all.Goals as goal

pub loop-txn-init : goal.loop-txn-init
loop-txn-init c = raised-none c.args.txns.now c.args.table.now c.requires.none

pub raise_absolute-requires : goal.raise_absolute-requires
raise_absolute-requires c =
    reads-at (length c.args.table.now) c.args.txns.now c.loop-txn.txn-index _ _ _ c.requires.lists c.loop-txn-test.true
    (c.as_slice.ensures ∙ ap (λ (t : TxnDecl). t.reads) c.txn-item.is) c.loop-txn.auto.table

pub raise_write-requires : goal.raise_write-requires
raise_write-requires c =
    writes-at (length c.args.table.now) c.args.txns.now c.loop-txn.txn-index _ _ _ c.requires.lists c.loop-txn-test.true
    (c.as_slice-in-loop-txn.ensures ∙ ap (λ (t : TxnDecl). t.writes) c.txn-item.is) (c.raise_absolute.auto.table ∙ c.loop-txn.auto.table)

pub loop-txn-preserved : goal.loop-txn-preserved
loop-txn-preserved c =
    raised-more (length c.args.table.now) c.args.txns.now c.loop-txn.txn-index _ c.as_slice.result.now c.as_slice-in-loop-txn.result.now c.txn-item.result.prio c.loop-txn.table c.raise_absolute.new.table _ c.loop-txn-test.true
    (c.as_slice.ensures ∙ ap (λ (t : TxnDecl). t.reads) c.txn-item.is) (c.as_slice-in-loop-txn.ensures ∙ ap (λ (t : TxnDecl). t.writes) c.txn-item.is) (ap (λ (t : TxnDecl). t.prio) c.txn-item.is)
    c.raise_absolute.ensures c.raise_absolute.auto.table c.raise_write.ensures c.raise_write.auto.table c.loop-txn.invariant

pub returns : goal.returns
returns c = raised-all (length c.args.table.now) c.args.txns.now c.loop-txn.txn-index c.loop-txn.table c.loop-txn-test.false c.loop-txn.invariant
