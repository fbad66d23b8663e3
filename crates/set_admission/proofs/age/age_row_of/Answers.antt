use Rattle.std.proofs.Common.{◌<◌, ◌∙◌, List, length, arith, ap}
use Rattle.item_model.specs.Kinds.{is_derived}
use Rattle.item_model.specs.declared.decl.ItemDecl.{ItemDecl}
use Rattle.txn_set.specs.declared.decl.TxnDecl.{TxnDecl}
use Rattle.set_admission.proofs.AgeRows.{turn-le, row-past}
use Rattle.set_admission.proofs.age.age_row_of.Goals as goal

pub overflow_add-result : goal.overflow_add-result
overflow_add-result c =
    let inside : c.writer_at-writer.result < length c.args.set.now.txns = omega (arith, c.if-writer-txns.true, ap length c.txns.ensures) in
    let turn = turn-le c.args.set.now c.requires.compiled c.args.responses.now c.requires.responses c.writer_at-writer.result inside in
    omega (arith, turn, ap (λ (t : TxnDecl). t.period) c.txn-txn.ensures)

pub returns-else-writer-txns : goal.returns-else-writer-txns
returns-else-writer-txns c =
    let derived = c.is_derived-derived.ensures ∙ ap (λ (items : List ItemDecl). is_derived items c.args.item.0) c.items.ensures in
    row-past c.args.set.now c.args.item.0 _ _ _ derived c.writer_at-writer.ensures (omega (arith, c.if-writer-txns.false, ap length c.txns.ensures))
    (rw c.of-else-writer-txns.ensures c.new.ensures.items)
