use Rattle.std.proofs.Common.{◌++◌, ap, ◌∙◌}
use Rattle.txn_set.specs.declared.decl.TxnDecl.{TxnDecl}
use Rattle.txn_set.specs.Set.{Set, txn_of, no_txn}
use Rattle.report_text.proofs.RowLaws.{next_row}
use Rattle.refusal_lines.specs.Lines.{rate_line}
use Rattle.refusal_lines.proofs.rates.rates_text.Goals as goal

pub loop-i-preserved : goal.loop-i-preserved
loop-i-preserved c =
    next_row (rate_line c.args.names.now) _ _ _ c.args.set.now.txns c.loop-i.i no_txn
    (rw (c.txns-i-end.ensures, c.set-rated.ensures) at c.loop-i-test.true)
    (c.in_ok-add_rate.ensures
    ∙ ap (λ (d : TxnDecl). c.loop-i.text.items ++ rate_line c.args.names.now c.loop-i.i d) (c.txn.ensures ∙ ap (λ (s : Set). txn_of s c.loop-i.i) c.set-rated.ensures))
    c.loop-i.invariant
