use Rattle.txn_set.specs.declared.decl.TxnDecl.{TxnDecl}
use Rattle.txn_set.specs.Set.{no_txn}
use Rattle.report_text.proofs.RowLaws.{next_row}
use Rattle.tool_command.specs.Slacks.{slack_lines, slack_at}
use Rattle.tool_command.proofs.slack_lines.put_slacks.Goals as goal

pub loop-place-preserved : goal.loop-place-preserved
loop-place-preserved g c =
    next_row (λ tx (t : TxnDecl). slack_lines c.args.names.now tx (slack_at c.args.set.now tx)) _ _ _ c.args.set.now.txns c.loop-place.place no_txn
    (rw (c.txns-place-end.ensures, c.set.ensures) at c.loop-place-test.true)
    c.in_ok-put_slack_of.ensures
    c.loop-place.invariant
