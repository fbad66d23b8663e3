use Rattle.txn_set.specs.Set.{no_txn}
use Rattle.report_text.proofs.RowLaws.{next_row, all_rows}
use Rattle.run_report.specs.Bounds.{bounds_line}
use Rattle.run_report.proofs.BoundLines.{bound_is}
use Rattle.run_report.proofs.limits.add_bounds.Goals as goal

pub loop-i-preserved : goal.loop-i-preserved
loop-i-preserved c =
    next_row (bounds_line c.args.names.now c.args.set.now) _ _ _ c.args.set.now.txns c.loop-i.i no_txn
    (rw (c.txns-i-end.ensures, c.set.ensures) at c.loop-i-test.true)
    (bound_is c.args.names.now c.args.set.now c.loop-i.i _ _ _ _ c.blocking.ensures c.response.ensures c.in_ok-add_bound.ensures)
    c.loop-i.invariant

pub returns : goal.returns
returns c =
    all_rows (bounds_line c.args.names.now c.args.set.now) _ _ c.args.set.now.txns c.loop-i.i
    (rw (c.txns-i-end.ensures, c.set.ensures) at c.loop-i-test.false) c.loop-i.invariant
