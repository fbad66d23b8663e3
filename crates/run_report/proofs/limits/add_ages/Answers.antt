use Rattle.report_text.proofs.RowLaws.{no_item, next_row, all_rows}
use Rattle.run_report.specs.Bounds.{ages_line}
use Rattle.run_report.proofs.limits.add_ages.Goals as goal

pub loop-i-preserved : goal.loop-i-preserved
loop-i-preserved c =
    next_row (ages_line c.args.names.now c.args.set.now) _ _ _ c.args.set.now.items c.loop-i.i no_item
    (rw (c.items-i-end.ensures, c.set.ensures) at c.loop-i-test.true) c.in_ok-add_age_of.ensures c.loop-i.invariant

pub returns : goal.returns
returns c =
    all_rows (ages_line c.args.names.now c.args.set.now) _ _ c.args.set.now.items c.loop-i.i
    (rw (c.items-i-end.ensures, c.set.ensures) at c.loop-i-test.false) c.loop-i.invariant
