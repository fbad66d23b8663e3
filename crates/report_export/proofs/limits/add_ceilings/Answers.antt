use Rattle.report_export.specs.Whole.{ceilings_json}
use Rattle.report_text.proofs.RowLaws.{no_item, next_row, all_rows}
use Rattle.report_export.proofs.limits.add_ceilings.Goals as goal

pub loop-i-preserved : goal.loop-i-preserved
loop-i-preserved c =
    next_row (ceilings_json c.args.names.now c.args.set.now) _ _ _ c.args.set.now.items c.loop-i.i no_item
    (rw c.items-i-end.ensures at c.loop-i-test.true)
    (rw (c.write_ceiling.ensures, c.absolute_ceiling.ensures) at c.in_ok-add_ceiling.ensures) c.loop-i.invariant

pub returns : goal.returns
returns c =
    all_rows (ceilings_json c.args.names.now c.args.set.now) _ _ c.args.set.now.items c.loop-i.i
    (rw c.items-i-end.ensures at c.loop-i-test.false) c.loop-i.invariant
