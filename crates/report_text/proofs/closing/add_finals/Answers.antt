use Rattle.report_text.specs.Texts.{final_line}
use Rattle.report_text.proofs.RowLaws.{next_row, all_rows}
use Rattle.report_text.proofs.closing.add_finals.Goals as goal

pub loop-i-preserved : goal.loop-i-preserved
loop-i-preserved c =
    next_row (final_line c.args.names.now) _ _ _ c.args.items.now c.loop-i.i _ c.loop-i-test.true c.in_ok-add_final.ensures
    c.loop-i.invariant

pub returns : goal.returns
returns c =
    all_rows (final_line c.args.names.now) _ _ c.args.items.now c.loop-i.i c.loop-i-test.false c.loop-i.invariant
