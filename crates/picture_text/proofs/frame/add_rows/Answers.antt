use Rattle.picture_text.specs.Texts.{row_of}
use Rattle.picture_text.proofs.Sums.{below_more}
use Rattle.picture_text.proofs.frame.add_rows.Goals as goal

pub loop-i-preserved : goal.loop-i-preserved
loop-i-preserved c =
    below_more (row_of c.args.set.now c.args.view) _ _ _ c.loop-i.i c.in_ok-add_row_of.ensures c.loop-i.invariant
