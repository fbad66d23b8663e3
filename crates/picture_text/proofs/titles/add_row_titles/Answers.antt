use Rattle.picture_text.specs.Texts.{title_of}
use Rattle.picture_text.proofs.Sums.{below_more}
use Rattle.picture_text.proofs.titles.add_row_titles.Goals as goal

pub loop-i-preserved : goal.loop-i-preserved
loop-i-preserved c =
    below_more (title_of c.args.names.now c.args.set.now c.args.left) _ _ _ c.loop-i.i c.in_ok-add_title_of.ensures
    c.loop-i.invariant
