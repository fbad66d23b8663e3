use Rattle.picture_text.specs.Texts.{number_of}
use Rattle.picture_text.proofs.Sums.{below_more}
use Rattle.picture_text.proofs.frame.add_numbers.Goals as goal

pub loop-i-preserved : goal.loop-i-preserved
loop-i-preserved c =
    below_more (number_of c.args.set.now c.args.view) _ _ _ c.loop-i.i c.in_ok-add_number_of.ensures c.loop-i.invariant
