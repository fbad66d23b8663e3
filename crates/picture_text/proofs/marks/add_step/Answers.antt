use Rattle.picture_text.proofs.Sums.{back}
use Rattle.picture_text.proofs.marks.add_step.Goals as goal

pub returns : goal.returns
returns c = back _ _ _ _ _ c.in_ok-add_letter.ensures c.in_ok-add_block.ensures
