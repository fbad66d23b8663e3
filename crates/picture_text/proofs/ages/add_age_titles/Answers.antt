use Rattle.picture_text.specs.Ages.{lane_title}
use Rattle.picture_text.proofs.Sums.{dated_more}
use Rattle.picture_text.proofs.ages.add_age_titles.Goals as goal

pub loop-i-preserved : goal.loop-i-preserved
loop-i-preserved c =
    dated_more c.args.set.now (lane_title c.args.names.now c.args.set.now c.args.left c.args.ages.now) _ _ _ c.loop-i.i c.in_ok-add_age_title_if.ensures c.loop-i.invariant
