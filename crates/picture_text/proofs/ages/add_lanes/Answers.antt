use Rattle.picture_text.specs.Ages.{lane_text}
use Rattle.picture_text.proofs.Sums.{dated_more}
use Rattle.picture_text.proofs.ages.add_lanes.Goals as goal

pub loop-i-preserved : goal.loop-i-preserved
loop-i-preserved c =
    dated_more c.args.set.now (lane_text c.args.set.now c.args.left c.args.right c.args.ages.now) _ _ _ c.loop-i.i c.in_ok-add_lane_if.ensures c.loop-i.invariant
