use Rattle.picture_text.specs.Texts.{lane_title}
use Rattle.picture_text.proofs.Sums.{below_more}
use Rattle.picture_text.proofs.titles.add_named_lanes.Goals as goal

pub loop-lane-preserved : goal.loop-lane-preserved
loop-lane-preserved c =
    below_more (lane_title c.args.names.now c.args.txn.now c.args.right c.args.y) _ _ _ c.loop-lane.lane
    c.in_ok-add_lane_title.ensures c.loop-lane.invariant
