use Rattle.std.proofs.Common.{◌≡◌, ◌++◌}
use Rattle.picture_text.specs.Ages.{dated_text, lane_text}
use Rattle.picture_text.proofs.ages.add_lanes.Given as goal

abbrev pub invariant-loop-i : goal.invariant-loop-i
invariant-loop-i l = l.into.items ≡ l.fn.into.items ++ dated_text l.set (lane_text l.set l.left l.right l.ages) l.i
