use Rattle.std.proofs.Common.{◌≡◌, ◌++◌}
use Rattle.picture_text.specs.Texts.{below, lane_title}
use Rattle.picture_text.proofs.titles.add_named_lanes.Given as goal

abbrev pub invariant-loop-lane : goal.invariant-loop-lane
invariant-loop-lane l = l.into.items ≡ l.fn.into.items ++ below (lane_title l.names l.txn l.right l.y) l.lane
