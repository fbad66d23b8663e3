use Rattle.std.proofs.Common.{◌≡◌, ◌++◌}
use Rattle.picture_text.specs.Ages.{dated_text, lane_title}
use Rattle.picture_text.proofs.ages.add_age_titles.Given as goal

abbrev pub invariant-loop-i : goal.invariant-loop-i
invariant-loop-i l = l.into.items ≡ l.fn.into.items ++ dated_text l.set (lane_title l.names l.set l.left l.ages) l.i
