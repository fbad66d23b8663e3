use Rattle.std.proofs.Common.{◌≡◌, ◌≤◌}
use Rattle.schedule_marks.specs.Places.{lanes_below}
use Rattle.schedule_marks.proofs.ages.lanes_below.Given as goal

abbrev pub invariant-loop-i : goal.invariant-loop-i
invariant-loop-i l = record {
  count : l.lanes ≡ lanes_below l.set l.i;
  few : l.lanes ≤ l.i;
}
