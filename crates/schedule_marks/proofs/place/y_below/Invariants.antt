use Rattle.std.proofs.Common.{◌≡◌, ◌+◌, ◌*◌, ◌≤◌, drop, length}
use Rattle.schedule_marks.specs.Places.{rows_top, height_above}
use Rattle.schedule_marks.proofs.place.y_below.Given as goal

abbrev pub invariant-loop-txn : goal.invariant-loop-txn
invariant-loop-txn l = record {
  sum : l.y + height_above (drop l.txn-index l.txns) l.prio ≡ rows_top (length l.txns) + height_above l.txns l.prio;
  low : l.y ≤ 1026 + 976 * l.txn-index;
}
