use Rattle.std.proofs.Common.{◌≡◌, max, map, drop}
use Rattle.txn_set.specs.Ceilings.{greatest}
use Rattle.schedule_marks.specs.Marks.{ceiling_by}
use Rattle.schedule_marks.proofs.held.ceiling_in_tick.Given as goal

abbrev pub invariant-loop-lock : goal.invariant-loop-lock
invariant-loop-lock l = max l.greatest (greatest (map (ceiling_by l.tick) (drop l.lock-index l.locks))) ≡ greatest (map (ceiling_by l.tick) l.locks)
