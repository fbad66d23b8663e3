use Rattle.std.proofs.Common.{◌≡◌, max, map, drop}
use Rattle.txn_set.specs.Ceilings.{greatest}
use Rattle.schedule_marks.specs.Marks.{instant_to}
use Rattle.schedule_marks.proofs.whole.last_instant.Given as goal

abbrev pub invariant-loop-entry : goal.invariant-loop-entry
invariant-loop-entry l = max l.last (greatest (map (instant_to l.to) (drop l.entry-index l.entries))) ≡ greatest (map (instant_to l.to) l.entries)
