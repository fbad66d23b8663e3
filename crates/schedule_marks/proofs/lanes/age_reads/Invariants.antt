use Rattle.std.proofs.Common.{◌≡◌}
use Rattle.std.specs.List.{filter_map}
use Rattle.schedule_marks.specs.Lanes.{dated_below, read_in_part}
use Rattle.schedule_marks.proofs.lanes.age_reads.Given as goal

abbrev pub invariant-loop-i : goal.invariant-loop-i
invariant-loop-i l = l.into.items ≡ dated_below l.set (λ item. filter_map (read_in_part l.part l.entries item) l.rows) l.i
