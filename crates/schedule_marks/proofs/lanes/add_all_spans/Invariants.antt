use Rattle.std.proofs.Common.{◌≡◌, ◌++◌, None}
use Rattle.schedule_marks.specs.Lanes.{dated_below, spans_from}
use Rattle.schedule_marks.proofs.lanes.add_all_spans.Given as goal

abbrev pub invariant-loop-i : goal.invariant-loop-i
invariant-loop-i l =
    l.into.items ≡ l.fn.into.items ++ dated_below l.set (λ item. spans_from l.set l.window.part l.window.stop l.entries item None l.rows) l.i
