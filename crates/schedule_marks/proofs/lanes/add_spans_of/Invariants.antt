use Rattle.std.proofs.Common.{◌≡◌, ◌++◌, None, drop}
use Rattle.schedule_marks.specs.Lanes.{spans_from}
use Rattle.schedule_marks.proofs.lanes.add_spans_of.Given as goal

abbrev pub invariant-loop-row : goal.invariant-loop-row
invariant-loop-row l =
    l.into.items ++ spans_from l.set l.window.part l.window.stop l.entries l.item.0 l.by (drop l.row-index l.rows)
    ≡ l.fn.into.items ++ spans_from l.set l.window.part l.window.stop l.entries l.item.0 None l.rows
