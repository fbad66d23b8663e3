use Rattle.std.proofs.Common.{◌≡◌, ◌++◌, drop}
use Rattle.report_text.specs.Rows.{numbered}
use Rattle.run_report.specs.Bounds.{ages_line}
use Rattle.run_report.proofs.limits.add_ages.Given as goal

abbrev pub invariant-loop-i : goal.invariant-loop-i
invariant-loop-i l =
    l.into.items ++ numbered (ages_line l.names l.set) l.i (drop l.i l.set.items)
    ≡ l.fn.into.items ++ numbered (ages_line l.names l.set) 0 l.set.items
