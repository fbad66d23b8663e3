use Rattle.std.proofs.Common.{◌≡◌, ◌++◌, drop}
use Rattle.report_text.specs.Rows.{numbered}
use Rattle.report_export.specs.Whole.{ages_json}
use Rattle.report_export.proofs.limits.add_ages.Given as goal

abbrev pub invariant-loop-i : goal.invariant-loop-i
invariant-loop-i l =
    l.into.items ++ numbered (ages_json l.names l.set) l.i (drop l.i l.set.items)
    ≡ l.fn.into.items ++ numbered (ages_json l.names l.set) 0 l.set.items
