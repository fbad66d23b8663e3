use Rattle.std.proofs.Common.{◌≡◌, ◌++◌, drop}
use Rattle.report_text.specs.Rows.{numbered}
use Rattle.report_text.specs.Texts.{ceilings_line}
use Rattle.report_text.proofs.limits.add_ceilings.Given as goal

abbrev pub invariant-loop-i : goal.invariant-loop-i
invariant-loop-i l =
    l.into.items ++ numbered (ceilings_line l.names l.set) l.i (drop l.i l.set.items)
    ≡ l.fn.into.items ++ numbered (ceilings_line l.names l.set) 0 l.set.items
