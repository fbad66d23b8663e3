use Rattle.std.proofs.Common.{◌≡◌, ◌++◌, drop}
use Rattle.report_text.specs.Rows.{numbered}
use Rattle.report_text.specs.Texts.{final_line}
use Rattle.report_text.proofs.closing.add_finals.Given as goal

abbrev pub invariant-loop-i : goal.invariant-loop-i
invariant-loop-i l =
    l.into.items ++ numbered (final_line l.names) l.i (drop l.i l.items)
    ≡ l.fn.into.items ++ numbered (final_line l.names) 0 l.items
