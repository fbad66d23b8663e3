use Rattle.std.proofs.Common.{◌≡◌, ◌++◌, drop}
use Rattle.report_text.specs.Rows.{numbered}
use Rattle.report_text.specs.Texts.{more_name}
use Rattle.report_text.proofs.line_lists.add_others.Given as goal

abbrev pub invariant-loop-i : goal.invariant-loop-i
invariant-loop-i l =
    l.into.items ++ numbered (more_name l.names) l.i (drop l.i l.ids)
    ≡ l.fn.into.items ++ numbered (more_name l.names) 1 (drop 1 l.ids)
