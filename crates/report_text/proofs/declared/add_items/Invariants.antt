use Rattle.std.proofs.Common.{◌≡◌, ◌++◌, drop}
use Rattle.report_text.specs.Rows.{numbered}
use Rattle.report_text.specs.Texts.{item_line}
use Rattle.report_text.proofs.declared.add_items.Given as goal

abbrev pub invariant-loop-i : goal.invariant-loop-i
invariant-loop-i l =
    l.into.items ++ numbered (item_line l.names) l.i (drop l.i l.set.items)
    ≡ l.fn.into.items ++ numbered (item_line l.names) 0 l.set.items
