use Rattle.std.proofs.Common.{◌≡◌, ◌++◌, drop}
use Rattle.std.specs.Prelude.{is_some}
use Rattle.report_text.specs.Rows.{numbered}
use Rattle.report_export.specs.Texts.{item_lines}
use Rattle.report_export.proofs.summing.add_items.Given as goal

abbrev pub invariant-loop-i : goal.invariant-loop-i
invariant-loop-i l =
    l.into.items ++ numbered (item_lines l.summed.names.now l.summed.set.now (is_some l.summed.bounds) l.rows l.entries) l.i (drop l.i l.summed.set.now.items)
    ≡ l.fn.into.items ++ numbered (item_lines l.summed.names.now l.summed.set.now (is_some l.summed.bounds) l.rows l.entries) 0 l.summed.set.now.items
