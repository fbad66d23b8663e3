use Rattle.std.proofs.Common.{◌≡◌, ◌++◌, drop}
use Rattle.std.specs.Prelude.{is_some}
use Rattle.report_text.specs.Rows.{numbered}
use Rattle.report_export.specs.Texts.{txn_lines}
use Rattle.report_export.proofs.summing.add_txns.Given as goal

abbrev pub invariant-loop-i : goal.invariant-loop-i
invariant-loop-i l =
    l.into.items ++ numbered (txn_lines l.summed.names.now l.summed.set.now (is_some l.summed.bounds) l.rows) l.i (drop l.i l.summed.set.now.txns)
    ≡ l.fn.into.items ++ numbered (txn_lines l.summed.names.now l.summed.set.now (is_some l.summed.bounds) l.rows) 0 l.summed.set.now.txns
