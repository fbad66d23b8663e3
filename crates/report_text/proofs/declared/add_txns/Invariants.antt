use Rattle.std.proofs.Common.{◌≡◌, ◌++◌, drop}
use Rattle.report_text.specs.Rows.{numbered}
use Rattle.report_text.specs.Texts.{txn_line}
use Rattle.report_text.proofs.declared.add_txns.Given as goal

abbrev pub invariant-loop-i : goal.invariant-loop-i
invariant-loop-i l =
    l.into.items ++ numbered (txn_line l.second l.names) l.i (drop l.i l.set.txns)
    ≡ l.fn.into.items ++ numbered (txn_line l.second l.names) 0 l.set.txns
