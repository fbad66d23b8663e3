use Rattle.std.proofs.Common.{◌≡◌, ◌++◌, drop}
use Rattle.report_text.specs.Rows.{numbered}
use Rattle.refusal_lines.specs.Lines.{rate_line}
use Rattle.refusal_lines.proofs.rates.rates_text.Given as goal

abbrev pub invariant-loop-i : goal.invariant-loop-i
invariant-loop-i l = l.text.items ++ numbered (rate_line l.names) l.i (drop l.i l.set.txns) ≡ numbered (rate_line l.names) 0 l.set.txns
