use Rattle.std.proofs.Common.{◌≡◌, drop}
use Rattle.report_export.specs.Tallies.{tallied}
use Rattle.report_export.proofs.tally.tallies.Given as goal

abbrev pub invariant-loop-i : goal.invariant-loop-i
invariant-loop-i l = l.tallies.items ≡ tallied l.txns (drop l.i l.rows)
