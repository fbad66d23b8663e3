use Rattle.std.proofs.Common.{take}
use Rattle.std.specs.List.{count_by}
use Rattle.run_report.specs.Counts.{row_is, AreEnds}
use Rattle.run_report.proofs.counts.count_ends.Given as goal

abbrev pub invariant-loop-i : goal.invariant-loop-i
invariant-loop-i l = AreEnds l.ends (λ test. count_by (row_is test) (take l.i l.rows))
