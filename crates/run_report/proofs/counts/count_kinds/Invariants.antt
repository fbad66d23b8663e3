use Rattle.std.proofs.Common.{take}
use Rattle.std.specs.List.{count_by}
use Rattle.run_report.specs.Counts.{AreKinds}
use Rattle.run_report.proofs.counts.count_kinds.Given as goal

abbrev pub invariant-loop-i : goal.invariant-loop-i
invariant-loop-i l = AreKinds l.kinds (λ test. count_by test (take l.i l.entries))
