use Rattle.std.proofs.Common.{◌≡◌, ◌≤◌, ◌+◌, length}
use Rattle.run_report.proofs.Comparing.{from_line}
use Rattle.run_report.proofs.compared.compared.Given as goal

abbrev pub invariant-loop-line : goal.invariant-loop-line
invariant-loop-line l =
    (from_line l.names l.n l.left l.right ≡ from_line l.names 1 l.fn.document l.fn.report)
    × (l.n + length l.left ≤ 1 + length l.fn.document)

abbrev pub decreases-loop-line : goal.decreases-loop-line
decreases-loop-line l = length l.left
