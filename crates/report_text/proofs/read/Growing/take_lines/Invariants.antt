use Rattle.std.proofs.Common.{◌≡◌, ◌≤◌, ◌+◌, length}
use Rattle.report_text.specs.Head.{nothing}
use Rattle.report_text.proofs.HeadLaws.{rest_of}
use Rattle.report_text.proofs.read.Growing.take_lines.Given as goal

abbrev pub invariant-loop-line : goal.invariant-loop-line
invariant-loop-line l =
    (rest_of l.two l.self l.n l.rest ≡ rest_of l.two nothing 2 l.bytes) × (l.n + length l.rest ≤ length l.bytes + 2)
    × (length l.self.names + 2 ≤ l.n) × (length l.self.txn_names + 2 ≤ l.n)

abbrev pub decreases-loop-line : goal.decreases-loop-line
decreases-loop-line l = length l.rest
