use Rattle.std.proofs.Common.{◌≡◌, ◌≤◌, drop, length}
use Rattle.report_text.specs.Document.{lines_of}
use Rattle.report_text.specs.Placed.{EndsWith}
use Rattle.report_text.proofs.document.after_lines.Given as goal

abbrev pub invariant-loop-i : goal.invariant-loop-i
invariant-loop-i l =
    ((lines_of l.rest).0 ≡ drop l.i (lines_of l.bytes).0) × ((lines_of l.rest).1 ≡ (lines_of l.bytes).1)
    × (length l.rest ≤ length l.bytes) × EndsWith l.bytes l.rest
