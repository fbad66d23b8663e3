use Rattle.std.proofs.Common.{◌≡◌, ◌++◌, length}
use Rattle.journal_text.specs.Next.{IsNext}
use Rattle.report_text.specs.Document.{lines_of, front}
use Rattle.report_text.specs.Forms.{entry_form}
use Rattle.report_text.specs.Placed.{entry_lines}
use Rattle.report_text.proofs.Walking.{Walked}
use Rattle.report_text.proofs.parts.add_entries.Given as goal

abbrev pub invariant-loop-entry : goal.invariant-loop-entry
invariant-loop-entry l =
    (l.entries.items ++ front (entry_form l.second l.names) (lines_of l.rest).0
    ≡ l.fn.entries.items ++ front (entry_form l.second l.names) (lines_of l.text).0)
    × Walked (entry_form l.second l.names) l.first l.text l.n l.rest
    × (entry_lines l.names l.fn.entries.items ++ l.text ≡ entry_lines l.names l.entries.items ++ l.rest)
    × IsNext l.names l.next

abbrev pub decreases-loop-entry : goal.decreases-loop-entry
decreases-loop-entry l = length l.rest
