use Rattle.std.proofs.Common.{◌≡◌, length}
use Rattle.report_text.specs.Pieces.{all_pieces}
use Rattle.report_text.specs.Head.{rising, list_of}
use Rattle.report_text.proofs.lists.list.Given as goal

abbrev pub invariant-loop-name : goal.invariant-loop-name
invariant-loop-name l = rising l.items l.least l.ids.items (all_pieces 44 l.rest) ≡ list_of l.items l.fn.word

abbrev pub decreases-loop-name : goal.decreases-loop-name
decreases-loop-name l = length l.rest
