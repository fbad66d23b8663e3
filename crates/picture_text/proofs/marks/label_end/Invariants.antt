use Rattle.std.proofs.Common.{◌≡◌, drop}
use Rattle.picture_text.specs.Texts.{label_end}
use Rattle.picture_text.proofs.marks.label_end.Given as goal

abbrev pub invariant-loop-mark : goal.invariant-loop-mark
invariant-loop-mark l = label_end l.tx.0 l.from l.end (drop l.mark-index l.marks) ≡ label_end l.tx.0 l.from l.to l.marks
