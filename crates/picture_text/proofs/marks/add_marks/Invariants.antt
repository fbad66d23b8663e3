use Rattle.std.proofs.Common.{◌≡◌, ◌++◌, drop}
use Rattle.std.specs.List.{flat_map}
use Rattle.picture_text.specs.Texts.{mark_text}
use Rattle.picture_text.proofs.marks.add_marks.Given as goal

abbrev pub invariant-loop-mark : goal.invariant-loop-mark
invariant-loop-mark l =
    l.into.items ++ flat_map (mark_text l.names l.set l.view l.marks) (drop l.mark-index l.marks)
    ≡ l.fn.into.items ++ flat_map (mark_text l.names l.set l.view l.marks) l.marks
