use Rattle.std.proofs.Common.{◌≡◌, ◌++◌, drop}
use Rattle.std.specs.List.{flat_map}
use Rattle.picture_text.specs.Texts.{link_of}
use Rattle.picture_text.proofs.marks.add_links.Given as goal

abbrev pub invariant-loop-mark : goal.invariant-loop-mark
invariant-loop-mark l =
    l.into.items ++ flat_map (link_of l.set l.view) (drop l.mark-index l.marks)
    ≡ l.fn.into.items ++ flat_map (link_of l.set l.view) l.marks
