use Rattle.std.proofs.Common.{◌≡◌, ◌++◌}
use Rattle.picture_text.specs.Texts.{below, title_of}
use Rattle.picture_text.proofs.titles.add_row_titles.Given as goal

abbrev pub invariant-loop-i : goal.invariant-loop-i
invariant-loop-i l = l.into.items ≡ l.fn.into.items ++ below (title_of l.names l.set l.left) l.i
