use Rattle.std.proofs.Common.{◌≡◌, ◌++◌}
use Rattle.picture_text.specs.Texts.{below, number_of}
use Rattle.picture_text.proofs.frame.add_numbers.Given as goal

abbrev pub invariant-loop-i : goal.invariant-loop-i
invariant-loop-i l = l.into.items ≡ l.fn.into.items ++ below (number_of l.set l.view) l.i
