use Rattle.std.proofs.Common.{◌≡◌, ◌++◌}
use Rattle.picture_command.specs.Tables.{lines_below, item_line}
use Rattle.picture_command.proofs.items.add_lines.Given as goal

abbrev pub invariant-loop-i : goal.invariant-loop-i
invariant-loop-i l = l.into.items ≡ l.fn.into.items ++ lines_below (item_line l.names l.set l.ages l.items) l.i
