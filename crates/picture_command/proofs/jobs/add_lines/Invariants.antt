use Rattle.std.proofs.Common.{◌≡◌, ◌++◌}
use Rattle.picture_command.specs.Tables.{lines_below, txn_line}
use Rattle.picture_command.proofs.jobs.add_lines.Given as goal

abbrev pub invariant-loop-i : goal.invariant-loop-i
invariant-loop-i l = l.into.items ≡ l.fn.into.items ++ lines_below (txn_line l.names l.set l.responses l.rows) l.i
