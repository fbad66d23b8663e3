use Rattle.std.proofs.Common.{◌≡◌}
use Rattle.table_tests.proofs.commits.first_unlike.Given as goal

abbrev pub invariant-loop-call : goal.invariant-loop-call
invariant-loop-call l = (l.work.may_read ≡ l.fn.work.may_read) × (l.work.may_write ≡ l.fn.work.may_write)
