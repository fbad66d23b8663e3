use Rattle.std.proofs.Common.{◌≡◌}
use Rattle.table_tests.proofs.commits.noted.Given as goal

abbrev pub invariant-loop-value : goal.invariant-loop-value
invariant-loop-value l = (l.work.may_read ≡ l.fn.work.may_read) × (l.work.may_write ≡ l.fn.work.may_write)
