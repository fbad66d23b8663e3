use Rattle.std.proofs.Common.{◌≡◌, length}
use Rattle.table_tests.proofs.locks.runs.Given as goal

abbrev pub invariant-loop-row : goal.invariant-loop-row
invariant-loop-row g l = (length l.held.prios ≡ 3) × (length l.held.ceilings ≡ 4)
