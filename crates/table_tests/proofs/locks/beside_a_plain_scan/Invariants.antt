use Rattle.std.proofs.Common.{◌≡◌, length}
use Rattle.table_tests.proofs.locks.beside_a_plain_scan.Given as goal

abbrev pub invariant-loop-call : goal.invariant-loop-call
invariant-loop-call g l = (length l.held.prios ≡ 3) × (length l.held.ceilings ≡ 4)
