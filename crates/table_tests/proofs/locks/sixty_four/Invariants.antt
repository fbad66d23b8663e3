use Rattle.std.proofs.Common.{◌≡◌, ℕ, ◌+◌, ◌<◌, length, get_or}
use Rattle.table_tests.proofs.locks.sixty_four.Given as goal

abbrev pub invariant-loop-tx : goal.invariant-loop-tx
invariant-loop-tx l = record {
  size : length l.prios.items ≡ l.tx;
  prios : (i : ℕ) → i < l.tx → get_or l.prios.items i 0 ≡ i + 1;
}
