use Rattle.std.proofs.Common.{◌≡◌, ℕ, ◌≤◌, None, length}
use Rattle.inherit_prio.specs.Waits.{on_of}
use Rattle.table_tests.proofs.waits.bystander.Given as goal

abbrev pub invariant-loop-row : goal.invariant-loop-row
invariant-loop-row g l = record {
  size : length l.waits.prios ≡ 3;
  beyond : (t : ℕ) → 3 ≤ t → on_of l.waits.on t ≡ None;
}
