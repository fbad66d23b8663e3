use Rattle.std.proofs.Common.{◌≡◌, ℕ, ◌≤◌, None, length}
use Rattle.inherit_prio.specs.Waits.{on_of}
use Rattle.table_tests.proofs.waits.beside_a_plain_scan.Given as goal

abbrev pub ghosts-asked : goal.ghosts-asked
ghosts-asked g a = record { name = a.blank.name; parts = a.blank.parts }

abbrev pub invariant-loop-call : goal.invariant-loop-call
invariant-loop-call g l = record {
  size : length l.waits.prios ≡ 5;
  beyond : (t : ℕ) → 5 ≤ t → on_of l.waits.on t ≡ None;
}
