use Rattle.std.proofs.Common.{◌≡◌}
use Rattle.table_tests.proofs.locks.ranks.Given as goal

abbrev pub ghosts-asked : goal.ghosts-asked
ghosts-asked g a = record { name = a.blank.name; parts = a.blank.parts }

abbrev pub invariant-loop-tx : goal.invariant-loop-tx
invariant-loop-tx g l = record {
  prios : l.held.prios ≡ l.initial.held.prios;
  ceilings : l.held.ceilings ≡ l.initial.held.ceilings;
}
