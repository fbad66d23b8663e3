use Rattle.std.proofs.Common.{◌≢◌, ℕ, ◌<◌, Some}
use Rattle.inherit_prio.specs.Waits.{on_of}
use Rattle.table_tests.proofs.waits.may_block.Given as goal

abbrev pub invariant-loop-t : goal.invariant-loop-t
invariant-loop-t g l = (k : ℕ) → k < l.t → on_of l.waits.on k ≢ Some l.tx
