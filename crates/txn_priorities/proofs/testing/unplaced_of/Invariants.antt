use Rattle.std.proofs.Common.{◌≡◌, ◌++◌}
use Rattle.txn_priorities.specs.Answers.{unplaced}
use Rattle.txn_priorities.proofs.Tested.{left_from}
use Rattle.txn_priorities.proofs.testing.unplaced_of.Given as goal

abbrev pub invariant-loop-tx : goal.invariant-loop-tx
invariant-loop-tx l = l.rows.items ++ left_from l.set l.prios l.tx ≡ unplaced l.set l.prios
