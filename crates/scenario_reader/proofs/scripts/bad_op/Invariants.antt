use Rattle.scenario_reader.proofs.Turning.{IsWalking}
use Rattle.scenario_reader.proofs.scripts.bad_op.Given as goal

abbrev pub invariant-loop-place : goal.invariant-loop-place
invariant-loop-place l = IsWalking l.items l.txn l.ops l.place l.walk
