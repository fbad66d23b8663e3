use Rattle.std.proofs.Common.{◌≡◌, drop}
use Rattle.txn_compiler.specs.Refusal.{first_refusal, bad_times_at}
use Rattle.txn_compiler.proofs.judge.bad_times.Given as goal

abbrev pub invariant-loop-tx : goal.invariant-loop-tx
invariant-loop-tx l = first_refusal bad_times_at 0 l.txns ≡ first_refusal bad_times_at l.tx (drop l.tx l.txns)
