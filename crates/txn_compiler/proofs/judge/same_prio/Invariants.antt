use Rattle.std.proofs.Common.{◌≡◌, drop}
use Rattle.txn_compiler.specs.Refusal.{first_refusal, same_prio_at}
use Rattle.txn_compiler.proofs.judge.same_prio.Given as goal

abbrev pub invariant-loop-tx : goal.invariant-loop-tx
invariant-loop-tx l = first_refusal (same_prio_at l.txns) 0 l.txns ≡ first_refusal (same_prio_at l.txns) l.tx (drop l.tx l.txns)
