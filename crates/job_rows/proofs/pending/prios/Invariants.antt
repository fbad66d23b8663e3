use Rattle.std.proofs.Common.{◌≡◌, map, take}
use Rattle.job_rows.proofs.pending.prios.Given as goal

abbrev pub invariant-loop-txn : goal.invariant-loop-txn
invariant-loop-txn l = l.prios.items ≡ map (λ t. t.prio) (take l.txn-index l.txns)
