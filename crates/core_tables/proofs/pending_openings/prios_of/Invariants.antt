use Rattle.std.proofs.Common.{◌≡◌, map, take}
use Rattle.core_tables.proofs.pending_openings.prios_of.Given as goal

abbrev pub invariant-loop-txn : goal.invariant-loop-txn
invariant-loop-txn l = l.prios.items ≡ map (λ t. t.prio) (take l.txn-index l.txns)
