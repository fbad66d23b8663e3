use Rattle.std.proofs.Common.{◌≡◌, map, take}
use Rattle.core_tables.proofs.pending_openings.deadlines_of.Given as goal

abbrev pub invariant-loop-txn : goal.invariant-loop-txn
invariant-loop-txn l = l.deadlines.items ≡ map (λ t. t.deadline) (take l.txn-index l.txns)
