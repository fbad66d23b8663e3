use Rattle.std.proofs.Common.{◌≡◌, map, take, None}
use Rattle.core_tables.proofs.pending_openings.no_heads.Given as goal

abbrev pub invariant-loop-txn : goal.invariant-loop-txn
invariant-loop-txn l = l.heads.items ≡ map (λ t. None) (take l.txn-index l.txns)
