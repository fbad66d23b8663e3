use Rattle.std.proofs.Common.{◌≡◌, map, take}
use Rattle.core_tables.proofs.openings.periods_of.Given as goal

abbrev pub invariant-loop-txn : goal.invariant-loop-txn
invariant-loop-txn l = l.periods.items ≡ map (λ t. t.period) (take l.txn-index l.txns)
