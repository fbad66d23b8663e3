use Rattle.std.proofs.Common.{◌≡◌, map, take}
use Rattle.core_tables.specs.PendingTables.{opening_job}
use Rattle.core_tables.proofs.pending_openings.works_of.Given as goal

abbrev pub invariant-loop-txn : goal.invariant-loop-txn
invariant-loop-txn l = l.works.items ≡ map opening_job (take l.txn-index l.txns)
