use Rattle.txn_compiler.specs.Tables.{raise_write}
use Rattle.txn_compiler.proofs.Named.{IsDueAt}
use Rattle.txn_compiler.proofs.ceilings.raise_write.Given as goal

abbrev pub invariant-loop-item : goal.invariant-loop-item
invariant-loop-item l = IsDueAt (raise_write l.prio) l.items l.item-index l.initial.table l.table
