use Rattle.txn_compiler.specs.Tables.{with_writer}
use Rattle.txn_compiler.proofs.Named.{IsDueAt}
use Rattle.txn_compiler.proofs.writing.note.Given as goal

abbrev pub invariant-loop-item : goal.invariant-loop-item
invariant-loop-item l = IsDueAt (with_writer l.tx) l.writes l.item-index l.initial.table l.table
