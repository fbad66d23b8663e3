use Rattle.std.proofs.Common.{length}
use Rattle.txn_compiler.proofs.Noting.{IsNotedTo}
use Rattle.txn_compiler.proofs.writing.note_all.Given as goal

abbrev pub invariant-loop-tx : goal.invariant-loop-tx
invariant-loop-tx l = IsNotedTo (length l.initial.table) l.txns l.tx l.table
