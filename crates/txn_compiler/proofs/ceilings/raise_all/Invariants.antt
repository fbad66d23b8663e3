use Rattle.std.proofs.Common.{length}
use Rattle.txn_compiler.proofs.Raising.{IsRaisedTo}
use Rattle.txn_compiler.proofs.ceilings.raise_all.Given as goal

abbrev pub invariant-loop-txn : goal.invariant-loop-txn
invariant-loop-txn l = IsRaisedTo (length l.initial.table) l.txns l.txn-index l.table
