use Rattle.txn_set.proofs.Declared.{reads_in}
use Rattle.set_admission.proofs.refuse.reads_of.Goals as goal

pub returns-clause-in_range : goal.returns-clause-in_range
returns-clause-in_range c = reads_in c.args.set.now c.args.tx.0 _ c.is_compiled.ensures c.requires (rw c.txn.ensures at c.as_slice.ensures)
