use Rattle.txn_threads.specs.Runs.{Cleared}
use Rattle.txn_threads.proofs.Running.{Upto}
use Rattle.txn_threads.proofs.run.clear_members.Given as goal

abbrev pub invariant-loop-i : goal.invariant-loop-i
invariant-loop-i g l = Upto (Cleared g.Y.Body.gives g.Y.Body.stands) l.i l.fn.members.items l.members.items
