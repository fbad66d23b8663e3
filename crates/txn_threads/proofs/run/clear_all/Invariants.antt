use Rattle.txn_threads.specs.Runs.{WorkerCleared}
use Rattle.txn_threads.proofs.Running.{Upto}
use Rattle.txn_threads.proofs.run.clear_all.Given as goal

abbrev pub invariant-loop-i : goal.invariant-loop-i
invariant-loop-i g l = Upto (WorkerCleared g.Y.Body.gives g.Y.Body.stands) l.i l.fn.workers l.workers
