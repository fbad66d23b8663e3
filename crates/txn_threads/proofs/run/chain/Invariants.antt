use Rattle.txn_threads.specs.Rounds.{Each, WorkerRan}
use Rattle.txn_threads.proofs.run.chain.Given as goal

abbrev pub invariant-loop : goal.invariant-loop
invariant-loop g l = Each (WorkerRan g.Y.Body.gives g.Y.Body.stands l.fn.plant) l.fn.workers l.workers
