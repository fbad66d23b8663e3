use Rattle.std.proofs.Common.{◌≡◌, None}
use Rattle.txn_threads.proofs.Running.{so_far, first_halt_at}
use Rattle.txn_threads.proofs.run.first_halt.Goals as goal

pub returns-in-Some-clause-some : goal.returns-in-Some-clause-some
returns-in-Some-clause-some g c = first_halt_at c.args.workers.now c.loop-i.i c.index-workers-i.result c.in-Some.halt c.loop-i-test.true c.index-workers-i.is c.in-Some.is c.loop-i.invariant

pub loop-i-preserved : goal.loop-i-preserved
loop-i-preserved g c = so_far (λ w. w.halt ≡ None) c.args.workers.now c.loop-i.i c.index-workers-i.result c.loop-i.invariant c.loop-i-test.true c.index-workers-i.is c.in-None.is
