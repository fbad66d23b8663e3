use Rattle.std.proofs.Common.{◌<◌, length, sym, subst, arith}
use Rattle.txn_threads.specs.Runs.{WorkerCleared}
use Rattle.txn_threads.proofs.Running.{upto_step, upto_none, upto_all}
use Rattle.txn_threads.proofs.run.clear_all.Goals as goal

pub loop-i-init : goal.loop-i-init
loop-i-init g c = upto_none (WorkerCleared g.Y.Body.gives g.Y.Body.stands) c.args.workers.now

pub loop-i-preserved : goal.loop-i-preserved
loop-i-preserved g c =
    let same = c.loop-i.auto.workers in let low = c.loop-i-test.true in
    let less : c.loop-i.i < length c.loop-i.workers = omega (arith, same, low) in
    upto_step (WorkerCleared g.Y.Body.gives g.Y.Body.stands) c.args.workers.now c.loop-i.workers c.loop-i.i c.index-workers-i.result c.clear_worker.new.worker c.loop-i.invariant less c.index-workers-i.is
    (subst (λ w. WorkerCleared g.Y.Body.gives g.Y.Body.stands w c.clear_worker.new.worker) (sym c.index-workers-i.is) c.clear_worker.ensures)

pub returns : goal.returns
returns g c = upto_all (WorkerCleared g.Y.Body.gives g.Y.Body.stands) c.args.workers.now c.loop-i.workers c.loop-i.i c.loop-i.invariant c.loop-i-test.false
