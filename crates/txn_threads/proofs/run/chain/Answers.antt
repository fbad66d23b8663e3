use Rattle.txn_threads.proofs.Running.{workers_refl, workers_trans, workers_sit}
use Rattle.txn_threads.proofs.run.chain.Goals as goal

pub loop-init : goal.loop-init
loop-init g c = workers_refl g.Y.Body.gives g.Y.Body.stands c.args.plant.now c.args.workers.now c.requires.sit

pub go_on_at-requires : goal.go_on_at-requires
go_on_at-requires g c = record { sit = workers_sit g.Y.Body.gives g.Y.Body.stands c.args.plant.now c.args.workers.now c.loop.workers c.loop.invariant }

pub returns-in-Full : goal.returns-in-Full
returns-in-Full g c = record { ran = workers_trans g.Y.Body.gives g.Y.Body.stands c.args.plant.now c.args.workers.now c.loop.workers c.go_on_at.new.workers c.loop.invariant c.go_on_at.ensures.ran }

pub returns-in-NoJob : goal.returns-in-NoJob
returns-in-NoJob g c = record { ran = workers_trans g.Y.Body.gives g.Y.Body.stands c.args.plant.now c.args.workers.now c.loop.workers c.go_on_at.new.workers c.loop.invariant c.go_on_at.ensures.ran }

pub loop-preserved : goal.loop-preserved
loop-preserved g c = workers_trans g.Y.Body.gives g.Y.Body.stands c.args.plant.now c.args.workers.now c.loop.workers c.go_on_at.new.workers c.loop.invariant c.go_on_at.ensures.ran
