use Rattle.std.proofs.Common.{sym, subst}
use Rattle.txn_threads.specs.Rounds.{WorkerSits, WorkerRan}
use Rattle.txn_threads.proofs.Rounding.{at_place}
use Rattle.txn_threads.proofs.Running.{workers_refl, workers_step}
use Rattle.txn_threads.proofs.run.go_on_at.Goals as goal

pub returns-in_default : goal.returns-in_default
returns-in_default g c = record { ran = workers_refl g.Y.Body.gives g.Y.Body.stands c.args.plant.now c.args.workers.now c.requires.sit }

pub returns-then-at-workers : goal.returns-then-at-workers
returns-then-at-workers g c = record { ran = workers_refl g.Y.Body.gives g.Y.Body.stands c.args.plant.now c.args.workers.now c.requires.sit }

pub go_on-requires : goal.go_on-requires
go_on-requires g c =
    let is = c.index-workers-at.is in
    subst (WorkerSits g.Y.Body.gives g.Y.Body.stands c.args.plant.now) is (at_place (WorkerSits g.Y.Body.gives g.Y.Body.stands c.args.plant.now) c.args.workers.now c.in-Some.at c.index-workers-at.result c.requires.sit c.if-at-workers.false is)

pub returns : goal.returns
returns g c =
    let ws = c.args.workers.now in
    let is = c.index-workers-at.is in
    record {
      ran = workers_step g.Y.Body.gives g.Y.Body.stands c.args.plant.now ws ws c.in-Some.at c.index-workers-at.result c.go_on.new.self (workers_refl g.Y.Body.gives g.Y.Body.stands c.args.plant.now ws c.requires.sit) c.if-at-workers.false is
          (subst (λ w. WorkerRan g.Y.Body.gives g.Y.Body.stands c.args.plant.now w c.go_on.new.self) (sym is) c.go_on.ensures);
    }
