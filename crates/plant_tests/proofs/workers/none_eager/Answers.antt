use Rattle.std.proofs.Common.{[], ◌∷◌, refl}
use Rattle.sim_run.specs.Workloads.{workload}
use Rattle.sim_run.specs.Steady.{steady_txns, steady_set}
use Rattle.sim_run.proofs.Steady.{of_steady}
use Rattle.plant_run.specs.Runs.{eager_jobs_at}
use Rattle.plant_run.proofs.Fixed.{fixed_plannable}
use Rattle.plant_run.proofs.NoTxns.{none_of_two}
use Rattle.plant_tests.proofs.workers.none_eager.Goals as goal

pub by_workers-requires-clause-plannable : goal.by_workers-requires-clause-plannable
by_workers-requires-clause-plannable g c κs within =
    fixed_plannable (workload steady_set [] c.args.releases.now) (eager_jobs_at (0 ∷ 0 ∷ [])) (of_steady [] steady_txns [] refl refl refl) c.requires.accepted none_of_two
