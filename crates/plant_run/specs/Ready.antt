-- What a run has before it begins, and once its releases are planned.
use Rattle.std.specs.Prelude.{◌≡◌, ℕ, ◌<◌, ◌≤◌, ◌^◌, List, [], map, length, All, vec_capacity}
use Rattle.txn_set.specs.Set.{Set}
use Rattle.step_journal.specs.declared.entry.Entry.{Entry}
use Rattle.law_histories.specs.Sim.{Body, Workload, plans_from}
use Rattle.sim_run.specs.Workloads.{workload, ticks_of, AreAccepted, IsObedient}
use Rattle.law_runs.specs.Plannable.{ArePlannable}
use Rattle.plant_run.specs.Runs.{eager_jobs_at}
use Rattle.plant_run.specs.declared.run.Run.{Run}

-- the workload of a run
abbrev pub workload_in : {B Y : Type 0} → (B → Set) → (Y → Body) → Run B Y → Workload
workload_in set gives run = workload (set run.board) (map gives run.bodies.items) run.ticks.now

-- how many jobs each transaction of a run plans itself
abbrev pub eager_jobs_in : {B Y : Type 0} → Run B Y → ℕ → ℕ
eager_jobs_in run = eager_jobs_at run.eager_jobs.now

-- A new board with room for more than a piece, and a place for all that it keeps; and for each transaction of its set a body
-- that obeys, accepted releases, and how many jobs it plans itself, which is none where it has releases.
pub record CanRun {B Y : Type 0} (stands : B → List Entry → Type 0) (set : B → Set) (room : B → ℕ) (gives : Y → Body) (run : Run B Y) : Type 0 where
  pub opened : stands run.board []
  pub bodies_each : length run.bodies.items ≡ length (set run.board).txns
  pub eager_jobs_each : length run.eager_jobs.now ≡ length (set run.board).txns
  pub accepted : AreAccepted (set run.board) run.ticks.now
  pub obedient : IsObedient (workload_in set gives run)
  pub eager : (tx : ℕ) → 0 < eager_jobs_in run tx → ticks_of run.ticks.now tx ≡ []
  pub plannable : ArePlannable (workload_in set gives run) (eager_jobs_in run)
  pub more : 1024 < room run.board
  pub empty : run.spare.items ≡ []
  pub enough : room run.board ≤ vec_capacity run.spare

-- the same of a board on which all releases were planned
pub record IsPlanned {B Y : Type 0} (stands : B → List Entry → Type 0) (set : B → Set) (gives : Y → Body) (run : Run B Y) : Type 0 where
  pub stood : stands run.board (plans_from 0 run.ticks.now)
  pub bodies_each : length run.bodies.items ≡ length run.ticks.now
  pub eager_jobs_each : length run.eager_jobs.now ≡ length run.ticks.now
  pub each : length run.ticks.now ≡ length (set run.board).txns
  pub few : All (λ ticks. length ticks < 2 ^ 32) run.ticks.now
  pub obedient : IsObedient (workload_in set gives run)
  pub eager : (tx : ℕ) → 0 < eager_jobs_in run tx → ticks_of run.ticks.now tx ≡ []
  pub plannable : ArePlannable (workload_in set gives run) (eager_jobs_in run)
  pub empty : run.spare.items ≡ []
