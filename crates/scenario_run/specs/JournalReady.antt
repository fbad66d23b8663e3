-- What a run has before it begins.
use Rattle.std.specs.Prelude.{◌≡◌, ◌<◌, ℕ, List, [], map, length}
use Rattle.txn_set.specs.Set.{Set}
use Rattle.step_journal.specs.declared.entry.Entry.{Entry}
use Rattle.law_histories.specs.Sim.{Body, Workload}
use Rattle.sim_run.specs.Workloads.{workload, AreAccepted, IsObedient}
use Rattle.scenario_run.specs.declared.runner.Runner.{Runner}

-- the workload of a run
abbrev pub workload_in : {B Y : Type 0} → (B → Set) → (Y → Body) → Runner B Y → Workload
workload_in set gives r = workload (set r.board) (map gives r.bodies.items) r.ticks.items

-- A new board, with a body and a serial number for each transaction of its set.
pub record CanRun {B Y : Type 0} (stands : B → List Entry → Type 0) (set : B → Set) (room : B → ℕ) (gives : Y → Body) (r : Runner B Y) : Type 0 where
  pub opened : stands r.board []
  pub bodies_each : length r.bodies.items ≡ length (set r.board).txns
  pub serials_each : length r.serials.items ≡ length (set r.board).txns
  pub accepted : AreAccepted (set r.board) r.ticks.items
  pub obedient : IsObedient (workload_in set gives r)
  pub more : 1024 < room r.board
