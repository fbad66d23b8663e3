-- What is made of a scenario before its run over a journal.
use Rattle.std.specs.Prelude.{◌≡◌, ◌≤◌, [], map, None, vec_capacity}
use Rattle.txn_compiler.specs.Refusal.{compile_refusal}
use Rattle.set_admission.specs.Admission.{refusal}
use Rattle.law_histories.specs.Sim.{Workload}
use Rattle.step_script.specs.Shown.{Shown, set_of}
use Rattle.step_script.specs.Scenarios.{IsScenario}
use Rattle.law_runs.specs.Runs.{workload_of}
use Rattle.scenario_run.specs.Runs.{IsReady}
use Rattle.step_script.specs.Scripts.{program_of, next_of}
use Rattle.sim_run.specs.Workloads.{workload}
use Rattle.scenario_run.specs.JournalReplies.{first_eager}
use Rattle.scenario_run.specs.declared.plan.Plan.{Plan}
use Rattle.scenario_run.specs.declared.equip.Begun.{Begun}

-- a scenario that may be run over a journal
pub record AdmittedWithoutEager (s : Shown) : Type 0 where
  pub is : IsScenario s
  pub compiles : compile_refusal (set_of s) ≡ None
  pub admits : refusal (set_of s) ≡ None
  pub none_eager : first_eager s ≡ None

-- the names, the set, the scripts and the ticks are the scenario's
pub record IsPlan (s : Shown) (p : Plan) : Type 0 where
  pub admitted_without_eager : AdmittedWithoutEager s
  pub names_are : p.names ≡ s.names
  pub set_is : p.set ≡ set_of s
  pub room_is : p.room ≡ s.room
  pub ready : IsReady p.set p.bodies.scripts.items p.bodies.ticks.items p.bodies.eager_jobs.items
  pub runs : workload p.set (map next_of (map program_of p.bodies.scripts.items)) p.bodies.ticks.items ≡ workload_of s

-- What the run of a scenario has beside its board and bodies: its names, its set, and a place for its entries. The workload is
-- the scenario's.
pub record HasBegun (s : Shown) (w : Workload) (b : Begun) : Type 0 where
  pub admitted_without_eager : AdmittedWithoutEager s
  pub runs : w ≡ workload_of s
  pub names_are : b.names ≡ s.names
  pub set_is : b.set ≡ set_of s
  pub room_is : b.room ≡ s.room
  pub empty : b.kept.items ≡ []
  pub enough : b.room ≤ vec_capacity b.kept
