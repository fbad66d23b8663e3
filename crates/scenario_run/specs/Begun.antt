-- What the run of a scenario begins with.
use Rattle.std.specs.Prelude.{◌≡◌, ℕ, ◌+◌, ◌<◌, ◌≤◌, Bool, List, [], map, length}
use Rattle.std.specs.List.{sum}
use Rattle.rt_base.specs.declared.name.Names.{Names}
use Rattle.txn_set.specs.Set.{Set}
use Rattle.step_journal.specs.declared.entry.Entry.{Entry}
use Rattle.law_histories.specs.Counting.{room_of_jobs}
use Rattle.law_histories.specs.Sim.{Workload}
use Rattle.sim_run.specs.Workloads.{workload, ticks_of}
use Rattle.step_script.specs.Releases.{eager_of, fixed_ticks}
use Rattle.plant_run.specs.Runs.{eager_jobs_at}
use Rattle.scenario_run.specs.declared.report.Report.{Report}
use Rattle.scenario_run.specs.Opened.{IsOpened}
use Rattle.scenario_run.specs.Eager.{IsRunTextBy}
use Rattle.scenario_run.specs.declared.making.Bodies.{Bodies}
use Rattle.command_replies.specs.declared.accepted.Tasks.{Tasks}
use Rattle.scenario_run.specs.declared.begun.Begun.{Begun}
use Rattle.scenario_run.specs.Runs.{Declares, IsReady, functions_of}

-- the tasks of a scenario of this set
pub record AreTasks (set : Set) (tasks : Tasks) : Type 0 where
  pub declares : Declares set tasks.scripts tasks.releases
  pub room : tasks.room ≡ declares.scenario.room

-- the workload of tasks, and how many jobs each transaction plans itself
abbrev pub workload_by : Set → Tasks → Workload
workload_by set tasks = workload set (functions_of tasks.scripts) (fixed_ticks set.txns tasks.releases)

abbrev pub own_by : Tasks → ℕ → ℕ
own_by tasks = eager_jobs_at (map eager_of tasks.releases)

-- the bodies of tasks, and a report of their set with a place for each job and the room that is wanted for entries
pub record AreBegun (names : Names) (admitted : Bool) (set : Set) (tasks : Tasks) (bodies : Bodies) (report : Report) : Type 0 where
  pub scripts : bodies.scripts.items ≡ tasks.scripts
  pub ticks : bodies.ticks.items ≡ fixed_ticks set.txns tasks.releases
  pub eager_jobs : bodies.eager_jobs.items ≡ map eager_of tasks.releases
  pub ready : IsReady set bodies.scripts.items bodies.ticks.items bodies.eager_jobs.items
  pub opened : IsOpened set report
  pub places : report.writer.room ≡ sum (map length bodies.ticks.items) + sum bodies.eager_jobs.items
  pub entries : report.entries ≡ tasks.room
  pub names_are : report.names.now ≡ names
  pub admitted_is : report.admitted ≡ admitted

-- the same on a new board of the set
pub record HasBegun {B : Type 0} (stands : B → List Entry → Type 0) (set_on : B → Set) (room : B → ℕ) (names : Names) (admitted : Bool) (set : Set) (tasks : Tasks) (begun : Begun B) : Type 0 where
  pub board : stands begun.board []
  pub set_is : set_on begun.board ≡ set
  pub more : 1024 < room begun.board
  pub parts : AreBegun names admitted set tasks begun.bodies begun.report

-- a new board, bodies that can be run on it, and a report of its set with a place for each job and each entry
pub record IsBegun {B : Type 0} (stands : B → List Entry → Type 0) (set_on : B → Set) (room : B → ℕ) (begun : Begun B) : Type 0 where
  pub board : stands begun.board []
  pub more : 1024 < room begun.board
  pub ready : IsReady (set_on begun.board) begun.bodies.scripts.items begun.bodies.ticks.items begun.bodies.eager_jobs.items
  pub opened : IsOpened (set_on begun.board) begun.report
  pub places : begun.report.writer.room ≡ sum (map length begun.bodies.ticks.items) + sum begun.bodies.eager_jobs.items
  pub entries : room_of_jobs (set_on begun.board).txns (λ tx. length (ticks_of begun.bodies.ticks.items tx) + eager_jobs_at begun.bodies.eager_jobs.items tx) ≤ begun.report.entries

-- the text of a run of it
abbrev pub BegunText : {B : Type 0} → (B → Set) → Begun B → List ℕ → Type 0
BegunText set_on begun text =
    IsRunTextBy begun.report.names.now begun.report.admitted (workload (set_on begun.board) (functions_of begun.bodies.scripts.items) begun.bodies.ticks.items) (eager_jobs_at begun.bodies.eager_jobs.items) text
