-- The run of a scenario, what holds of it, and the text that it has.
use Rattle.std.specs.Prelude.{◌≡◌, ℕ, ◌<◌, ◌≤◌, Bool, true, false, not, List, [], map, length, None}
use Rattle.std.specs.List.{list_any}
use Rattle.rt_base.specs.declared.ids.JobId.{JobId}
use Rattle.txn_set.specs.Set.{Set}
use Rattle.step_journal.specs.declared.entry.Entry.{Entry}
use Rattle.step_journal.specs.Serial.{IsSerial}
use Rattle.law_histories.specs.Protocol.{DelayedByOne}
use Rattle.law_histories.specs.Counting.{refusal_count, room_of_jobs}
use Rattle.law_histories.specs.Commits.{CommitsAreFresh}
use Rattle.set_admission.specs.Admission.{refusal}
use Rattle.set_admission.specs.Laws.{KeepsBounds}
use Rattle.law_histories.specs.Sim.{Body, Workload, IsSim}
use Rattle.sim_run.specs.Workloads.{workload, ticks_of, AreAccepted, IsObedient}
use Rattle.law_runs.specs.Histories.{IsRunOf}
use Rattle.law_runs.specs.Plannable.{ArePlannable, eager_jobs_of}
use Rattle.plant_run.specs.Runs.{eager_jobs_at}
use Rattle.step_script.specs.declared.script.Script.{Script}
use Rattle.step_script.specs.Scripts.{program_of, next_of}
use Rattle.step_script.specs.declared.releases.Releases.{Releases}
use Rattle.step_script.specs.Scenarios.{IsScenario}
use Rattle.step_script.specs.Releases.{is_eager}
use Rattle.step_script.specs.Shown.{Shown, set_of}
use Rattle.law_runs.specs.Runs.{workload_of}
use Rattle.scenario_writer.specs.Generated.{generated_of}
use Rattle.run_report.specs.Report.{report_of}
use Rattle.run_report.specs.Summary.{summary_of}

-- whether a transaction is eager
abbrev pub has_eager : Shown → Bool
has_eager s = list_any is_eager s.releases

-- What holds of a run: its outcomes and items are those of its ended jobs run alone in order of ending; no job is refused
-- twice; one lower job at most delays a job, and for no more ticks than its blocking; each committed job is fresh and together.
pub record IsGuaranteed (set : Set) (history : List Entry) : Type 0 where
  pub serial : IsSerial set history
  pub refused_once : (job : JobId) → refusal_count history job ≤ 1
  pub delayed_by_one : (job : JobId) → DelayedByOne set history job
  pub commits : CommitsAreFresh set history

-- besides, where the set is admitted, each job ends within its transaction's response, and where the history is steady what is
-- read is within the age bounds
abbrev pub KeepsBoundsUnless : Bool → Set → List Entry → Type 0
KeepsBoundsUnless true set history = Unit {0}
KeepsBoundsUnless false set history = KeepsBounds set history

-- what a run as a trial or admitted knows of its set
abbrev pub IsAdmittedUnless : Bool → Set → Type 0
IsAdmittedUnless true set = Unit {0}
IsAdmittedUnless false set = refusal set ≡ None

-- the set, scripts and releases of a scenario
pub record Declares (set : Set) (scripts : List Script) (releases : List Releases) : Type 0 where
  pub scenario : Shown
  pub is : IsScenario scenario
  pub set_is : set ≡ set_of scenario
  pub programs_are : map program_of scripts ≡ scenario.programs
  pub releases_are : releases ≡ scenario.releases

-- what a script asks for
abbrev pub asked_by : Script → Body
asked_by script = next_of (program_of script)

abbrev pub functions_of : List Script → List Body
functions_of scripts = map asked_by scripts

-- scripts, ticks and own jobs with which a board of this set can be run
pub record IsReady (set : Set) (scripts : List Script) (ticks : List (List ℕ)) (eager_jobs : List ℕ) : Type 0 where
  pub scripts_each : length scripts ≡ length set.txns
  pub eager_jobs_each : length eager_jobs ≡ length set.txns
  pub accepted : AreAccepted set ticks
  pub obedient : IsObedient (workload set (functions_of scripts) ticks)
  pub eager : (tx : ℕ) → 0 < eager_jobs_at eager_jobs tx → ticks_of ticks tx ≡ []
  pub plannable : ArePlannable (workload set (functions_of scripts) ticks) (eager_jobs_at eager_jobs)

-- the summary of the run of a workload
pub record IsSummaryBy (w : Workload) (text : List ℕ) : Type 0 where
  pub history : List Entry
  pub sim : IsSim w history
  pub few : length history ≤ room_of_jobs w.set.txns (λ tx. length (ticks_of w.releases tx))
  pub written : text ≡ summary_of w.set history

-- The text of the run of a scenario, as a trial or admitted: the report of a whole run of its workload, which is the one
-- run where no transaction is eager, and has fewer entries than the scenario's room.
pub record IsRunText (trial : Bool) (s : Shown) (text : List ℕ) : Type 0 where
  pub history : List Entry
  pub run : IsRunOf (workload_of s) (eager_jobs_of s) history
  pub determined : has_eager s ≡ false → IsSim (workload_of s) history
  pub guaranteed : IsGuaranteed (set_of s) history
  pub bounded : KeepsBoundsUnless trial (set_of s) history
  pub few : length history < s.room
  pub written : text ≡ report_of s.names (set_of s) (not trial) history

-- The text of the run of a generated scenario: the summary of the one history of its workload, which has fewer entries
-- than the scenario's room.
pub record IsLoadText (n : ℕ) (text : List ℕ) : Type 0 where
  pub history : List Entry
  pub sim : IsSim (workload_of (generated_of n)) history
  pub few : length history < (generated_of n).room
  pub written : text ≡ summary_of (set_of (generated_of n)) history
