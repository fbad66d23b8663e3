-- What has begun for a scenario can be run, and the text of its run is the scenario's.
use Rattle.std.proofs.Common.{◌≡◌, ℕ, ◌+◌, ◌≤◌, Bool, not, List, sym, ap, subst, ◌∙◌, length}
use Rattle.rt_base.specs.declared.name.Names.{Names}
use Rattle.txn_set.specs.Set.{Set}
use Rattle.step_journal.specs.declared.entry.Entry.{Entry}
use Rattle.step_script.specs.declared.script.Script.{Script}
use Rattle.law_histories.specs.Counting.{room_of_jobs}
use Rattle.law_histories.specs.Sim.{Workload}
use Rattle.sim_run.specs.Workloads.{workload, ticks_of}
use Rattle.plant_run.specs.Runs.{eager_jobs_at}
use Rattle.law_runs.specs.Plannable.{eager_jobs_of}
use Rattle.step_script.specs.Shown.{Shown}
use Rattle.step_script.specs.Scenarios.{IsScenario}
use Rattle.law_runs.specs.Runs.{workload_of}
use Rattle.scenario_run.specs.Opened.{IsOpened}
use Rattle.scenario_run.specs.Eager.{IsRunTextBy}
use Rattle.run_report.specs.declared.judged.ReportedSet.{ReportedSet}
use Rattle.run_report.specs.Judged.{set_in, is_admitted}
use Rattle.command_replies.specs.declared.accepted.Tasks.{Tasks}
use Rattle.command_replies.specs.declared.accepted.Accepted.{Accepted}
use Rattle.command_replies.specs.Accepted.{IsOf}
use Rattle.scenario_run.specs.declared.begun.Begun.{Begun}
use Rattle.scenario_run.specs.Runs.{Declares, IsReady, functions_of}
use Rattle.scenario_run.specs.Begun.{AreTasks, HasBegun, IsBegun, BegunText}
use Rattle.scenario_run.specs.Replies.{IsJudged, RunText}
use Rattle.scenario_run.proofs.Replying.{run_reply}
use Rattle.scenario_run.proofs.Ready.{moved, room_is, text_of, text_as}

module _ {B : Type 0} (stands : B → List Entry → Type 0) (set_on : B → Set) (room : B → ℕ) (names : Names) (admitted : Bool) (set : Set) (tasks : Tasks) (begun : Begun B)
    (d : Declares set tasks.scripts tasks.releases) (h : HasBegun stands set_on room names admitted set tasks begun) where
  -- it can be run
  pub can_run : tasks.room ≡ d.scenario.room → IsBegun stands set_on room begun
  can_run same =
      let parts = h.parts in
      let bodies = begun.bodies in
      let low = room_is set tasks.scripts tasks.releases d bodies.scripts.items bodies.ticks.items bodies.eager_jobs.items parts.scripts parts.ticks parts.eager_jobs in
      let enough : room_of_jobs set.txns (λ tx. length (ticks_of bodies.ticks.items tx) + eager_jobs_at bodies.eager_jobs.items tx) ≤ begun.report.entries =
      subst (λ (n : ℕ). room_of_jobs set.txns (λ tx. length (ticks_of bodies.ticks.items tx) + eager_jobs_at bodies.eager_jobs.items tx) ≤ n) (sym same ∙ sym parts.entries) low in
      record {
        board = h.board;
        more = h.more;
        ready = subst (λ (q : Set). IsReady q bodies.scripts.items bodies.ticks.items bodies.eager_jobs.items) (sym h.set_is) parts.ready;
        opened = subst (λ (q : Set). IsOpened q begun.report) (sym h.set_is) parts.opened;
        places = parts.places;
        entries = subst (λ (q : Set). room_of_jobs q.txns (λ tx. length (ticks_of bodies.ticks.items tx) + eager_jobs_at bodies.eager_jobs.items tx) ≤ begun.report.entries) (sym h.set_is) enough;
      }

  -- the text of its run
  pub text_is : (text : List ℕ) → BegunText set_on begun text → IsRunTextBy names admitted (workload_of d.scenario) (eager_jobs_of d.scenario) text
  text_is text t =
      let parts = h.parts in
      let bodies = begun.bodies in
      let w : Set → Workload = λ q. workload q (functions_of bodies.scripts.items) bodies.ticks.items in
      let on = subst (λ (q : Set). IsRunTextBy begun.report.names.now begun.report.admitted (w q) (eager_jobs_at bodies.eager_jobs.items) text) h.set_is t in
      text_of names admitted set tasks.scripts tasks.releases d bodies.scripts.items bodies.ticks.items bodies.eager_jobs.items text parts.scripts parts.ticks parts.eager_jobs
      (text_as begun.report.names.now names begun.report.admitted admitted (w set) (eager_jobs_at bodies.eager_jobs.items) text parts.names_are parts.admitted_is on)

-- the run of a board, scripts, ticks and own jobs that are those of what has begun
pub run_of : {B : Type 0} (set_on : B → Set) (begun : Begun B) (board : B) (scripts : List Script) (ticks : List (List ℕ)) (eager_jobs : List ℕ)
    → board ≡ begun.board → scripts ≡ begun.bodies.scripts.items → ticks ≡ begun.bodies.ticks.items → eager_jobs ≡ begun.bodies.eager_jobs.items
    → (text : List ℕ) → IsRunTextBy begun.report.names.now begun.report.admitted (workload (set_on board) (functions_of scripts) ticks) (eager_jobs_at eager_jobs) text → BegunText set_on begun text
run_of set_on begun board scripts ticks eager_jobs e f g k text h =
    moved (λ w o. IsRunTextBy begun.report.names.now begun.report.admitted w o text) (set_on board) (set_on begun.board) (functions_of scripts) (functions_of begun.bodies.scripts.items) ticks begun.bodies.ticks.items (eager_jobs_at eager_jobs) (eager_jobs_at begun.bodies.eager_jobs.items)
    (ap set_on e) (ap functions_of f) g (ap eager_jobs_at k) h

-- the run of a new board has the bodies of what has begun, and room for its entries
pub ready_as : (set : Set) (scripts : List Script) (ticks ticks' : List (List ℕ)) (eager_jobs eager_jobs' : List ℕ) → ticks' ≡ ticks → eager_jobs' ≡ eager_jobs
    → IsReady set scripts ticks eager_jobs → IsReady set scripts ticks' eager_jobs'
ready_as set scripts ticks ticks' eager_jobs eager_jobs' e f h =
    subst (λ (t : List (List ℕ)). IsReady set scripts t eager_jobs') (sym e) (subst (λ (o : List ℕ). IsReady set scripts ticks o) (sym f) h)

pub room_as : (room : ℕ) (set set' : Set) (ticks ticks' : List (List ℕ)) (eager_jobs eager_jobs' : List ℕ) → set' ≡ set → ticks' ≡ ticks → eager_jobs' ≡ eager_jobs
    → room_of_jobs set.txns (λ tx. length (ticks_of ticks tx) + eager_jobs_at eager_jobs tx) ≤ room → room_of_jobs set'.txns (λ tx. length (ticks_of ticks' tx) + eager_jobs_at eager_jobs' tx) ≤ room
room_as room set set' ticks ticks' eager_jobs eager_jobs' e f g h =
    subst (λ (q : Set). room_of_jobs q.txns (λ tx. length (ticks_of ticks' tx) + eager_jobs_at eager_jobs' tx) ≤ room) (sym e)
    (subst (λ (t : List (List ℕ)). room_of_jobs set.txns (λ tx. length (ticks_of t tx) + eager_jobs_at eager_jobs' tx) ≤ room) (sym f)
    (subst (λ (o : List ℕ). room_of_jobs set.txns (λ tx. length (ticks_of ticks tx) + eager_jobs_at o tx) ≤ room) (sym g) h))

-- the tasks of a scenario
abbrev pub tasks_of : (s : Shown) (names : Names) (set : Set) (tasks : Tasks) → IsScenario s → IsOf s names set tasks → AreTasks set tasks
tasks_of s names set tasks is of = record {
  declares = record { scenario = s; is = is; set_is = of.set_is; programs_are = of.programs_are; releases_are = of.releases_are };
  room = of.room_is;
}

-- the text of a run of what has begun for it
pub run_text_is : {B : Type 0} (stands : B → List Entry → Type 0) (set_on : B → Set) (room : B → ℕ) (trial : Bool) (s : Shown) (a : Accepted ReportedSet) (begun : Begun B) → IsScenario s → IsJudged trial s a
    → HasBegun stands set_on room a.names (is_admitted a.set) (set_in a.set) a.tasks begun → (text : List ℕ) → BegunText set_on begun text → RunText trial s text
run_text_is stands set_on room trial s a begun is j h text t =
    let d = (tasks_of s a.names (set_in a.set) a.tasks is j.parts).declares in
    run_reply trial s text is j.compiles j.admits
    (text_as a.names s.names (is_admitted a.set) (not trial) (workload_of s) (eager_jobs_of s) text j.parts.names_are j.mode_is (text_is stands set_on room a.names (is_admitted a.set) (set_in a.set) a.tasks begun d h text t))
