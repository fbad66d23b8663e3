-- The next job of an eager transaction can always be planned, and so in the run of a scenario and on a closed plant.
use Rattle.std.specs.Prelude.{◌≡◌, ℕ, ◌+◌, ◌<◌, ◌≤◌, false, List, [], length, Some, Ok, Err}
use Rattle.std.specs.List.{list_any}
use mathlib.Core.Option.{some}
use lib.ListN.{get_elem?}
use Rattle.rt_base.specs.declared.ids.TxId.{TxId}
use Rattle.rt_base.specs.declared.release.PlanRefused.{PlanRefused}
use Rattle.txn_set.specs.Set.{Set, IsCompiled}
use Rattle.step_journal.specs.declared.entry.Entry.{Entry}
use Rattle.step_journal.specs.Step.{next_job}
use Rattle.step_journal.specs.History.{state_of}
use Rattle.board.specs.Answers.{next_tick_for}
use Rattle.board.specs.Histories.{plan_next_answer}
use Rattle.turn_cell.specs.Turn.{Begins}
use Rattle.shared_plant.specs.Seats.{PlantFacts, SeatFacts, IsOf, Closed}
use Rattle.txn_threads.specs.declared.member.Member.{Member}
use Rattle.txn_threads.specs.Plans.{plans_in}
use Rattle.txn_threads.specs.Rounds.{IsCause, IsUnplanned}
use Rattle.law_histories.specs.Counting.{plan_count, room_of_jobs}
use Rattle.law_histories.specs.Sim.{Workload, plans}
use Rattle.sim_run.specs.Workloads.{ticks_of}
use Rattle.law_runs.specs.Histories.{IsRunSoFar}
use Rattle.law_runs.specs.Seats.{HaveRun}
use Rattle.step_script.specs.Shown.{Shown, set_of}
use Rattle.step_script.specs.Releases.{is_eager, jobs_of, releases_of}
use Rattle.step_script.specs.Scenarios.{IsScenario}
use Rattle.law_runs.specs.Runs.{workload_of}
use Rattle.law_runs.specs.Plannable.{ArePlannable, eager_jobs_of}

-- In a run so far a transaction of the set has jobs left: not all that are released or that it plans itself are planned.
pub record HasJobsLeft (w : Workload) (eager_jobs : ℕ → ℕ) (history : List Entry) (tx : ℕ) : Type 0 where
  pub run : IsRunSoFar w eager_jobs history
  pub in_set : tx < length w.set.txns
  pub left : plan_count history tx < length (ticks_of w.releases tx) + eager_jobs tx

-- then no refusal of its next job stops a worker
abbrev pub NextIsPlanned : Type 0
NextIsPlanned =
    (w : Workload) (eager_jobs : ℕ → ℕ) (history : List Entry) (tx kept room : ℕ) (e : PlanRefused) → IsCompiled w.set
    → ArePlannable w eager_jobs → HasJobsLeft w eager_jobs history tx
    → Err e ≡ plan_next_answer w.set history kept room tx → IsCause e → ⊥

-- and where there is room for an entry it is planned, for the earliest tick that may be
abbrev pub NextIsGiven : Type 0
NextIsGiven =
    (w : Workload) (eager_jobs : ℕ → ℕ) (history : List Entry) (tx kept room : ℕ) → IsCompiled w.set
    → ArePlannable w eager_jobs → HasJobsLeft w eager_jobs history tx → kept < room
    → plan_next_answer w.set history kept room tx
    ≡ Ok (next_job (state_of w.set history) tx, next_tick_for w.set (state_of w.set history) tx)

-- A run so far has at most the entries for which its jobs have room: those of its releases, and those that eager
-- transactions plan themselves.
abbrev pub RunFits : Type 0
RunFits =
    (w : Workload) (eager_jobs : ℕ → ℕ) (history : List Entry) → IsCompiled w.set → IsRunSoFar w eager_jobs history
    → length history ≤ room_of_jobs w.set.txns (λ tx. length (ticks_of w.releases tx) + eager_jobs tx)

-- the eager jobs of a scenario can be planned
abbrev pub ScenarioIsPlannable : Type 0
ScenarioIsPlannable = (s : Shown) → IsScenario s → ArePlannable (workload_of s) (eager_jobs_of s)

-- a transaction that plans jobs itself has no release
abbrev pub EagerHaveNoReleases : Type 0
EagerHaveNoReleases = (s : Shown) (tx : ℕ) → 0 < eager_jobs_of s tx → ticks_of (workload_of s).releases tx ≡ []

-- its releases and the jobs that it plans itself are together the jobs of a transaction
abbrev pub AllJobsAre : Type 0
AllJobsAre =
    (s : Shown) (tx : ℕ) → IsScenario s
    → length (ticks_of (workload_of s).releases tx) + eager_jobs_of s tx ≡ jobs_of (releases_of s.releases tx)

-- where no releases are eager no transaction plans a job itself
abbrev pub NoneEager : Type 0
NoneEager = (s : Shown) → list_any is_eager s.releases ≡ false → (tx : ℕ) → eager_jobs_of s tx ≡ 0

-- a scenario has room for the entries of all its jobs, eager ones too, and for more
abbrev pub ScenarioHasRoom : Type 0
ScenarioHasRoom =
    (s : Shown) → IsScenario s
    → room_of_jobs s.txns (λ tx. length (ticks_of (workload_of s).releases tx) + eager_jobs_of s tx) < s.room

-- so in each run of a scenario so far the next job of a transaction that has jobs left is planned, by a board of its room
-- that keeps no more than the run's entries
abbrev pub ScenarioPlansNext : Type 0
ScenarioPlansNext =
    (s : Shown) (history : List Entry) (tx kept : ℕ) → IsScenario s → IsCompiled (set_of s)
    → HasJobsLeft (workload_of s) (eager_jobs_of s) history tx → kept ≤ length history
    → plan_next_answer (set_of s) history kept s.room tx
    ≡ Ok (next_job (state_of (set_of s) history) tx, next_tick_for (set_of s) (state_of (set_of s) history) tx)

-- a beginning of a run so far that has the plans of all releases is a run so far
abbrev pub FrontSoFar : Type 0
FrontSoFar =
    (w : Workload) (eager_jobs : ℕ → ℕ) (history front : List Entry) → IsRunSoFar w eager_jobs history → Begins front history
    → Begins (plans w) front → IsRunSoFar w eager_jobs front

-- The jobs of its transaction that a seat of a closed plant has seen planned are those of the releases, and those that it
-- planned itself.
abbrev pub PlansAreOwn : {B : Type 0} → (B → List Entry → Type 0) → (B → Set) → (B → ℕ) → (B → ℕ) → (B → List Entry)
    → Type 0
PlansAreOwn {B} stands set room first kept =
    (w : Workload) (eager_jobs : ℕ → ℕ) (p : PlantFacts) (b : B) (seats : List SeatFacts)
    → Closed stands set room first kept p b seats → HaveRun w eager_jobs p seats
    → (k : ℕ) (s : SeatFacts) (tx : TxId) → get_elem? seats k ≡ some s → s.tx ≡ Some tx
    → plan_count s.seen tx.0 ≡ length (ticks_of w.releases tx.0) + plans_in s.mine

-- So a seat that is to plan more jobs has jobs left at all that it has seen.
abbrev pub SeatHasJobsLeft : {B : Type 0} → (B → List Entry → Type 0) → (B → Set) → (B → ℕ) → (B → ℕ)
    → (B → List Entry) → Type 0
SeatHasJobsLeft {B} stands set room first kept =
    (w : Workload) (eager_jobs : ℕ → ℕ) (p : PlantFacts) (b : B) (seats : List SeatFacts)
    → Closed stands set room first kept p b seats → HaveRun w eager_jobs p seats
    → (k : ℕ) (s : SeatFacts) (tx : TxId) → get_elem? seats k ≡ some s → s.tx ≡ Some tx → tx.0 < length w.set.txns
    → plans_in s.mine < eager_jobs tx.0
    → HasJobsLeft w eager_jobs s.seen tx.0

-- No refusal of its next job, at all that it has seen, stops a worker.
abbrev pub ClosedNoPlan : {B : Type 0} → (B → List Entry → Type 0) → (B → Set) → (B → ℕ) → (B → ℕ) → (B → List Entry)
    → Type 0
ClosedNoPlan {B} stands set room first kept =
    (w : Workload) (eager_jobs : ℕ → ℕ) (p : PlantFacts) (b : B) (seats : List SeatFacts)
    → Closed stands set room first kept p b seats → HaveRun w eager_jobs p seats → ArePlannable w eager_jobs
    → (k : ℕ) (s : SeatFacts) (tx : TxId) (held places : ℕ) (e : PlanRefused) → get_elem? seats k ≡ some s
    → s.tx ≡ Some tx → tx.0 < length w.set.txns → plans_in s.mine < eager_jobs tx.0
    → Err e ≡ plan_next_answer w.set s.seen held places tx.0 → IsCause e → ⊥

-- A member of such a seat, which planned the seat's plans and is to plan its transaction's own jobs, does not stop for want
-- of a plan.
abbrev pub NeverUnplanned : {B : Type 0} → Type 0 → (B → List Entry → Type 0) → (B → Set) → (B → ℕ) → (B → ℕ)
    → (B → List Entry) → Type 0
NeverUnplanned {B} Y stands set room first kept =
    (w : Workload) (eager_jobs : ℕ → ℕ) (p : PlantFacts) (b : B) (seats : List SeatFacts)
    → Closed stands set room first kept p b seats → HaveRun w eager_jobs p seats → ArePlannable w eager_jobs
    → (k : ℕ) (m : Member B Y) (tx : TxId) (e : PlanRefused) → get_elem? seats k ≡ some m.seat → IsOf p m.seat
    → m.planned ≡ plans_in m.seat.mine → m.jobs ≡ eager_jobs tx.0
    → IsUnplanned p m tx e → ⊥
