-- What a closed plant's history is, and that it is the run of the workload where no transaction is eager.
use Rattle.std.specs.Prelude.{◌≡◌, ℕ, List, Some}
use mathlib.Core.Option.{some}
use lib.ListN.{get_elem?}
use Rattle.rt_base.specs.declared.ids.JobId.{JobId}
use Rattle.txn_set.specs.Set.{Set}
use Rattle.step_journal.specs.declared.entry.Entry.{Entry}
use Rattle.board.specs.declared.replies.StepReply.{StepReply}
use Rattle.board.specs.Histories.{step_answer}
use Rattle.shared_plant.specs.Seats.{PlantFacts, SeatFacts, Closed}
use Rattle.txn_threads.specs.Scripts.{own_outcomes}
use Rattle.txn_threads.specs.Rounds.{IsRefusal}
use Rattle.law_histories.specs.Sim.{Workload, IsSim}
use Rattle.sim_run.specs.Workloads.{IsObedient}
use Rattle.sim_run.specs.Calls.{IsUnderWay}
use Rattle.law_runs.specs.Histories.{IsRunSoFar, IsRunOf}
use Rattle.law_runs.specs.Seats.{HaveRun, IsDoneSeat, IsTold}

-- the history that seats leave which ran a workload is a run of it so far, and each job was told what it was told there
abbrev pub ClosedSoFar : {B : Type 0} → (B → List Entry → Type 0) → (B → Set) → (B → ℕ) → (B → ℕ) → (B → List Entry)
    → Type 0
ClosedSoFar {B} stands set room first kept =
    (w : Workload) (eager_jobs : ℕ → ℕ) (p : PlantFacts) (b : B) (seats : List SeatFacts)
    (c : Closed stands set room first kept p b seats) → HaveRun w eager_jobs p seats
    → IsRunSoFar w eager_jobs c.history × ((k : ℕ) (s : SeatFacts) → get_elem? seats k ≡ some s → IsTold s)

-- where all jobs of all transactions have ended it is a whole run
abbrev pub ClosedWhole : {B : Type 0} → (B → List Entry → Type 0) → (B → Set) → (B → ℕ) → (B → ℕ) → (B → List Entry)
    → Type 0
ClosedWhole {B} stands set room first kept =
    (w : Workload) (eager_jobs : ℕ → ℕ) (p : PlantFacts) (b : B) (seats : List SeatFacts)
    (c : Closed stands set room first kept p b seats) → HaveRun w eager_jobs p seats
    → ((k : ℕ) (s : SeatFacts) → get_elem? seats k ≡ some s → IsDoneSeat w eager_jobs s)
    → IsRunOf w eager_jobs c.history

-- no body of an obedient workload is refused but for a lock
abbrev pub NoRefusal : {B : Type 0} → (B → List Entry → Type 0) → (B → Set) → (B → ℕ) → (B → ℕ) → (B → List Entry)
    → Type 0
NoRefusal {B} stands set room first kept =
    (w : Workload) (eager_jobs : ℕ → ℕ) (p : PlantFacts) (b : B) (seats : List SeatFacts)
    → Closed stands set room first kept p b seats → HaveRun w eager_jobs p seats → IsObedient w
    → (k : ℕ) (s : SeatFacts) (job : JobId) (r : StepReply) (held places : ℕ) → get_elem? seats k ≡ some s
    → s.tx ≡ Some job.tx
    → r ≡ step_answer w.set s.seen held places job (w.bodies job.tx.0 job.serial (own_outcomes s.mine job))
    → IsRefusal r → ⊥

-- Run determined: where no transaction is eager a whole run is the one run of the workload, and a run so far is on the way
abbrev pub FixedIsSim : Type 0
FixedIsSim =
    (w : Workload) (eager_jobs : ℕ → ℕ) (history : List Entry) → ((tx : ℕ) → eager_jobs tx ≡ 0) → IsRunOf w eager_jobs history
    → IsSim w history

abbrev pub FixedIsUnderWay : Type 0
FixedIsUnderWay =
    (w : Workload) (eager_jobs : ℕ → ℕ) (history : List Entry) → ((tx : ℕ) → eager_jobs tx ≡ 0) → IsRunSoFar w eager_jobs history
    → IsUnderWay w history

-- the other way round the one run of the workload is a whole run, whatever its set and its releases
abbrev pub SimIsRun : Type 0
SimIsRun =
    (w : Workload) (eager_jobs : ℕ → ℕ) (history : List Entry) → ((tx : ℕ) → eager_jobs tx ≡ 0) → IsSim w history
    → IsRunOf w eager_jobs history
