-- The seats of a plant after a run of the bodies of a workload.
use Rattle.std.specs.Prelude.{◌≡◌, ℕ, ◌+◌, ◌<◌, ◌≤◌, Bool, if◌then◌else◌, List, [], length, Some, None}
use mathlib.Core.Option.{some}
use lib.ListN.{get_elem?}
use Rattle.rt_base.specs.declared.ids.TxId.{TxId}
use Rattle.rt_base.specs.declared.ids.JobId.{JobId}
use Rattle.step_journal.specs.Serial.{outcomes_of}
use Rattle.txn_set.specs.Set.{Set}
use Rattle.board.specs.Histories.{ended_of}
use Rattle.turn_cell.specs.Turn.{Begins}
use Rattle.shared_plant.specs.Seats.{PlantFacts, SeatFacts, tx_of}
use Rattle.txn_threads.specs.Scripts.{own_outcomes, AreAsked}
use Rattle.txn_threads.specs.Plans.{ArePlanned}
use Rattle.txn_threads.specs.Rising.{AreRising}
use Rattle.law_histories.specs.Sim.{Workload, plans}
use Rattle.sim_run.specs.Workloads.{ticks_of}

-- the seat's plans are those of a member that plans so many jobs itself, or of one that is not eager and plans none
pub record HasPlanned (set : Set) (s : SeatFacts) (tx : TxId) (eager_jobs : ℕ) : Type 0 where
  pub eager : Bool
  pub jobs : ℕ
  pub plans : ArePlanned set s.seen tx eager jobs 0 s.mine
  pub own_is : eager_jobs ≡ (if eager then jobs else 0)

-- What a run leaves of a seat that had seen the plans of all releases and had no entry of its own: its entries are those of
-- its transaction's body and its own plans, in the order of their places. The operator's seat has none.
pub record IsSeatRun (w : Workload) (eager_jobs : ℕ → ℕ) (s : SeatFacts) : Type 0 where
  pub began : Begins (plans w) s.seen
  pub rising : AreRising (length (plans w)) (length s.seen) s.mine
  pub asked : (tx : TxId) → s.tx ≡ Some tx → AreAsked (w.bodies tx.0) tx [] s.mine
  pub planned : (tx : TxId) → s.tx ≡ Some tx → HasPlanned w.set s tx (eager_jobs tx.0)
  pub operator : s.tx ≡ None → s.mine ≡ []

-- no two seats are of one transaction, and each transaction has a seat
pub record AreSeats (set : Set) (seats : List SeatFacts) : Type 0 where
  pub one :
      (k l : ℕ) (s t : SeatFacts) (tx : TxId) → get_elem? seats k ≡ some s → get_elem? seats l ≡ some t
      → s.tx ≡ Some tx → t.tx ≡ Some tx → k ≡ l
  pub each :
      (tx : ℕ) → tx < length set.txns
      → (k : ℕ) × (s : SeatFacts) × (get_elem? seats k ≡ some s) × (s.tx ≡ Some (tx_of tx))

-- The seats ran the workload on this plant, which began with the plans of all releases. An eager transaction has no
-- release beside the jobs that it plans itself.
pub record HaveRun (w : Workload) (eager_jobs : ℕ → ℕ) (p : PlantFacts) (seats : List SeatFacts) : Type 0 where
  pub set_is : p.set ≡ w.set
  pub start_is : p.start ≡ length (plans w)
  pub own_seats : AreSeats w.set seats
  pub each : (k : ℕ) (s : SeatFacts) → get_elem? seats k ≡ some s → IsSeatRun w eager_jobs s
  pub eager : (tx : ℕ) → 0 < eager_jobs tx → ticks_of w.releases tx ≡ []

-- all jobs of the seat's transaction have ended in what it has seen
abbrev pub IsDoneSeat : Workload → (ℕ → ℕ) → SeatFacts → Type 0
IsDoneSeat w eager_jobs s =
    (tx : TxId) → s.tx ≡ Some tx → length (ticks_of w.releases tx.0) + eager_jobs tx.0 ≤ ended_of w.set s.seen tx.0

-- a job of the seat's transaction was told the same by the seat's own entries as by all that the seat has seen
abbrev pub IsTold : SeatFacts → Type 0
IsTold s = (job : JobId) → s.tx ≡ Some job.tx → outcomes_of s.seen job ≡ own_outcomes s.mine job
