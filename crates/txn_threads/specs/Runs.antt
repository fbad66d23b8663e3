-- What a run does: to its members, to the operator's seat, and to the out.
use Rattle.std.specs.Prelude.{◌≡◌, ℕ, ◌-◌, ◌<◌, ◌≤◌, ◌++◌, [], List, Some, None, Result, Err, length, take, drop, slice_get, All, vec_capacity}
use Rattle.rt_base.specs.declared.ids.TxId.{TxId}
use Rattle.rt_base.specs.declared.operation.Op.{Op}
use Rattle.rt_base.specs.declared.operation.Outcome.{Outcome}
use Rattle.board.specs.Histories.{ended_of}
use Rattle.step_journal.specs.declared.entry.Entry.{Entry}
use Rattle.turn_cell.specs.Turn.{Begins}
use Rattle.shared_plant.specs.Seats.{PlantFacts, SeatFacts, IsOf}
use Rattle.step_journal.specs.History.{IsLegal}
use Rattle.sim_run.specs.Outs.{StaysGood, IsEmptied}
use Rattle.txn_threads.specs.declared.drain.Drain.{Drain}
use Rattle.txn_threads.specs.declared.member.RunStop.{RunStop}
use Rattle.txn_threads.specs.declared.member.RunStop.TheVariants.{Refused, NoPlan, Stopped}
use Rattle.txn_threads.specs.declared.member.Halt.{Halt}
use Rattle.txn_threads.specs.declared.member.Halt.TheVariants as halt
use Rattle.txn_threads.specs.declared.member.Member.{Member}
use Rattle.txn_threads.specs.declared.member.Worker.{Worker}
use Rattle.txn_threads.specs.Scripts.{NoSteps, AreAsked}
use Rattle.txn_threads.specs.Plans.{plans_in, ArePlanned}
use Rattle.txn_threads.specs.Rising.{AreRising}
use Rattle.txn_threads.specs.Tasks.{Tied}
use Rattle.txn_threads.specs.Rounds.{Each, MetIn}

-- What a member has to meet: its seat is of the plant and has a transaction, of which no job has taken a step by this seat.
pub record MayRun {B Y : Type 0} (p : PlantFacts) (m : Member B Y) : Type 0 where
  pub of : IsOf p m.seat
  pub has : (tx : TxId) × (m.seat.tx ≡ Some tx)
  pub fresh : (tx : TxId) → m.seat.tx ≡ Some tx → NoSteps tx m.seat.mine

-- A member before and after a run: its seat has seen more, and what it added to its own entries is its body's and its own
-- plans, at most as many as it is to have. The places of what it added rise, from the end of what the seat had seen.
pub record HasRun {B Y : Type 0} (gives : Y → ℕ → List Outcome → Op) (p : PlantFacts) (m n : Member B Y) : Type 0 where
  pub of : IsOf p n.seat
  pub tx : n.seat.tx ≡ m.seat.tx
  pub jobs : n.jobs ≡ m.jobs
  pub eager : n.eager ≡ m.eager
  pub gives_is : gives n.task.body ≡ gives m.task.body
  pub seen : Begins m.seat.seen n.seat.seen
  pub added : List (ℕ × Entry)
  pub mine : n.seat.mine ≡ m.seat.mine ++ added
  pub rising : AreRising (length m.seat.seen) (length n.seat.seen) added
  pub asked : (tx : TxId) → m.seat.tx ≡ Some tx → AreAsked (gives m.task.body) tx m.seat.mine added
  pub plans : (tx : TxId) → m.seat.tx ≡ Some tx → ArePlanned p.set n.seat.seen tx m.eager m.jobs 0 added
  pub few : plans_in added ≤ m.jobs
  pub count : n.planned ≡ plans_in added

-- of the member's transaction as many jobs as it is to have have ended in the history that its seat has seen
abbrev pub IsDone : {B Y : Type 0} → PlantFacts → Member B Y → Type 0
IsDone p m = (tx : TxId) → m.seat.tx ≡ Some tx → m.jobs ≤ ended_of p.set m.seat.seen tx.0

-- the entries from one place up to another
abbrev pub part : List Entry → ℕ → ℕ → List Entry
part h a b = take (b - a) (drop a h)

-- An operator's seat after some drains: it added nothing, and has seen and drained more.
pub record Operated (s t : SeatFacts) : Type 0 where
  pub plant : t.plant ≡ s.plant
  pub tx : t.tx ≡ s.tx
  pub mine : t.mine ≡ s.mine
  pub seen : Begins s.seen t.seen
  pub more : s.drained ≤ t.drained

-- whatever was got, this is now got after it
abbrev pub GotMore : {O : Type 0} → (O → List Entry → Type 0) → O → O → List Entry → Type 0
GotMore got o q new = (l : List Entry) → got o l → got q (l ++ new)

-- Of each legal history that begins with what the seat has seen, the out may get any part from what the seat has drained
-- on, after entries that it has got.
abbrev pub MayDrain : {O : Type 0} → (legal : List Entry → Type 0) → (got good : O → List Entry → Type 0) → SeatFacts → O → Type 0
MayDrain legal got good s o =
    (h : List Entry) (to : ℕ) → legal h → Begins s.seen h → (l : List Entry) × got o l × good o (l ++ part h s.drained to)

-- The run came to its end without a fault of the out, which got all that was drained.
abbrev pub Collected : {O : Type 0} → (got lost : O → List Entry → Type 0) → SeatFacts → SeatFacts → O → O → Type 0
Collected got lost s t o q = GotMore got o q (part t.seen s.drained t.drained) × lost q []

-- The out got what was drained up to some place, and lost the rest.
pub record CollectedTo {O : Type 0} (got lost : O → List Entry → Type 0) (s t : SeatFacts) (o q : O) : Type 0 where
  pub to : ℕ
  pub from : s.drained ≤ to
  pub within : to ≤ t.drained
  pub got_is : GotMore got o q (part t.seen s.drained to)
  pub lost_is : lost q (part t.seen to t.drained)

abbrev pub IfStopped : Result (Unit {0}) RunStop → Type 0 → Type 0 → Type 0
IfStopped (Err Stopped) P Q = P
IfStopped other P Q = Q

-- no worker has a member
abbrev pub NoMembers : {B Y : Type 0} → List (Worker B Y) → Type 0
NoMembers ws = All (λ w. length w.members.items ≡ 0) ws

-- The stop of the first worker that met one: the worker keeps it, one of its members met it, and no worker before it met one.
pub record FirstStop {B Y : Type 0} (gives : Y → ℕ → List Outcome → Op) (p : PlantFacts) (ws : List (Worker B Y)) (h : Halt) : Type 0 where
  pub place : ℕ
  pub worker : Worker B Y
  pub at : slice_get ws place ≡ Some worker
  pub kept : worker.halt ≡ Some h
  pub met : MetIn gives p worker.members.items h
  pub before : (j : ℕ) (w : Worker B Y) → j < place → slice_get ws j ≡ Some w → w.halt ≡ None

abbrev pub StopIs : {B Y : Type 0} → (Y → ℕ → List Outcome → Op) → PlantFacts → List (Worker B Y) → RunStop → Type 0
StopIs gives p ws (Refused job r) = FirstStop gives p ws (halt.Refused job r)
StopIs gives p ws (NoPlan tx e) = FirstStop gives p ws (halt.NoPlan tx e)
StopIs gives p ws Stopped = Unit {0}

-- inside a run

-- a member as a run begins: its body stands where no job has taken a step
pub record Cleared {B Y : Type 0} (gives : Y → ℕ → List Outcome → Op) (stands : Y → ℕ → List Outcome → Type 0) (m n : Member B Y) : Type 0 where
  pub seat : n.seat ≡ m.seat
  pub jobs : n.jobs ≡ m.jobs
  pub eager : n.eager ≡ m.eager
  pub gives_is : gives n.task.body ≡ gives m.task.body
  pub planned : n.planned ≡ 0
  pub ended : n.ended ≡ 0
  pub tied : (tx : TxId) (mine : List (ℕ × Entry)) → NoSteps tx mine → Tied gives stands tx mine n.task

abbrev pub WorkerCleared : {B Y : Type 0} → (Y → ℕ → List Outcome → Op) → (Y → ℕ → List Outcome → Type 0) → Worker B Y → Worker B Y → Type 0
WorkerCleared gives stands w u = Each (Cleared gives stands) w.members.items u.members.items × (u.halt ≡ None)

abbrev pub run_stop : Halt → RunStop
run_stop (halt.Refused job r) = Refused job r
run_stop (halt.NoPlan tx e) = NoPlan tx e

-- the first worker that keeps a stop keeps this one
pub record FirstHalt {B Y : Type 0} (ws : List (Worker B Y)) (h : Halt) : Type 0 where
  pub place : ℕ
  pub within : place < length ws
  pub worker : Worker B Y
  pub at : slice_get ws place ≡ Some worker
  pub kept : worker.halt ≡ Some h
  pub before : (j : ℕ) (w : Worker B Y) → j < place → slice_get ws j ≡ Some w → w.halt ≡ None

abbrev pub HaltIs : {B Y : Type 0} → List (Worker B Y) → RunStop → Type 0
HaltIs ws (Refused job r) = FirstHalt ws (halt.Refused job r)
HaltIs ws (NoPlan tx e) = FirstHalt ws (halt.NoPlan tx e)
HaltIs ws Stopped = Unit {0}

-- What drains go through, before one: the operator's seat, an empty list, and an out that has lost none and may get what is drained.
pub record CanDrain {B O : Type 0} (got lost good : O → List Entry → Type 0) (p : PlantFacts) (d : Drain B) (o : O) : Type 0 where
  pub plant : IsOf p d.operator
  pub operator : d.operator.tx ≡ None
  pub spare : d.spare.items ≡ []
  pub none_lost : lost o []
  pub may : MayDrain (IsLegal p.set) got good d.operator o

-- Some drains have moved what they could, the last one all that was kept if the list has places for it.
pub record HasDrained {B O : Type 0} (good : O → List Entry → Type 0) (stops : O → ℕ) (p : PlantFacts) (d e : Drain B) (o q : O) : Type 0 where
  pub operated : Operated d.operator e.operator
  pub within : e.operator.drained ≤ length e.operator.seen
  pub all : p.room ≤ vec_capacity d.spare → e.operator.drained ≡ length e.operator.seen
  pub spare : IsEmptied d.spare e.spare
  pub stops_more : stops o ≤ stops q
  pub stays_good : StaysGood good o q
