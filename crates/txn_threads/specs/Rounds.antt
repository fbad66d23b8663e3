-- What rounds do to members and workers.
use Rattle.std.specs.Prelude.{◌≡◌, ℕ, ◌+◌, ◌-◌, ◌<◌, ◌≤◌, ◌++◌, List, Some, true, Result, Ok, Err, IfErr, length, slice_get, slice_index_or, All}
use Rattle.rt_base.specs.declared.ids.TxId.{TxId}
use Rattle.rt_base.specs.declared.ids.JobId.{JobId}
use Rattle.rt_base.specs.declared.operation.Op.{Op}
use Rattle.rt_base.specs.declared.operation.Outcome.{Outcome}
use Rattle.rt_base.specs.declared.release.PlanRefused.{PlanRefused}
use Rattle.rt_base.specs.declared.release.PlanRefused.TheVariants as cause
use Rattle.board.specs.declared.replies.StepReply.{StepReply}
use Rattle.board.specs.declared.replies.StepReply.TheVariants as reply
use Rattle.board.specs.Histories.{step_answer, plan_next_answer, ended_of}
use Rattle.step_journal.specs.declared.entry.Entry.{Entry}
use Rattle.turn_cell.specs.Turn.{Begins}
use Rattle.shared_plant.specs.Seats.{PlantFacts, IsOf}
use Rattle.txn_threads.specs.declared.member.Halt.{Halt}
use Rattle.txn_threads.specs.declared.member.Halt.TheVariants.{Refused, NoPlan}
use Rattle.txn_threads.specs.declared.member.Member.{Member}
use Rattle.txn_threads.specs.declared.member.Worker.{Worker}
use Rattle.txn_threads.specs.declared.tries.TryOutcome.{TryOutcome}
use Rattle.txn_threads.specs.Scripts.{own_outcomes, AreAsked}
use Rattle.txn_threads.specs.Plans.{plans_in, ArePlanned}
use Rattle.txn_threads.specs.Rising.{AreRising}
use Rattle.txn_threads.specs.declared.task.Heard.{Heard}
use Rattle.txn_threads.specs.declared.task.Heard.TheVariants as heard
use Rattle.txn_threads.specs.Tasks.{Tied, heard_of}

-- each element of the first list and the one of the second at its place
abbrev pub Each : {X : Type 0} → (X → X → Type 0) → List X → List X → Type 0
Each {X} R xs ys = (length ys ≡ length xs) × ((i : ℕ) (d : X) → i < length xs → R (slice_index_or xs i d) (slice_index_or ys i d))

-- the refusals of an operation that stop a worker
abbrev pub IsRefusal : StepReply → Type 0
IsRefusal (reply.Undeclared item) = Unit {0}
IsRefusal (reply.TooEarly left) = Unit {0}
IsRefusal (reply.Unwritten item) = Unit {0}
IsRefusal other = ⊥

-- the refusals of a plan that stop a worker
abbrev pub IsCause : PlanRefused → Type 0
IsCause (cause.TooFar limit) = Unit {0}
IsCause (cause.CalendarFull room) = Unit {0}
IsCause (cause.NoSerial planned) = Unit {0}
IsCause other = ⊥

-- At all that the member's seat has seen the board answers this to plan_next, of an eager member that had planned fewer
-- jobs than it is to have. At least as many jobs had ended there as it had planned.
pub record IsUnplanned {B Y : Type 0} (p : PlantFacts) (m : Member B Y) (tx : TxId) (e : PlanRefused) : Type 0 where
  pub own : m.seat.tx ≡ Some tx
  pub cause_is : IsCause e
  pub is_eager : m.eager ≡ true
  pub left : m.planned < m.jobs
  pub ended : m.planned ≤ ended_of p.set m.seat.seen tx.0
  pub answer : Err e ≡ plan_next_answer p.set m.seat.seen (length m.seat.seen - m.seat.base) p.room tx.0

module _ {B Y : Type 0} (gives : Y → ℕ → List Outcome → Op) where
  -- At all that the member's seat has seen the board answers this to the job's operation by the body's function, where the
  -- outcomes are those of the job's Step entries among the seat's own.
  pub record IsRefused (p : PlantFacts) (m : Member B Y) (job : JobId) (r : StepReply) : Type 0 where
    pub own : m.seat.tx ≡ Some job.tx
    pub refusal : IsRefusal r
    pub answer : r ≡ step_answer p.set m.seat.seen (length m.seat.seen - m.seat.base) p.room job (gives m.task.body job.serial (own_outcomes m.seat.mine job))

  abbrev pub Met : PlantFacts → Halt → Member B Y → Type 0
  Met p (Refused job r) m = IsRefused p m job r
  Met p (NoPlan tx e) m = IsUnplanned p m tx e

  -- one of the members met the stop
  abbrev pub MetIn : PlantFacts → List (Member B Y) → Halt → Type 0
  MetIn p ms h = (k : ℕ) × (m : Member B Y) × (slice_get ms k ≡ Some m) × Met p h m

  -- The stop that a worker keeps was met by one of its members, which has made no try since.
  abbrev pub Halted : PlantFacts → Worker B Y → Type 0
  Halted p w = (h : Halt) → w.halt ≡ Some h → MetIn p w.members.items h

module _ {B Y : Type 0} (gives : Y → ℕ → List Outcome → Op) (stands : Y → ℕ → List Outcome → Type 0) where
  -- What holds of a member while it runs: its seat is of the plant and has a transaction, its body stands where its own
  -- entries have brought it, and the jobs that it counts as ended had ended in what its seat has seen.
  pub record Sits (p : PlantFacts) (m : Member B Y) : Type 0 where
    pub of : IsOf p m.seat
    pub has : (tx : TxId) × (m.seat.tx ≡ Some tx)
    pub tied : (tx : TxId) → m.seat.tx ≡ Some tx → Tied gives stands tx m.seat.mine m.task
    pub knows : (tx : TxId) → m.seat.tx ≡ Some tx → m.ended ≤ ended_of p.set m.seat.seen tx.0

  -- A member after some tries: its seat has seen more, what it added is its body's and its own plans, and it sits.
  pub record Ran (p : PlantFacts) (m n : Member B Y) : Type 0 where
    pub plant : n.seat.plant ≡ m.seat.plant
    pub tx : n.seat.tx ≡ m.seat.tx
    pub jobs : n.jobs ≡ m.jobs
    pub eager : n.eager ≡ m.eager
    pub gives_is : gives n.task.body ≡ gives m.task.body
    pub seen : Begins m.seat.seen n.seat.seen
    pub added : List (ℕ × Entry)
    pub mine : n.seat.mine ≡ m.seat.mine ++ added
    pub rising : AreRising (length m.seat.seen) (length n.seat.seen) added
    pub asked : (tx : TxId) → m.seat.tx ≡ Some tx → AreAsked (gives m.task.body) tx m.seat.mine added
    pub plans : (tx : TxId) → m.seat.tx ≡ Some tx → ArePlanned p.set n.seat.seen tx m.eager m.jobs m.planned added
    pub planned : n.planned ≡ m.planned + plans_in added
    pub sits : Sits p n

  -- A member after some tries, of which the last met this stop, or none.
  pub record HasTried (p : PlantFacts) (m : Member B Y) (r : Result TryOutcome Halt) (n : Member B Y) : Type 0 where
    pub ran : Ran p m n
    pub met : IfErr r (λ h. Met gives p h n)

  -- what each try of a worker's members is asked
  abbrev pub MembersSit : PlantFacts → Worker B Y → Type 0
  MembersSit p w = All (Sits p) w.members.items

  -- A worker after some tries of its members, of which the last met this stop, or none.
  pub record HaveTried (p : PlantFacts) (w : Worker B Y) (r : Result TryOutcome Halt) (u : Worker B Y) : Type 0 where
    pub ran : Each (Ran p) w.members.items u.members.items
    pub halt : u.halt ≡ w.halt
    pub met : IfErr r (MetIn gives p u.members.items)

  -- what holds of a worker while it runs
  abbrev pub WorkerSits : PlantFacts → Worker B Y → Type 0
  WorkerSits p w = MembersSit p w × Halted gives p w

  -- a worker after some tries
  abbrev pub WorkerRan : PlantFacts → Worker B Y → Worker B Y → Type 0
  WorkerRan p w u = Each (Ran p) w.members.items u.members.items × Halted gives p u

-- how many jobs are known to have ended, after an answer
abbrev pub known_after : ℕ → StepReply → ℕ
known_after n (reply.NoJob ended last) = ended
known_after n other = n

-- how many jobs are known to have ended, after what a task heard
abbrev pub ended_by : ℕ → Heard → ℕ
ended_by n (heard.Over ended) = ended
ended_by n other = n

-- the stop is this job's, by this refusal
abbrev pub IsHaltOf : Halt → JobId → StepReply → Type 0
IsHaltOf h job r = (h ≡ Refused job r) × IsRefusal r

-- the stop is this job's, by the refusal that its task heard
abbrev pub IsHeardHalt : Halt → JobId → Heard → Type 0
IsHeardHalt h job kept = (r : StepReply) × (h ≡ Refused job r) × IsRefusal r × (kept ≡ heard_of r)

-- how many jobs a member has planned, after an answer
abbrev pub planned_after : ℕ → Result (JobId × ℕ) PlanRefused → ℕ
planned_after n (Ok p) = n + 1
planned_after n (Err e) = n

-- the stop is this transaction's, by this refusal of a plan
abbrev pub IsPlanHalt : Halt → TxId → Result (JobId × ℕ) PlanRefused → Type 0
IsPlanHalt h tx r = (e : PlanRefused) × (h ≡ NoPlan tx e) × (r ≡ Err e) × IsCause e
