-- The state after a legal history, and the steps that it can take.
use Rattle.std.specs.Prelude.{◌≡◌, ℕ, true, List, [], None, Some}
use Rattle.rt_base.specs.declared.ids.JobId.{JobId}
use Rattle.rt_base.specs.declared.operation.Op.{Op}
use Rattle.txn_set.specs.Set.{Set, IsCompiled}
use Rattle.step_journal.specs.declared.entry.Entry.{Entry}
use Rattle.step_journal.specs.State.{State, Row, pending}
use Rattle.step_journal.specs.Running.{running}
use Rattle.step_journal.specs.Step.{may_ask, lock_refusal, next_tick}
use Rattle.step_journal.specs.History.{IsLegal, state_of}
use Rattle.board.specs.declared.replies.StepReply.{StepReply}
use Rattle.board.specs.declared.replies.StepReply.TheVariants as reply
use Rattle.board.specs.Answers.{IsAsking}
use Rattle.core_tables.specs.Seen.{TablesSeen}
use Rattle.core_tables.specs.Tables.{AreTables}

-- the state after some legal history of a compiled set
pub record IsLegalState (set : Set) (s : State) : Type 0 where
  pub history : List Entry
  pub compiled : IsCompiled set
  pub legal : IsLegal set history
  pub is : s ≡ state_of set history

-- the tables are those of some such state
pub record Stand (set : Set) (t : TablesSeen) : Type 0 where
  pub state : State
  pub are : AreTables set t state
  pub legal : IsLegalState set state

-- .. in which the running job asks for an operation that it may ask for
pub record StandAsking (set : Set) (t : TablesSeen) (job : JobId) (op : Op) : Type 0 where
  pub state : State
  pub are : AreTables set t state
  pub legal : IsLegalState set state
  pub asking : IsAsking set state job op

-- the running job asks for an operation that it may take, and gets the lock that it needs
pub record IsGranted (set : Set) (s : State) (job : JobId) (op : Op) : Type 0 where
  pub row : Row
  pub runs : running set s.rows ≡ Some row
  pub is : row.job ≡ job
  pub may : may_ask set row op ≡ true
  pub free : lock_refusal set s row op ≡ None

-- it asks for such an operation, and does not get the lock: a job holds one with this ceiling
pub record IsBlocked (set : Set) (s : State) (job : JobId) (op : Op) (by : JobId) (ceiling : ℕ) : Type 0 where
  pub row : Row
  pub runs : running set s.rows ≡ Some row
  pub is : row.job ≡ job
  pub may : may_ask set row op ≡ true
  pub refused : lock_refusal set s row op ≡ Some (record { holder = by; ceiling = ceiling })

-- what a refusal tells: it is one, and where the job is blocked by whom
abbrev pub Refuses : Set → State → JobId → Op → StepReply → Type 0
Refuses set s job op (reply.NoJob ended last) = Unit {0}
Refuses set s job op (reply.NotYet other) = Unit {0}
Refuses set s job op (reply.Undeclared item) = Unit {0}
Refuses set s job op (reply.TooEarly left) = Unit {0}
Refuses set s job op (reply.Unwritten item) = Unit {0}
Refuses set s job op (reply.Full room) = Unit {0}
Refuses set s job op (reply.Blocked by ceiling) = IsBlocked set s job op by ceiling
Refuses set s job op (reply.Done outcome over) = ⊥

-- nothing is pending, and the least planned tick is this one
pub record IsIdle (set : Set) (s : State) (to : ℕ) : Type 0 where
  pub none : pending s.rows ≡ []
  pub next : next_tick s.planned ≡ Some to

-- the tables are those of a state in which the operation is granted
pub record StandGranted (set : Set) (t : TablesSeen) (job : JobId) (op : Op) : Type 0 where
  pub state : State
  pub are : AreTables set t state
  pub legal : IsLegalState set state
  pub granted : IsGranted set state job op

-- .. in which some operation is refused, since this job holds a lock
pub record StandBlocked (set : Set) (t : TablesSeen) (job : JobId) (by : JobId) : Type 0 where
  pub state : State
  pub are : AreTables set t state
  pub legal : IsLegalState set state
  pub op : Op
  pub ceiling : ℕ
  pub blocked : IsBlocked set state job op by ceiling

-- .. in which nothing is pending, and this is the least planned tick
pub record StandIdle (set : Set) (t : TablesSeen) (to : ℕ) : Type 0 where
  pub state : State
  pub are : AreTables set t state
  pub legal : IsLegalState set state
  pub idle : IsIdle set state to
