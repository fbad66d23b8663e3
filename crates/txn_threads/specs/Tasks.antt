-- How a body stands between two answers.
use Rattle.std.specs.Prelude.{◌≡◌, ℕ, ◌<◌, List, [], Some}
use Rattle.rt_base.specs.declared.ids.TxId.{TxId}
use Rattle.rt_base.specs.declared.operation.Op.{Op}
use Rattle.rt_base.specs.declared.operation.Outcome.{Outcome}
use Rattle.step_journal.specs.declared.entry.Entry.{Entry}
use Rattle.board.specs.declared.replies.StepReply.{StepReply}
use Rattle.board.specs.declared.replies.StepReply.TheVariants as reply
use Rattle.board.specs.Histories.{step_entry}
use Rattle.shared_plant.specs.Answers.{with_own}
use Rattle.shared_plant.specs.Steps.{IsOn}
use Rattle.txn_threads.specs.declared.task.Heard.{Heard}
use Rattle.txn_threads.specs.declared.task.Heard.TheVariants.{Nothing, Over, Full, Undeclared, TooEarly, Unwritten}
use Rattle.txn_threads.specs.declared.task.Task.{Task}
use Rattle.txn_threads.specs.Scripts.{job_of, own_outcomes}

-- what a task keeps of an answer
abbrev pub heard_of : StepReply → Heard
heard_of (reply.NoJob ended last) = Over ended
heard_of (reply.Undeclared item) = Undeclared item
heard_of (reply.TooEarly left) = TooEarly left
heard_of (reply.Unwritten item) = Unwritten item
heard_of (reply.Full room) = Full
heard_of other = Nothing

module _ {Y : Type 0} (gives : Y → ℕ → List Outcome → Op) (stands : Y → ℕ → List Outcome → Type 0) where
  -- The body stands where the steps of its present job have brought it, and no later job took a step.
  pub record Tied (tx : TxId) (mine : List (ℕ × Entry)) (t : Task Y) : Type 0 where
    pub standing : stands t.body t.serial (own_outcomes mine (job_of tx t.serial))
    pub op_is : (op : Op) → t.op ≡ Some op → op ≡ gives t.body t.serial (own_outcomes mine (job_of tx t.serial))
    pub later : (s : ℕ) → t.serial < s → own_outcomes mine (job_of tx s) ≡ []

  -- the operation is the body's function of its present job's serial and of the outcomes of its steps
  abbrev pub IsNextOp : TxId → List (ℕ × Entry) → Task Y → Op → Type 0
  IsNextOp tx mine t op = op ≡ gives t.body t.serial (own_outcomes mine (job_of tx t.serial))

  -- the task asks for the next operation, wherever it stands
  abbrev pub Asks : Task Y → Op → Type 0
  Asks t op = (tx : TxId) (mine : List (ℕ × Entry)) → Tied tx mine t → IsNextOp tx mine t op

  -- A task before and after the answer to an operation: it stands where the entry of the answer has brought it, and it keeps what
  -- its member has to know.
  pub record Hears (t : Task Y) (op : Op) (r : StepReply) (u : Task Y) : Type 0 where
    pub same : gives u.body ≡ gives t.body
    pub serial : IsOn r → u.serial ≡ t.serial
    pub heard : t.heard ≡ Nothing → u.heard ≡ heard_of r
    pub tied : (tx : TxId) (mine : List (ℕ × Entry)) (history : List Entry) (now : ℕ) → Tied tx mine t → Tied tx (with_own mine history (step_entry now (job_of tx t.serial) op r)) u
