-- The histories that a board stands for, and what its accessors say of them.
use Rattle.std.specs.Prelude.{◌≡◌, ℕ, ◌+◌, ◌≤◌, ◌^◌, List, [], ◌∷◌, ◌++◌, drop, length, Option, None, Some, Result, Ok, Err}
use Rattle.std.specs.Option.{option_map}
use Rattle.rt_base.specs.declared.ids.TxId.{TxId}
use Rattle.rt_base.specs.declared.ids.JobId.{JobId}
use Rattle.rt_base.specs.declared.operation.Op.{Op}
use Rattle.step_journal.specs.declared.entry.Entry.{Entry}
use Rattle.step_journal.specs.declared.entry.Entry.TheVariants.{Planned, Step, Blocked, Idle}
use Rattle.txn_set.specs.Set.{Set, IsCompiled}
use Rattle.step_journal.specs.State.{row_of}
use Rattle.step_journal.specs.Running.{running}
use Rattle.step_journal.specs.History.{IsLegal, state_of}
use Rattle.rt_base.specs.declared.release.PlanRefused.{PlanRefused}
use Rattle.board.specs.declared.replies.StepReply.{StepReply}
use Rattle.board.specs.declared.replies.StepReply.TheVariants as reply
use Rattle.board.specs.declared.replies.IdleReply.{IdleReply}
use Rattle.board.specs.declared.replies.IdleReply.TheVariants as idle
use Rattle.board.specs.Answers.{plan_reply, plan_next_reply, step_reply, idle_reply, ended_number}

-- What a board stands for is a legal history of a compiled set, and what it keeps is that history from first on.
pub record IsHistory (set : Set) (room first : ℕ) (kept history : List Entry) : Type 0 where
  pub compiled : IsCompiled set
  pub legal : IsLegal set history
  pub rest : kept ≡ drop first history
  pub counted : first + length kept ≡ length history
  pub fits : length kept ≤ room
  pub small : room ≤ 2 ^ 20

-- the entry that an answer appends, if any
abbrev pub plan_entry : TxId → ℕ → Result JobId PlanRefused → Option Entry
plan_entry tx tick (Ok job) = Some (Planned tx tick)
plan_entry tx tick (Err e) = None

abbrev pub plan_next_entry : TxId → Result (JobId × ℕ) PlanRefused → Option Entry
plan_next_entry tx (Ok p) = Some (Planned tx p.1)
plan_next_entry tx (Err e) = None

abbrev pub step_entry : ℕ → JobId → Op → StepReply → Option Entry
step_entry now job op (reply.Blocked by ceiling) = Some (Blocked job op by ceiling now)
step_entry now job op (reply.Done outcome over) = Some (Step job op outcome over now)
step_entry now job op other = None

abbrev pub idle_entry : ℕ → IdleReply → Option Entry
idle_entry now (idle.Advanced to) = Some (Idle now to)
idle_entry now other = None

-- a history with one more entry, if there is one
abbrev pub noted : List Entry → Option Entry → List Entry
noted history None = history
noted history (Some entry) = history ++ entry ∷ []

-- what is known of a history

abbrev pub now_of : Set → List Entry → ℕ
now_of set history = (state_of set history).now

abbrev pub running_of : Set → List Entry → Option JobId
running_of set history = option_map (λ r. r.job) (running set (state_of set history).rows)

abbrev pub pending_of : Set → List Entry → ℕ → Option JobId
pending_of set history tx = option_map (λ r. r.job) (row_of (state_of set history).rows tx)

abbrev pub ended_of : Set → List Entry → ℕ → ℕ
ended_of set history tx = ended_number (state_of set history).ended tx

abbrev pub planned_of : Set → List Entry → ℕ
planned_of set history = length (state_of set history).planned

abbrev pub plan_answer : Set → List Entry → ℕ → ℕ → ℕ → ℕ → Result JobId PlanRefused
plan_answer set history kept room tx tick = plan_reply set (state_of set history) kept room tx tick

abbrev pub plan_next_answer : Set → List Entry → ℕ → ℕ → ℕ → Result (JobId × ℕ) PlanRefused
plan_next_answer set history kept room tx = plan_next_reply set (state_of set history) kept room tx

abbrev pub step_answer : Set → List Entry → ℕ → ℕ → JobId → Op → StepReply
step_answer set history kept room job op = step_reply set (state_of set history) kept room job op

abbrev pub idle_answer : Set → List Entry → ℕ → ℕ → IdleReply
idle_answer set history kept room = idle_reply set (state_of set history) kept room

-- whether an answer changes nothing: it is a refusal other than Blocked
abbrev pub IsRefusal : StepReply → Type 0
IsRefusal (reply.NoJob ended last) = Unit {0}
IsRefusal (reply.NotYet running) = Unit {0}
IsRefusal (reply.Undeclared item) = Unit {0}
IsRefusal (reply.TooEarly left) = Unit {0}
IsRefusal (reply.Unwritten item) = Unit {0}
IsRefusal (reply.Full room) = Unit {0}
IsRefusal (reply.Blocked by ceiling) = ⊥
IsRefusal (reply.Done outcome over) = ⊥

-- what holds where the answer is Blocked
abbrev pub IfBlocked : StepReply → Type 0 → Type 0
IfBlocked (reply.NoJob ended last) P = Unit {0}
IfBlocked (reply.NotYet running) P = Unit {0}
IfBlocked (reply.Undeclared item) P = Unit {0}
IfBlocked (reply.TooEarly left) P = Unit {0}
IfBlocked (reply.Unwritten item) P = Unit {0}
IfBlocked (reply.Full room) P = Unit {0}
IfBlocked (reply.Blocked by ceiling) P = P
IfBlocked (reply.Done outcome over) P = Unit {0}
