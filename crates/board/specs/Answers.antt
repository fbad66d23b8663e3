-- What each call of a board answers, as a total function of the set, the state, the number of kept entries, and the room.
use Rattle.std.specs.Prelude.{◌≡◌, ℕ, ◌-◌, ◌==◌, max, nat_lt, nat_le, Bool, true, not, ◌&&◌, if◌then◌else◌, List, length, Option, None, Some, is_some, Result, Ok, Err}
use Rattle.std.specs.List.{find, filter, fold}
use Rattle.rt_base.specs.declared.ids.ItemId.{ItemId}
use Rattle.txn_set.specs.declared.decl.TxnDecl.{TxnDecl}
use Rattle.rt_base.specs.declared.ids.JobId.{JobId}
use Rattle.rt_base.specs.declared.operation.Op.{Op}
use Rattle.rt_base.specs.declared.operation.Op.TheVariants.{Read, Write, Commit}
use Rattle.rt_base.specs.declared.operation.Outcome.{Outcome}
use Rattle.rt_base.specs.declared.operation.End.{End}
use Rattle.rt_base.specs.declared.release.PlanRefused.{PlanRefused}
use Rattle.rt_base.specs.declared.release.PlanRefused.TheVariants as refused
use Rattle.rt_base.specs.Planning.{calendar_refusal}
use Rattle.board.specs.declared.replies.StepReply.{StepReply}
use Rattle.board.specs.declared.replies.StepReply.TheVariants as reply
use Rattle.board.specs.declared.replies.IdleReply.{IdleReply}
use Rattle.board.specs.declared.replies.IdleReply.TheVariants as idle
use Rattle.txn_set.specs.Set.{Set, txn_of, may_read, may_write}
use Rattle.item_model.specs.Kinds.{is_dated}
use Rattle.item_model.specs.Work.{Work, has_written, outcome_of}
use Rattle.step_journal.specs.State.{State, Row, same_job}
use Rattle.step_journal.specs.declared.entry.EndedJob.{EndedJob}
use Rattle.step_journal.specs.LockRule.{Above}
use Rattle.step_journal.specs.Running.{running, job_row}
use Rattle.step_journal.specs.Step.{plans_of, earliest, next_job, may_ask, lock_refusal, with_step, end_of, next_tick}

-- Plan

-- how many releases may be planned and not take place yet
abbrev pub most_planned : ℕ
most_planned = 65536

abbrev pub unless_refused : Option PlanRefused → Result JobId PlanRefused → Result JobId PlanRefused
unless_refused None rest = rest
unless_refused (Some e) rest = Err e

-- The calendar's refusals in their order, then Full, and else the job.
abbrev pub plan_judged : (tick now earliest waiting kept room : ℕ) → JobId → Result JobId PlanRefused
plan_judged tick now earliest waiting kept room job =
    unless_refused
    (calendar_refusal tick now earliest waiting most_planned job.serial)
    (if nat_le room kept then Err (refused.Full room) else Ok job)

abbrev pub plan_reply : Set → State → ℕ → ℕ → ℕ → ℕ → Result JobId PlanRefused
plan_reply set s kept room tx tick =
    plan_judged tick s.now (earliest set tx (plans_of s tx)) (length s.planned) kept room (next_job s tx)

-- the tick for which plan_next plans: the present one, or a period after the last planned one if that is later
abbrev pub next_tick_for : Set → State → ℕ → ℕ
next_tick_for set s tx = max s.now (earliest set tx (plans_of s tx))

abbrev pub at_tick : ℕ → Result JobId PlanRefused → Result (JobId × ℕ) PlanRefused
at_tick tick (Ok job) = Ok (job, tick)
at_tick tick (Err e) = Err e

abbrev pub plan_next_reply : Set → State → ℕ → ℕ → ℕ → Result (JobId × ℕ) PlanRefused
plan_next_reply set s kept room tx =
    at_tick (next_tick_for set s tx) (plan_reply set s kept room tx (next_tick_for set s tx))

-- Step

-- the ended jobs of a transaction: how many they are, and how the latest ended
abbrev pub ended_jobs : List EndedJob → ℕ → List EndedJob
ended_jobs ended tx = filter (λ e. e.job.tx.0 == tx) ended

abbrev pub ended_number : List EndedJob → ℕ → ℕ
ended_number ended tx = length (ended_jobs ended tx)

abbrev pub last_end : List EndedJob → ℕ → Option End
last_end ended tx = fold (λ o e. Some e.end) None (ended_jobs ended tx)

-- the first declared write that a commit misses
abbrev pub is_missed : Set → Work → ItemId → Bool
is_missed set work item = is_dated set.items item.0 && not (has_written work item.0)

abbrev pub unwritten : Set → List ItemId → Work → Option ItemId
unwritten set writes work = find (is_missed set work) writes

abbrev pub early_or : TxnDecl → Row → StepReply → StepReply
early_or txn row rest = if nat_lt row.used txn.quiet then reply.TooEarly (txn.quiet - row.used) else rest

abbrev pub unwritten_or : Option ItemId → StepReply → StepReply
unwritten_or None rest = rest
unwritten_or (Some item) rest = reply.Unwritten item

-- the refusal that the operation meets, and else the rest
abbrev pub checked : Set → Row → Op → StepReply → StepReply
checked set row (Read item) rest =
    if may_read (txn_of set row.job.tx.0) item.0
    then early_or (txn_of set row.job.tx.0) row rest
    else reply.Undeclared item
checked set row (Write item value) rest =
    if may_write (txn_of set row.job.tx.0) item.0
    then early_or (txn_of set row.job.tx.0) row rest
    else reply.Undeclared item
checked set row Commit rest = unwritten_or (unwritten set (txn_of set row.job.tx.0).writes row.work) rest
checked set row other rest = rest

abbrev pub lock_reply : Set → State → Row → Op → Option Above → StepReply
lock_reply set s row op None = reply.Done (outcome_of s.items row.work op) (end_of (with_step set s row op) row.job)
lock_reply set s row op (Some above) = reply.Blocked above.holder above.ceiling

abbrev pub asked_reply : Set → State → ℕ → ℕ → Op → Row → StepReply
asked_reply set s kept room op row =
    checked set row op
    (if nat_le room kept then reply.Full room else lock_reply set s row op (lock_refusal set s row op))

-- where a job is pending there is a running one, so the last case does not come
abbrev pub running_reply : Set → State → ℕ → ℕ → JobId → Op → Option Row → StepReply
running_reply set s kept room job op (Some row) =
    if same_job row.job job then asked_reply set s kept room op row else reply.NotYet row.job
running_reply set s kept room job op None = reply.NotYet job

abbrev pub step_reply : Set → State → ℕ → ℕ → JobId → Op → StepReply
step_reply set s kept room job op =
    if is_some (job_row s.rows job)
    then running_reply set s kept room job op (running set s.rows)
    else reply.NoJob (ended_number s.ended job.tx.0) (last_end s.ended job.tx.0)

-- what the job is told by an answer
abbrev pub told_by : StepReply → Option Outcome
told_by (reply.Done outcome over) = Some outcome
told_by other = None

-- the running job asks for an operation that it may ask for: declared, after the quiet steps, and with nothing left unwritten
pub record IsAsking (set : Set) (s : State) (job : JobId) (op : Op) : Type 0 where
  pub row : Row
  pub runs : running set s.rows ≡ Some row
  pub is : row.job ≡ job
  pub may : may_ask set row op ≡ true

-- Idle

abbrev pub full_or : ℕ → ℕ → IdleReply → IdleReply
full_or kept room rest = if nat_le room kept then idle.Full room else rest

abbrev pub waiting_reply : ℕ → ℕ → Option ℕ → IdleReply
waiting_reply kept room None = idle.Nothing
waiting_reply kept room (Some tick) = full_or kept room (idle.Advanced tick)

-- nothing is pending exactly where there is no running job
abbrev pub idle_reply_at : State → ℕ → ℕ → Option Row → IdleReply
idle_reply_at s kept room (Some row) = idle.NotIdle row.job
idle_reply_at s kept room None = waiting_reply kept room (next_tick s.planned)

abbrev pub idle_reply : Set → State → ℕ → ℕ → IdleReply
idle_reply set s kept room = idle_reply_at s kept room (running set s.rows)
