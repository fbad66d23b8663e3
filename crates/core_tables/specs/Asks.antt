-- The refusal that an operation meets, as the code finds it.
use Rattle.std.specs.Prelude.{ℕ, nat_le, Bool, false, if◌then◌else◌, Option, None, Some, is_some}
use Rattle.std.specs.Option.{option_map}
use Rattle.rt_base.specs.declared.ids.JobId.{JobId}
use Rattle.rt_base.specs.declared.operation.Op.{Op}
use Rattle.txn_set.specs.Set.{Set}
use Rattle.step_journal.specs.State.{State, Row, same_job}
use Rattle.step_journal.specs.LockRule.{Above}
use Rattle.step_journal.specs.Running.{running, job_row}
use Rattle.step_journal.specs.Step.{lock_refusal}
use Rattle.board.specs.declared.replies.StepReply.{StepReply}
use Rattle.board.specs.declared.replies.StepReply.TheVariants as reply
use Rattle.board.specs.declared.replies.IdleReply.{IdleReply}
use Rattle.board.specs.declared.replies.IdleReply.TheVariants as idle
use Rattle.board.specs.Answers.{ended_number, last_end, waiting_reply}
use Rattle.core_tables.specs.Changes.{denied}

abbrev pub first_of : Option StepReply → Option StepReply → Option StepReply
first_of (Some reply) rest = Some reply
first_of None rest = rest

abbrev pub blocked_by : Above → StepReply
blocked_by above = reply.Blocked above.holder above.ceiling

-- of the running job: denied, then Full, then Blocked
abbrev pub asked_by : Set → State → (kept room : ℕ) → Op → Row → Option StepReply
asked_by set s kept room op row =
    first_of (denied set row op) (if nat_le room kept then Some (reply.Full room) else option_map blocked_by (lock_refusal set s row op))

abbrev pub turned_by : Set → State → (kept room : ℕ) → JobId → Op → Option Row → Option StepReply
turned_by set s kept room job op None = Some (reply.NotYet job)
turned_by set s kept room job op (Some row) =
    if same_job row.job job then asked_by set s kept room op row else Some (reply.NotYet row.job)

-- whether this job is the running one
abbrev pub runs_now : Option JobId → JobId → Bool
runs_now None job = false
runs_now (Some running) job = same_job running job

abbrev pub waiting_for : JobId → Option JobId → StepReply
waiting_for job None = reply.NotYet job
waiting_for job (Some running) = reply.NotYet running

-- of a job that does not run, by the running job
abbrev pub waits_by : State → JobId → Option JobId → StepReply
waits_by s job running =
    if is_some (job_row s.rows job) then waiting_for job running else reply.NoJob (ended_number s.ended job.tx.0) (last_end s.ended job.tx.0)

abbrev pub refused_by : Set → State → (kept room : ℕ) → JobId → Op → Option StepReply
refused_by set s kept room job op =
    if is_some (job_row s.rows job)
    then turned_by set s kept room job op (running set s.rows)
    else Some (reply.NoJob (ended_number s.ended job.tx.0) (last_end s.ended job.tx.0))

-- the answer to idle, by the running job and the least planned tick
abbrev pub idle_by : (kept room : ℕ) → Option ℕ → Option JobId → IdleReply
idle_by kept room next (Some job) = idle.NotIdle job
idle_by kept room next None = waiting_reply kept room next
