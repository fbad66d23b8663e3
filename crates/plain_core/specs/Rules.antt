-- The running job as the code finds it: by heads, which are rows without their work.
use Rattle.std.specs.Prelude.{ℕ, zero, suc, nat_lt, if◌then◌else◌, List, [], ◌∷◌, length, Option, None, Some}
use Rattle.std.specs.Option.{option_map, option_and_then}
use Rattle.txn_set.specs.declared.decl.TxnDecl.{TxnDecl}
use Rattle.rt_base.specs.declared.ids.JobId.{JobId}
use Rattle.step_journal.specs.State.{Row}
use Rattle.step_journal.specs.Running.{job_row}
use Rattle.plain_core.specs.declared.slot.Head.{Head}
use Rattle.plain_core.specs.Slots.{head_of}
use Rattle.plain_core.specs.Prios.{prio_by}
use Rattle.plain_core.specs.Seen.{PlainIs}
use Rattle.step_journal.specs.Step.{next_tick}
use Rattle.board.specs.declared.replies.IdleReply.{IdleReply}
use Rattle.board.specs.declared.replies.IdleReply.TheVariants as idle
use Rattle.board.specs.Answers.{waiting_reply}

abbrev pub higher_by : List TxnDecl → Option Head → Option Head → Option Head
higher_by txns None best = best
higher_by txns (Some h) None = Some h
higher_by txns (Some h) (Some b) = if nat_lt (prio_by txns b.job) (prio_by txns h.job) then Some h else Some b

abbrev pub highest_by : List TxnDecl → List (Option Row) → Option Head
highest_by txns [] = None
highest_by txns (row ∷ rows) = higher_by txns (option_map head_of row) (highest_by txns rows)

abbrev pub followed_by : List (Option Row) → ℕ → Head → Option JobId → Option Head
followed_by rows n h None = Some h
followed_by rows zero h (Some on) = None
followed_by rows (suc n) h (Some on) = option_and_then (λ r. followed_by rows n (head_of r) r.waits_on) (job_row rows on)

abbrev pub running_by : List TxnDecl → List (Option Row) → Option JobId
running_by txns rows = option_map (λ h. h.job) (option_and_then (λ h. followed_by rows (length rows) h h.waits_on) (highest_by txns rows))

-- the answer to idle, by the running job and the next planned tick
abbrev pub idle_by : ℕ → ℕ → Option ℕ → Option JobId → IdleReply
idle_by kept room next (Some job) = idle.NotIdle job
idle_by kept room next None = waiting_reply kept room next

abbrev pub idle_of : PlainIs → IdleReply
idle_of core = idle_by (length core.journal.kept) core.journal.room (next_tick core.tables.state.planned) (running_by core.set.txns core.tables.state.rows)
