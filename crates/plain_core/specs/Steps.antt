-- The answer to step as the code finds it.
use Rattle.std.specs.Prelude.{ℕ, nat_le, if◌then◌else◌, length, List, Option, None, Some, is_some, slice_index_or}
use Rattle.txn_set.specs.declared.decl.TxnDecl.{TxnDecl}
use Rattle.rt_base.specs.declared.ids.JobId.{JobId}
use Rattle.rt_base.specs.declared.operation.Op.{Op}
use Rattle.txn_set.specs.Set.{Set, no_txn}
use Rattle.step_journal.specs.State.{Row, row_of, same_job}
use Rattle.step_journal.specs.LockRule.{needs_lock}
use Rattle.step_journal.specs.Running.{job_row}
use Rattle.board.specs.declared.replies.StepReply.{StepReply}
use Rattle.board.specs.declared.replies.StepReply.TheVariants as reply
use Rattle.plain_core.specs.Slots.{head_of}
use Rattle.plain_core.specs.TablesSeen.{TablesSeen, tally_of}
use Rattle.plain_core.specs.Seen.{PlainIs}
use Rattle.plain_core.specs.Rules.{running_by}
use Rattle.plain_core.specs.Checks.{checked_by}
use Rattle.plain_core.specs.Locks.{refused_by}
use Rattle.plain_core.specs.Grants.{granted_by}

abbrev pub locked_by : List TxnDecl → List (Option Row) → Row → Op → StepReply → StepReply
locked_by txns rows row op granted = if needs_lock row.work op then refused_by txns rows row.job granted else granted

-- where the job is pending it has a row, so the first case does not come
abbrev pub ask_by : Set → TxnDecl → TablesSeen → ℕ → ℕ → JobId → Op → Option Row → StepReply
ask_by set txn t kept room job op None = reply.NotYet job
ask_by set txn t kept room job op (Some row) =
    checked_by set txn row.used row.work op
    (if nat_le room kept
    then reply.Full room
    else locked_by set.txns t.state.rows row op (granted_by set txn t.state.items t.state.now (head_of row) row.work op))

abbrev pub turn_by : Set → TablesSeen → ℕ → ℕ → JobId → Op → Option JobId → StepReply
turn_by set t kept room job op None = reply.NotYet job
turn_by set t kept room job op (Some r) =
    if same_job r job
    then ask_by set (slice_index_or set.txns job.tx.0 no_txn) t kept room job op (row_of t.state.rows job.tx.0)
    else reply.NotYet r

abbrev pub step_by : PlainIs → JobId → Op → StepReply
step_by core job op =
    if is_some (job_row core.tables.state.rows job)
    then turn_by core.set core.tables (length core.journal.kept) core.journal.room job op (running_by core.set.txns core.tables.state.rows)
    else reply.NoJob (tally_of core.tables.tallies job.tx.0).number (tally_of core.tables.tallies job.tx.0).last
