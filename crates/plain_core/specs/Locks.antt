-- Ceilings and refusals as the code finds them, over the slots.
use Rattle.std.specs.Prelude.{ℕ, max, ◌==◌, nat_lt, not, ◌||◌, if◌then◌else◌, List, [], ◌∷◌, map, Option, None, Some}
use Rattle.std.specs.List.{filter}
use Rattle.rt_base.specs.LockRule.{upper}
use Rattle.rt_base.specs.declared.ids.JobId.{JobId}
use Rattle.item_model.specs.declared.stored.OutsideRead.{OutsideRead}
use Rattle.item_model.specs.declared.stored.OwnWrite.{OwnWrite}
use Rattle.item_model.specs.Work.{Work, has_written}
use Rattle.txn_set.specs.declared.decl.TxnDecl.{TxnDecl}
use Rattle.txn_set.specs.Set.{may_read, may_write}
use Rattle.txn_set.specs.Ceilings.{greatest, prios}
use Rattle.step_journal.specs.State.{Row}
use Rattle.board.specs.declared.replies.StepReply.{StepReply}
use Rattle.board.specs.declared.replies.StepReply.TheVariants as reply
use Rattle.plain_core.specs.declared.locks.Rival.{Rival}
use Rattle.plain_core.specs.Prios.{prio_by}

abbrev pub write_by : List TxnDecl → ℕ → ℕ
write_by txns item = greatest (prios (filter (λ t. may_write t item) txns))

abbrev pub absolute_by : List TxnDecl → ℕ → ℕ
absolute_by txns item = greatest (prios (filter (λ t. may_read t item || may_write t item) txns))

-- the greatest ceiling of these writes, and of these reads that were not written
abbrev pub writes_by : List TxnDecl → List OwnWrite → ℕ
writes_by txns writes = greatest (map (λ w. absolute_by txns w.item.0) writes)

abbrev pub reads_by : List TxnDecl → Work → List OutsideRead → ℕ
reads_by txns work reads =
    greatest (map (λ r. write_by txns r.item.0) (filter (λ r. not (has_written work r.item.0)) reads))

abbrev pub ceiling_by : List TxnDecl → Work → ℕ
ceiling_by txns work = max (writes_by txns work.writes) (reads_by txns work work.reads)

-- the job of a slot as a rival for a lock, where it is another transaction's
abbrev pub rival_by : List TxnDecl → ℕ → Option Row → Option Rival
rival_by txns tx None = None
rival_by txns tx (Some row) =
    if row.job.tx.0 == tx
    then None
    else Some (record { job = row.job; prio = prio_by txns row.job; ceiling = ceiling_by txns row.work })

abbrev pub upper_by : Option Rival → Option Rival → Option Rival
upper_by None best = best
upper_by (Some a) best = Some (upper (λ r. r.prio) (λ r. r.ceiling) a best)

-- the rival with the greatest ceiling, and among those with it the one with the highest priority
abbrev pub topmost_by : List TxnDecl → ℕ → List (Option Row) → Option Rival
topmost_by txns tx [] = None
topmost_by txns tx (row ∷ rows) = upper_by (rival_by txns tx row) (topmost_by txns tx rows)

abbrev pub blocked_or : ℕ → Option Rival → StepReply → StepReply
blocked_or own None rest = rest
blocked_or own (Some a) rest = if nat_lt a.ceiling own then rest else reply.Blocked a.job a.ceiling

-- the refusal of a new lock, and else the rest
abbrev pub refused_by : List TxnDecl → List (Option Row) → JobId → StepReply → StepReply
refused_by txns rows job rest = blocked_or (prio_by txns job) (topmost_by txns job.tx.0 rows) rest
