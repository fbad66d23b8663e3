-- The tables of the pending rows, and that they agree with one another.
use Rattle.std.specs.Prelude.{◌≡◌, ◌⊎◌, ℕ, ◌+◌, ◌^◌, ◌<◌, ◌≤◌, true, false, ◌||◌, if◌then◌else◌, List, [], length, map, min, slice_index_or, Option, None, Some, is_some, MatchOption}
use Rattle.std.specs.List.{range_with_len}
use Rattle.std.specs.Option.{option_map}
use Rattle.rt_base.specs.declared.ids.JobId.{JobId}
use Rattle.rt_base.specs.declared.ids.TxId.{TxId}
use Rattle.rt_base.specs.declared.rank_set.RankSet.{RankSet}
use Rattle.rt_base.specs.Ranks.{has_rank}
use Rattle.ceiling_table.specs.declared.LockKind.{LockKind}
use Rattle.ceiling_table.specs.declared.LockKind.TheVariants as kind
use Rattle.ceiling_table.specs.Held.{Locks, lock_at, locked_at}
use Rattle.rt_base.specs.declared.operation.Op.{Op}
use Rattle.rt_base.specs.declared.operation.Op.TheVariants.{Read, Write}
use Rattle.inherit_prio.specs.Waits.{Waiting, IsOrder, on_of, tx_of}
use Rattle.dispatch_core.specs.Dispatch.{IsRunning}
use Rattle.strict_commit.specs.Jobs.{Job}
use Rattle.txn_set.specs.declared.decl.TxnDecl.{TxnDecl}
use Rattle.item_model.specs.Work.{Work, no_work, has_read, has_written, work_after}
use Rattle.item_model.specs.declared.stored.Stored.{Stored}
use Rattle.step_journal.specs.State.{Row, row_of}
use Rattle.core_tables.specs.declared.head.Head.{Head}
use Rattle.core_tables.specs.Rows.{Accesses}
use Rattle.core_tables.specs.Deadlines.{IsLeastDeadline}

abbrev pub no_job : Job
no_job = record { may_read = []; may_write = []; work = no_work }

abbrev pub head_at : List (Option Head) → ℕ → Option Head
head_at heads tx = slice_index_or heads tx None

-- the pending job of the transaction on which another waits
abbrev pub waited_job : List (Option Head) → Option TxId → Option JobId
waited_job heads None = None
waited_job heads (Some on) = option_map (λ h. h.job) (head_at heads on.0)

abbrev pub row_by : Option Head → Work → Option JobId → Option Row
row_by None work on = None
row_by (Some h) work on = Some (record { job = h.job; release = h.release; used = h.used; work = work; waits_on = on })

abbrev pub row_at : List (Option Head) → List Job → List (Option TxId) → ℕ → Option Row
row_at heads works on tx = row_by (head_at heads tx) (slice_index_or works tx no_job).work (waited_job heads (on_of on tx))

-- the rows that the tables stand for, by transaction
unfoldable pub rows_by : List (Option Head) → List Job → List (Option TxId) → List (Option Row)
rows_by heads works on = map (row_at heads works on) (range_with_len 0 (length heads))

abbrev pub access_of : Job → Accesses
access_of job = record { reads = job.may_read; writes = job.may_write }

-- the lock on an item that a job's work stands for
abbrev pub work_lock : Work → ℕ → LockKind
work_lock work item = if has_written work item then kind.Write else (if has_read work item then kind.Read else kind.Free)

abbrev pub row_lock : Option Row → ℕ → LockKind
row_lock None item = kind.Free
row_lock (Some row) item = work_lock row.work item

-- a transaction and the one on which it waits are pending, and the latter waits on nobody
pub record IsWait (rows : List (Option Row)) (on : List (Option TxId)) (tx : ℕ) (other : TxId) : Type 0 where
  pub waiter : is_some (row_of rows tx) ≡ true
  pub blocker : is_some (row_of rows other.0) ≡ true
  pub ends : on_of on other.0 ≡ None

-- the ranks are those of the transactions with a row
pub record AreRanks (rows : List (Option Row)) (order : List TxId) (ranks : RankSet) : Type 0 where
  pub within : (rank : ℕ) → rank < length rows → has_rank ranks rank ≡ is_some (row_of rows (tx_of order rank))
  pub beyond : (rank : ℕ) → length rows ≤ rank → has_rank ranks rank ≡ false

-- a tick that is the least deadline, and none where nothing is pending
abbrev pub IsLeast : List ℕ → List (Option Row) → Option ℕ → Type 0
IsLeast deadlines rows least = MatchOption least ((tx : ℕ) → row_of rows tx ≡ None) (IsLeastDeadline deadlines rows)

-- the tables agree with the rows
pub record Agree (rows : List (Option Row)) (held : Locks) (waiting : Waiting) (deadlines : List ℕ) (pending : RankSet) (soonest : Option ℕ) : Type 0 where
  pub few : length held.prios ≤ 64
  pub size : length rows ≡ length held.prios
  pub deadlines_size : length deadlines ≡ length held.prios
  pub prios : waiting.prios ≡ held.prios
  pub order : IsOrder held.prios waiting.order
  pub soon : (tx : ℕ) → slice_index_or deadlines tx 0 < 2 ^ 32
  pub early : (tx : ℕ) (row : Row) → row_of rows tx ≡ Some row → row.release < 2 ^ 63
  pub named : (tx : ℕ) (row : Row) → row_of rows tx ≡ Some row → row.job.tx.0 ≡ tx
  pub locks : (tx item : ℕ) → tx < length rows → item < length held.ceilings → lock_at held tx item ≡ row_lock (row_of rows tx) item
  pub touched : (tx item : ℕ) (row : Row) → row_of rows tx ≡ Some row → (has_read row.work item || has_written row.work item) ≡ true → item < length held.ceilings
  pub waits : (tx : ℕ) (other : TxId) → on_of waiting.on tx ≡ Some other → IsWait rows waiting.on tx other
  pub ranks : AreRanks rows waiting.order pending
  pub least : IsLeast deadlines rows soonest

-- nothing is pending, and no job runs
pub record NoneRuns (ranks : RankSet) (runs : Option JobId) : Type 0 where
  pub nobody : (rank : ℕ) → has_rank ranks rank ≡ false
  pub is : runs ≡ None

-- the job that runs is the pending one of the transaction that is dispatched
pub record OneRuns (heads : List (Option Head)) (waiting : Waiting) (ranks : RankSet) (runs : Option JobId) : Type 0 where
  pub tx : TxId
  pub dispatched : IsRunning ranks waiting tx
  pub is : runs ≡ option_map (λ h. h.job) (head_at heads tx.0)

abbrev pub IsRunningJob : List (Option Head) → Waiting → RankSet → Option JobId → Type 0
IsRunningJob heads waiting ranks runs = NoneRuns ranks runs ⊎ OneRuns heads waiting ranks runs

-- the tables of pending rows: what they keep to
pub record IsTable (heads : List (Option Head)) (works : List Job) (held : Locks) (waiting : Waiting) (deadlines : List ℕ) (ranks : RankSet) (least : Option ℕ) (runs : Option JobId) : Type 0 where
  pub heads_size : length heads ≡ length held.prios
  pub works_size : length works ≡ length held.prios
  pub agree : Agree (rows_by heads works waiting.on) held waiting deadlines ranks least
  pub running : IsRunningJob heads waiting ranks runs

-- nothing read and nothing written by a job of a transaction
abbrev pub opening_job : TxnDecl → Job
opening_job txn = record { may_read = txn.reads; may_write = txn.writes; work = no_work }

-- what the loops over ranks keep to: each of these is the rank of a pending transaction
abbrev pub head_with : List (Option Head) → List TxId → ℕ → Option Head
head_with heads order rank = head_at heads (tx_of order rank)

abbrev pub head_deadline : List ℕ → ℕ → Head → ℕ
head_deadline deadlines tx head = head.release + slice_index_or deadlines tx 0

-- the ranks are those of the transactions with a pending job
pub record AreHeadRanks (heads : List (Option Head)) (order : List TxId) (ranks : RankSet) : Type 0 where
  pub within : (rank : ℕ) → rank < length heads → has_rank ranks rank ≡ is_some (head_with heads order rank)
  pub beyond : (rank : ℕ) → length heads ≤ rank → has_rank ranks rank ≡ false

-- the job of a rank, and its deadline
pub record HasDeadline (heads : List (Option Head)) (deadlines : List ℕ) (order : List TxId) (rank : ℕ) (head : Head) (tick : ℕ) : Type 0 where
  pub within : rank < length heads
  pub here : head_with heads order rank ≡ Some head
  pub is : head_deadline deadlines (tx_of order rank) head ≡ tick

-- no job of the rank is due at a tick
abbrev pub NotDue : List (Option Head) → List ℕ → List TxId → ℕ → ℕ → Type 0
NotDue heads deadlines order tick rank = (head : Head) → ¬ HasDeadline heads deadlines order rank head tick

-- the first job in falling priority that is due at a tick
pub record IsFirstDue (heads : List (Option Head)) (deadlines : List ℕ) (order : List TxId) (tick : ℕ) (job : JobId) : Type 0 where
  pub rank : ℕ
  pub head : Head
  pub at : HasDeadline heads deadlines order rank head tick
  pub is : head.job ≡ job
  pub first : (other : ℕ) → other < rank → NotDue heads deadlines order tick other

-- the least deadline of the jobs whose ranks are not among these
pub record IsLeastOutside (heads : List (Option Head)) (deadlines : List ℕ) (order : List TxId) (left : RankSet) (tick : ℕ) : Type 0 where
  pub rank : ℕ
  pub head : Head
  pub at : HasDeadline heads deadlines order rank head tick
  pub least : (other : ℕ) (h : Head) (t : ℕ) → has_rank left other ≡ false → HasDeadline heads deadlines order other h t → tick ≤ t

-- it, where there is a job outside
abbrev pub IsLeastPassed : List (Option Head) → List ℕ → List TxId → RankSet → Option ℕ → Type 0
IsLeastPassed heads deadlines order left least =
    MatchOption least ((rank : ℕ) → rank < length heads → has_rank left rank ≡ false → head_with heads order rank ≡ None) (IsLeastOutside heads deadlines order left)

-- the least deadline of all heads
pub record IsLeastOfHeads (heads : List (Option Head)) (deadlines : List ℕ) (order : List TxId) (tick : ℕ) : Type 0 where
  pub rank : ℕ
  pub head : Head
  pub at : HasDeadline heads deadlines order rank head tick
  pub least : (other : ℕ) (h : Head) (t : ℕ) → HasDeadline heads deadlines order other h t → tick ≤ t

abbrev pub earlier_of : ℕ → Option ℕ → ℕ
earlier_of tick None = tick
earlier_of tick (Some other) = min tick other

-- the locks after a granted operation, and the work after it
abbrev pub op_locked_at : Locks → ℕ → Op → ℕ → ℕ → LockKind
op_locked_at held tx (Read item) t i = locked_at held tx item.0 false t i
op_locked_at held tx (Write item value) t i = locked_at held tx item.0 true t i
op_locked_at held tx other t i = lock_at held t i

abbrev pub job_after : List Stored → Op → Job → Job
job_after items op job = record job { work = work_after items job.work op }
