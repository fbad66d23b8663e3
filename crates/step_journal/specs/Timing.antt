-- Wait cycles, delay, fresh commits and steady histories.
use Rattle.std.specs.Prelude.{◌≡◌, ℕ, zero, suc, ◌+◌, ◌*◌, ◌<◌, ◌==◌, nat_lt, nat_le, false, ◌&&◌, if◌then◌else◌, List, [], ◌∷◌, Option, None, Some, IsTrue}
use Rattle.std.specs.List.{filter, filter_map, list_any, find, All}
use Rattle.std.specs.Option.{option_map, option_and_then}
use Rattle.rt_base.specs.declared.ids.JobId.{JobId}
use Rattle.rt_base.specs.declared.operation.Op.TheVariants.{Read}
use Rattle.rt_base.specs.declared.operation.Op.{Op}
use Rattle.rt_base.specs.declared.operation.Outcome.{Outcome}
use Rattle.rt_base.specs.declared.operation.Outcome.TheVariants.{Got}
use Rattle.rt_base.specs.declared.operation.End.{End}
use Rattle.rt_base.specs.declared.operation.End.TheVariants as end
use Rattle.step_journal.specs.declared.entry.Entry.{Entry}
use Rattle.step_journal.specs.declared.entry.Entry.TheVariants.{Planned, Step}
use Rattle.txn_set.specs.Set.{Set, txn_of}
use Rattle.item_model.specs.Kinds.{is_dated}
use Rattle.item_model.specs.Work.{is_expired, first_apart}
use Rattle.item_model.specs.declared.stored.OutsideRead.{OutsideRead}
use Rattle.step_journal.specs.State.{State, Row, same_job, prio_of}
use Rattle.step_journal.specs.declared.entry.EndedJob.{EndedJob}
use Rattle.step_journal.specs.Running.{job_row}
use Rattle.step_journal.specs.History.{state_of}

-- a pending job waits on another
abbrev pub WaitsOn : State → JobId → JobId → Type 0
WaitsOn s a b = option_and_then (λ r. r.waits_on) (job_row s.rows a) ≡ Some b

-- each waits on the next, and the last on this job
abbrev pub WaitAlong : State → JobId → List JobId → JobId → Type 0
WaitAlong s a [] last = WaitsOn s a last
WaitAlong s a (b ∷ rest) last = WaitsOn s a b × WaitAlong s b rest last

abbrev pub IsWaitCycle : State → List JobId → Type 0
IsWaitCycle s [] = ⊥
IsWaitCycle s (a ∷ rest) = WaitAlong s a rest a

-- from the release of a job to its end, or to now where it is pending
pub record Span : Type 0 where
  pub from : ℕ
  pub to : ℕ

abbrev pub pending_span : State → Option Row → Option Span
pending_span s None = None
pending_span s (Some row) = Some (record { from = row.release; to = s.now })

abbrev pub ended_span : Option EndedJob → Option Span → Option Span
ended_span (Some e) other = Some (record { from = e.release; to = e.tick })
ended_span None other = other

abbrev pub span_of : State → JobId → Option Span
span_of s job = ended_span (find (λ e. same_job e.job job) s.ended) (pending_span s (job_row s.rows job))

-- the job of a step entry at a tick of the span, where it is lower
abbrev pub delayer_in : Set → JobId → Span → Entry → Option JobId
delayer_in set job span (Step by op outcome over tick) =
    if nat_lt (prio_of set by) (prio_of set job) && nat_le span.from tick && nat_lt tick span.to then Some by else None
delayer_in set job span other = None

abbrev pub delayers_within : Set → List Entry → JobId → Option Span → List JobId
delayers_within set entries job None = []
delayers_within set entries job (Some span) = filter_map (delayer_in set job span) entries

-- the jobs of the steps that delay a job, one for each such step. Their number is the delay
abbrev pub delayers : Set → List Entry → JobId → List JobId
delayers set entries job = delayers_within set entries job (span_of (state_of set entries) job)

-- the outside reads of a job by its entries

abbrev pub outside_read : Op → Outcome → Option OutsideRead
outside_read (Read item) (Got value stamp) = option_map (λ s. record { item = item; stamp = s }) stamp
outside_read op outcome = None

abbrev pub read_in : JobId → Entry → Option OutsideRead
read_in job (Step by op outcome over tick) = if same_job by job then outside_read op outcome else None
read_in job other = None

abbrev pub outside_reads_of : List Entry → JobId → List OutsideRead
outside_reads_of entries job = filter_map (read_in job) entries

-- the values that a committed job read from outside are within their validity at its end
abbrev pub IsFresh : Set → List Entry → EndedJob → Type 0
IsFresh set entries e = e.end ≡ end.Committed → All (λ r. is_expired set.items e.tick r ≡ false) (outside_reads_of entries e.job)

-- a committed job's outside reads are together in each relative set
abbrev pub IsTogether : Set → List Entry → EndedJob → Type 0
IsTogether set entries e =
    e.end ≡ end.Committed → first_apart (record { reads = outside_reads_of entries e.job; writes = [] }) set.together ≡ None

-- n ticks, each a period after the one before
abbrev pub periodic : ℕ → ℕ → ℕ → List ℕ
periodic first period zero = []
periodic first period (suc n) = first ∷ periodic (first + period) period n

abbrev pub planned_tick_in : ℕ → Entry → Option ℕ
planned_tick_in tx (Planned by tick) = if by.0 == tx then Some tick else None
planned_tick_in tx other = None

-- the ticks up to now for which a transaction's jobs were planned
abbrev pub planned_ticks : List Entry → ℕ → ℕ → List ℕ
planned_ticks entries now tx = filter (λ t. nat_le t now) (filter_map (planned_tick_in tx) entries)

-- the ticks are exactly the offset and each period after it, up to now
abbrev pub IsPeriodic : ℕ → ℕ → ℕ → List ℕ → Type 0
IsPeriodic offset period now ticks =
    (n : ℕ) × (ticks ≡ periodic offset period n) × (now < offset + n * period)

abbrev pub GaveUp : End → Type 0
GaveUp end.Overrun = Unit {0}
GaveUp end.Quit = Unit {0}
GaveUp other = ⊥

pub record IsSteadyAt (set : Set) (entries : List Entry) (tx : ℕ) : Type 0 where
  pub periodic : IsPeriodic (txn_of set tx).offset (txn_of set tx).period (state_of set entries).now (planned_ticks entries (state_of set entries).now tx)
  pub ends : All (λ e. e.job.tx.0 ≡ tx → ¬ GaveUp e.end) (state_of set entries).ended

-- each updating transaction, those of derived items too, is released exactly at its offset and each period after it, and
-- neither quits nor uses up its steps without a commit
abbrev pub IsSteady : Set → List Entry → Type 0
IsSteady set entries =
    (tx : ℕ) → IsTrue (list_any (λ i. is_dated set.items i.0) (txn_of set tx).writes) → IsSteadyAt set entries tx
