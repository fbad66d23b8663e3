-- The span of a job, by the entries alone.
use Rattle.std.specs.Prelude.{◌≡◌, true, ℕ, ◌+◌, ◌<◌, ◌^◌, ◌&&◌, if◌then◌else◌, List, [], ◌∷◌, Option, None, Some, is_some, slice_index_or}
use Rattle.std.specs.List.{filter_map}
use Rattle.rt_base.specs.declared.ids.JobId.{JobId}
use Rattle.txn_set.specs.Set.{Set}
use Rattle.step_journal.specs.declared.entry.Entry.{Entry}
use Rattle.step_journal.specs.declared.entry.Entry.TheVariants.{Step}
use Rattle.step_journal.specs.State.{same_job}
use Rattle.step_journal.specs.History.{state_of}
use Rattle.step_journal.specs.Timing.{span_of, planned_tick_in, delayer_in}
use Rattle.job_rows.specs.declared.row.Delay.{Delay}
use Rattle.job_rows.specs.Rows.{delay_by}

-- the job was released in the history: it ended, or it is pending
abbrev pub WasReleased : Set → List Entry → JobId → Type 0
WasReleased set entries job = is_some (span_of (state_of set entries) job) ≡ true

-- the ticks for which the jobs of a transaction were planned, by serial
abbrev pub ticks_of : List Entry → ℕ → List ℕ
ticks_of entries tx = filter_map (planned_tick_in tx) entries

abbrev pub release_in : List Entry → JobId → ℕ
release_in entries job = slice_index_or (ticks_of entries job.tx.0) job.serial 0

-- the tick at which a step of the job ended it
abbrev pub ends_at : JobId → Entry → Option ℕ
ends_at job (Step by op outcome over tick) = if same_job by job && is_some over then Some (tick + 1) else None
ends_at job other = None

abbrev pub ends_of : List Entry → JobId → List ℕ
ends_of entries job = filter_map (ends_at job) entries

-- the tick at which a step of the job ended it, or else its deadline
abbrev pub end_in : List Entry → JobId → ℕ → ℕ
end_in entries job deadline = slice_index_or (ends_of entries job) 0 deadline

-- the delay by the steps of lower jobs from one tick up to another
abbrev pub delay_between : Set → List Entry → JobId → ℕ → ℕ → Delay
delay_between set entries job from to = delay_by (filter_map (delayer_in set job (record { from = from; to = to })) entries)

-- the ticks of the steps are small
abbrev pub is_early : Entry → Type 0
is_early (Step by op outcome over tick) = tick < 2 ^ 63
is_early other = Unit {0}

abbrev pub AreEarly : List Entry → Type 0
AreEarly [] = Unit {0}
AreEarly (e ∷ es) = is_early e × AreEarly es

-- the first of two, if any
abbrev pub or_first : Option JobId → Option JobId → Option JobId
or_first None other = other
or_first (Some first) other = Some first
