-- The marks of the lanes of items with a validity: how old the value was that stood, and which commits had read it; and the
-- marks of the bounds of jobs.
use Rattle.std.specs.Prelude.{ℕ, zero, suc, ◌+◌, ◌==◌, Bool, true, false, if◌then◌else◌, List, [], ◌∷◌, ◌++◌, length, Option, None, Some, slice_get}
use Rattle.std.specs.List.{find, filter_map}
use Rattle.std.specs.Option.{option_to_list, option_map, option_and_then}
use Rattle.rt_base.specs.declared.ids.JobId.{JobId}
use Rattle.rt_base.specs.declared.operation.End.{End}
use Rattle.rt_base.specs.declared.operation.End.TheVariants as end
use Rattle.item_model.specs.Kinds.{is_dated}
use Rattle.item_model.specs.Work.{of_reads, stamp_for}
use Rattle.item_model.specs.declared.stored.OutsideRead.{OutsideRead}
use Rattle.txn_set.specs.Set.{Set, txn_of, may_write}
use Rattle.step_journal.specs.Timing.{outside_reads_of}
use Rattle.step_journal.specs.declared.entry.Entry.{Entry}
use Rattle.job_rows.specs.declared.row.JobRow.{JobRow}
use Rattle.schedule_marks.specs.declared.part.Part.{Part}
use Rattle.schedule_marks.specs.declared.lanes.AgeSpan.{AgeSpan}
use Rattle.schedule_marks.specs.declared.lanes.AgeRead.{AgeRead}
use Rattle.schedule_marks.specs.declared.lanes.Bound.{Bound}
use Rattle.schedule_marks.specs.Parts.{has_instant, meets}
use Rattle.schedule_marks.specs.Marks.{last_instant}

-- ---- commits

abbrev pub commits : End → Bool
commits end.Committed = true
commits e = false

-- the instant at which a job committed
abbrev pub commit_tick : Option (End × ℕ) → Option ℕ
commit_tick None = None
commit_tick (Some e) = if commits e.0 then Some e.1 else None

-- The instant at which a job gave an item a value: that of its commit, if it may write the item, since a committed job wrote
-- each sensor and derived item that it may write.
abbrev pub install_tick : Set → ℕ → JobRow → Option ℕ
install_tick set item row = if may_write (txn_of set row.job.tx.0) item then commit_tick row.end else None

-- ---- the values that stood

-- the stamp that a job gives an item, by what it read from outside
abbrev pub stamp_by : Set → List Entry → ℕ → JobRow → ℕ
stamp_by set entries item row = stamp_for set.items (of_reads (outside_reads_of entries row.job)) row.release item

-- the value of a job's, or the one at the start
abbrev pub stamp_of : Set → List Entry → ℕ → Option JobRow → ℕ
stamp_of set entries item None = 0
stamp_of set entries item (Some row) = stamp_by set entries item row

abbrev pub or_start : Option ℕ → ℕ
or_start None = 0
or_start (Some tick) = tick

-- from which instant on it stood
abbrev pub start_of : Option JobRow → ℕ
start_of None = 0
start_of (Some row) = or_start (commit_tick row.end)

abbrev pub age_span : Part → ℕ → ℕ → ℕ → ℕ → Option AgeSpan
age_span part item stamp from to =
    if meets part from to then Some (record { item = record { 0 = item }; stamp = stamp; from = from; to = to }) else None

-- how long the value of this job stood, if in the part
abbrev pub age_until : Set → Part → List Entry → ℕ → Option JobRow → ℕ → Option AgeSpan
age_until set part entries item by to = age_span part item (stamp_of set entries item by) (start_of by) to

abbrev pub spans_at : Option ℕ → (ℕ → List AgeSpan) → List AgeSpan → List AgeSpan
spans_at None f other = other
spans_at (Some tick) f other = f tick

-- the values that an item had, one after another, from that of one job on, by the rows of the jobs in order of ending
abbrev pub spans_from : Set → Part → ℕ → List Entry → ℕ → Option JobRow → List JobRow → List AgeSpan
spans_from set part stop entries item by [] = option_to_list (age_until set part entries item by stop)
spans_from set part stop entries item by (row ∷ rows) =
    spans_at (install_tick set item row)
    (λ tick. option_to_list (age_until set part entries item by tick) ++ spans_from set part stop entries item (Some row) rows)
    (spans_from set part stop entries item by rows)

-- the lists of the sensor and derived items below a place, one after another
abbrev pub dated_below : {A : Type 0} → Set → (ℕ → List A) → ℕ → List A
dated_below set f zero = []
dated_below set f (suc n) = dated_below set f n ++ (if is_dated set.items n then f n else [])

abbrev pub age_spans_to : Set → Part → ℕ → List JobRow → List Entry → List AgeSpan
age_spans_to set part stop rows entries =
    dated_below set (λ item. spans_from set part stop entries item None rows) (length set.items)

-- For each sensor and derived item the values that it had in the part, each with its stamp and the ticks for which it stood: the
-- one at the start, of stamp 0, and then that of each job that committed and may write the item.
abbrev pub age_spans_of : Set → Part → List JobRow → List Entry → List AgeSpan
age_spans_of set part rows entries = age_spans_to set part (last_instant part.to entries) rows entries

-- ---- commits that had read the value

abbrev pub read_mark : JobId → ℕ → OutsideRead → AgeRead
read_mark job tick read = record { item = read.item; job = job; stamp = read.stamp; tick = tick }

-- what a job read of an item from outside
abbrev pub read_of_item : List Entry → JobId → ℕ → Option OutsideRead
read_of_item entries job item = find (λ r. r.item.0 == item) (outside_reads_of entries job)

abbrev pub read_at : Part → List Entry → ℕ → JobId → Option ℕ → Option AgeRead
read_at part entries item job None = None
read_at part entries item job (Some tick) =
    if has_instant part tick then option_map (read_mark job tick) (read_of_item entries job item) else None

-- the mark of a job that committed in the part and had read the item
abbrev pub read_in_part : Part → List Entry → ℕ → JobRow → Option AgeRead
read_in_part part entries item row = read_at part entries item row.job (commit_tick row.end)

-- for each sensor and derived item the commits in the part of jobs that had read it, each with the stamp that was read
abbrev pub age_reads_of : Set → Part → List JobRow → List Entry → List AgeRead
age_reads_of set part rows entries =
    dated_below set (λ item. filter_map (read_in_part part entries item) rows) (length set.items)

-- ---- the bounds of jobs

abbrev pub bound_at : Part → JobId → ℕ → Option Bound
bound_at part job tick = if has_instant part tick then Some (record { job = job; tick = tick }) else None

abbrev pub bound_in : Part → List ℕ → JobRow → Option Bound
bound_in part responses row =
    option_and_then (λ response. bound_at part row.job (row.release + response)) (slice_get responses row.job.tx.0)

-- Of each job the instant at which it has ended at the latest: its release, and the response of its transaction. None of a
-- transaction without a response among these.
abbrev pub bounds_of : Part → List ℕ → List JobRow → List Bound
bounds_of part responses rows = filter_map (bound_in part responses) rows
