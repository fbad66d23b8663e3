-- The marks of a history in the part that is looked at.
use Rattle.std.specs.Prelude.{ℕ, zero, suc, ◌+◌, ◌-◌, min, ◌==◌, Bool, true, false, not, nat_lt, nat_le, ◌&&◌, ◌||◌, if◌then◌else◌, List, [], ◌∷◌, ◌++◌, length, map, Option, None, Some}
use Rattle.std.specs.List.{filter_map, cons_option, list_any, fold}
use Rattle.rt_base.specs.declared.ids.ItemId.{ItemId}
use Rattle.rt_base.specs.declared.ids.JobId.{JobId}
use Rattle.rt_base.specs.declared.operation.Op.{Op}
use Rattle.rt_base.specs.declared.operation.Op.TheVariants.{Read, Write}
use Rattle.rt_base.specs.declared.operation.Outcome.{Outcome}
use Rattle.rt_base.specs.declared.operation.Outcome.TheVariants.{Got}
use Rattle.rt_base.specs.declared.operation.End.{End}
use Rattle.txn_set.specs.Set.{Set, txn_of}
use Rattle.txn_set.specs.Ceilings.{greatest, write_ceiling, absolute_ceiling}
use Rattle.step_journal.specs.State.{same_job}
use Rattle.step_journal.specs.declared.entry.Entry.{Entry}
use Rattle.step_journal.specs.declared.entry.Entry.TheVariants.{Step, Blocked, Idle}
use Rattle.job_rows.specs.declared.row.JobRow.{JobRow}
use Rattle.schedule_marks.specs.declared.part.Part.{Part}
use Rattle.schedule_marks.specs.declared.mark.Mark.{Mark}
use Rattle.schedule_marks.specs.declared.mark.Mark.TheVariants as mark
use Rattle.schedule_marks.specs.Parts.{has_tick, has_instant, meets}

-- ---- ends

abbrev pub until_end : ℕ → Option (End × ℕ) → ℕ
until_end stop None = stop
until_end stop (Some e) = e.1

-- the tick at which a job ended, or where the picture stops
abbrev pub until : ℕ → JobRow → ℕ
until stop row = until_end stop row.end

-- the same of a job by its row, and 0 where it has none
abbrev pub until_of : ℕ → List JobRow → JobId → ℕ
until_of stop [] job = 0
until_of stop (row ∷ rows) job = if same_job row.job job then until stop row else until_of stop rows job

-- the present instant after an entry, or the end of the part if that is earlier
abbrev pub instant_to : ℕ → Entry → ℕ
instant_to to (Step job op outcome over tick) = min (tick + 1) to
instant_to to (Idle from tick) = min tick to
instant_to to e = 0

-- the last instant of a history, or the end of the part if that is earlier
abbrev pub last_instant : ℕ → List Entry → ℕ
last_instant to entries = greatest (map (instant_to to) entries)

-- ---- marks of rows

abbrev pub pending_in : Part → ℕ → JobRow → Option Mark
pending_in part stop row =
    if meets part row.release (until stop row) then Some (mark.Pending row.job row.release (until stop row)) else None

abbrev pub release_in : Part → JobRow → Option Mark
release_in part row = if has_instant part row.release then Some (mark.Release row.job row.release) else None

abbrev pub deadline_at : Part → JobId → ℕ → Option Mark
deadline_at part job tick = if has_instant part tick then Some (mark.Deadline job tick) else None

abbrev pub deadline_in : Set → Part → JobRow → Option Mark
deadline_in set part row = deadline_at part row.job (row.release + (txn_of set row.job.tx.0).deadline)

abbrev pub end_at : Part → JobId → Option (End × ℕ) → Option Mark
end_at part job None = None
end_at part job (Some e) = if has_instant part e.1 then Some (mark.Ended job e.0 e.1) else None

abbrev pub end_in : Part → JobRow → Option Mark
end_in part row = end_at part row.job row.end

-- ---- marks of entries

abbrev pub step_in : Part → Entry → Option Mark
step_in part (Step job op outcome over tick) = if has_tick part tick then Some (mark.Step job op tick) else None
step_in part e = None

abbrev pub refusal_in : Part → Entry → Option Mark
refusal_in part (Blocked job op by ceiling tick) = if has_tick part tick then Some (mark.Refusal job op by tick) else None
refusal_in part e = None

-- a refused job waits until the other ends, or itself
abbrev pub wait_mark : Part → JobId → JobId → ℕ → ℕ → Option Mark
wait_mark part job by from to = if meets part from to then Some (mark.Wait job by from to) else None

abbrev pub wait_in : Part → ℕ → List JobRow → Entry → Option Mark
wait_in part stop rows (Blocked job op by ceiling tick) =
    wait_mark part job by tick (min (until_of stop rows job) (until_of stop rows by))
wait_in part stop rows e = None

-- the ceiling of a lock, and 0 where the set has no such item
abbrev pub ceiling_in : Set → ItemId → Bool → ℕ
ceiling_in set item is_write =
    if nat_lt item.0 (length set.items) then (if is_write then absolute_ceiling set item.0 else write_ceiling set item.0) else 0

abbrev pub lock_mark : Set → Part → JobId → ItemId → Bool → ℕ → ℕ → Option Mark
lock_mark set part job item is_write from to =
    if meets part from to then Some (mark.Lock job item is_write (ceiling_in set item is_write) from to) else None

-- the lock that a step shows that its job holds: a write lock for a write, and a read lock for a read from outside
abbrev pub lock_by : Op → Outcome → Option (ItemId × Bool)
lock_by (Read item) (Got value (Some stamp)) = Some (item, false)
lock_by (Write item value) outcome = Some (item, true)
lock_by op outcome = None

-- a lock on the item: a write lock if one is asked for, and else any
abbrev pub is_lock_on : ItemId → Bool → Option (ItemId × Bool) → Bool
is_lock_on item is_write None = false
is_lock_on item is_write (Some l) = (l.0.0 == item.0) && (l.1 || not is_write)

-- whether an entry is a step of the job that shows a lock on the item: a write lock if one is asked for, and else any
abbrev pub shows_lock : JobId → ItemId → Bool → Entry → Bool
shows_lock job item is_write (Step by op outcome over tick) = same_job by job && is_lock_on item is_write (lock_by op outcome)
shows_lock job item is_write e = false

-- the tick of a job's write of an item, if that is earlier than this one
abbrev pub earlier_write : JobId → ItemId → ℕ → Entry → ℕ
earlier_write job item to (Step by op outcome over tick) =
    if shows_lock job item true (Step by op outcome over tick) then min tick to else to
earlier_write job item to e = to

-- the tick of the job's first write of an item among entries, or this one if that is earlier
abbrev pub until_write : JobId → ItemId → ℕ → List Entry → ℕ
until_write job item to entries = fold (earlier_write job item) to entries

-- A lock is held until its job ends; a read lock no longer than until the job writes the item, for a write lock takes its place.
abbrev pub lock_until : JobId → ItemId → Bool → ℕ → List Entry → ℕ
lock_until job item is_write to after = if is_write then to else until_write job item to after

-- the lock that a step takes, between the entries before it and those after it, if the job does not hold it already
abbrev pub lock_from : Set → Part → ℕ → List Entry → List Entry → JobId → ℕ → Option (ItemId × Bool) → Option Mark
lock_from set part to before after job tick None = None
lock_from set part to before after job tick (Some l) =
    if list_any (shows_lock job l.0 l.1) before
    then None
    else lock_mark set part job l.0 l.1 tick (lock_until job l.0 l.1 to after)

abbrev pub lock_in : Set → Part → ℕ → List JobRow → List Entry → List Entry → Entry → Option Mark
lock_in set part stop rows before after (Step job op outcome over tick) =
    lock_from set part (until_of stop rows job) before after job tick (lock_by op outcome)
lock_in set part stop rows before after e = None

-- the locks that entries take, one after another
abbrev pub locks_along : Set → Part → ℕ → List JobRow → List Entry → List Entry → List Mark
locks_along set part stop rows before [] = []
locks_along set part stop rows before (e ∷ es) =
    cons_option (lock_in set part stop rows before es e) (locks_along set part stop rows (before ++ e ∷ []) es)

-- ---- ceilings

-- the ceiling of a lock that is held in a tick, and 0 of every other mark
abbrev pub ceiling_by : ℕ → Mark → ℕ
ceiling_by tick (mark.Lock job item is_write ceiling from to) = if nat_le from tick && nat_lt tick to then ceiling else 0
ceiling_by tick m = 0

abbrev pub ceiling_at : List Mark → ℕ → Mark
ceiling_at locks tick = mark.Ceiling tick (greatest (map (ceiling_by tick) locks))

-- the ceilings of so many ticks from one on
abbrev pub ceilings_from : List Mark → ℕ → ℕ → List Mark
ceilings_from locks tick zero = []
ceilings_from locks tick (suc n) = ceiling_at locks tick ∷ ceilings_from locks (tick + 1) n

-- ---- the whole

-- the rows of the jobs that were pending in the part or at one of its ends
abbrev pub present_in : Part → ℕ → JobRow → Option JobRow
present_in part stop row = if nat_le row.release part.to && nat_le part.from (until stop row) then Some row else None

abbrev pub present : Part → ℕ → List JobRow → List JobRow
present part stop rows = filter_map (present_in part stop) rows

abbrev pub locks_of : Set → Part → ℕ → List JobRow → List Entry → List Mark
locks_of set part stop rows entries = locks_along set part stop (present part stop rows) [] entries

-- what lasts: the jobs, the locks, the ceilings and the waits
abbrev pub spans_with : Part → ℕ → List JobRow → List JobRow → List Mark → List Entry → List Mark
spans_with part stop rows present locks entries =
    filter_map (pending_in part stop) rows
    ++ (locks
    ++ (ceilings_from locks part.from (part.to - part.from)
    ++ filter_map (wait_in part stop present) entries))

abbrev pub spans_of : Set → Part → ℕ → List JobRow → List Entry → List Mark
spans_of set part stop rows entries =
    spans_with part stop rows (present part stop rows) (locks_of set part stop rows entries) entries

-- what happens at an instant or in a tick: the steps, the refusals, the releases, the deadlines and the ends
abbrev pub instants_of : Set → Part → List JobRow → List Entry → List Mark
instants_of set part rows entries =
    filter_map (step_in part) entries
    ++ (filter_map (refusal_in part) entries
    ++ (filter_map (release_in part) rows
    ++ (filter_map (deadline_in set part) rows
    ++ filter_map (end_in part) rows)))

abbrev pub marks_to : Set → Part → ℕ → List JobRow → List Entry → List Mark
marks_to set part stop rows entries = spans_of set part stop rows entries ++ instants_of set part rows entries

-- The marks of the entries of a history, and of the rows of its jobs: each step, refusal, release, deadline and end of the
-- part, and each job, lock and wait that lasted in it, in the order of the lists; and the ceiling of each of its ticks.
abbrev pub marks_of : Set → Part → List JobRow → List Entry → List Mark
marks_of set part rows entries = marks_to set part (last_instant part.to entries) rows entries
