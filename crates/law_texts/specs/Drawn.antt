-- What is drawn in a tick: the locks, the waits and the pending jobs of the history's state then.
use Rattle.std.specs.Prelude.{◌≡◌, ℕ, ◌<◌, ◌≤◌, nat_lt, nat_le, ◌&&◌, if◌then◌else◌, List, [], ◌∷◌, ◌++◌, map, Option, None, Some, slice_get}
use Rattle.std.specs.List.{filter_map, flat_map, Contains}
use Rattle.std.specs.Option.{option_map}
use Rattle.rt_base.specs.declared.ids.JobId.{JobId}
use Rattle.txn_set.specs.Set.{Set, IsCompiled}
use Rattle.step_journal.specs.declared.entry.Entry.{Entry}
use Rattle.step_journal.specs.State.{State, Row, pending}
use Rattle.step_journal.specs.LockRule.{Lock, locks}
use Rattle.step_journal.specs.History.{IsLegal, state_of}
use Rattle.job_rows.specs.Rows.{job_rows}
use Rattle.schedule_marks.specs.declared.part.Part.{Part}
use Rattle.schedule_marks.specs.declared.mark.Mark.{Mark}
use Rattle.schedule_marks.specs.declared.mark.Mark.TheVariants as mark
use Rattle.schedule_marks.specs.Marks.{marks_of}
use Rattle.law_texts.specs.Ceilings.{rows_in}

-- ---- what is there

-- a lock, and the job that holds it
pub record HeldLock : Type 0 where
  pub job : JobId
  pub lock : Lock

abbrev pub held_by : JobId → Lock → HeldLock
held_by job lock = record { job = job; lock = lock }

-- the locks that the jobs of these rows hold
abbrev pub held_locks : List (Option Row) → List HeldLock
held_locks rows = flat_map (λ (row : Row). map (held_by row.job) (locks row.work)) (pending rows)

-- a job waits on another
pub record Waiting : Type 0 where
  pub job : JobId
  pub by : JobId

abbrev pub waiting_on : JobId → JobId → Waiting
waiting_on job by = record { job = job; by = by }

-- the waits of these rows
abbrev pub waits_of : List (Option Row) → List Waiting
waits_of rows = filter_map (λ (row : Row). option_map (waiting_on row.job) row.waits_on) (pending rows)

-- the jobs of these rows
abbrev pub jobs_of : List (Option Row) → List JobId
jobs_of rows = map (λ (row : Row). row.job) (pending rows)

-- ---- what is drawn

-- what a span of ticks shows in one of them
abbrev pub if_within : {A : Type 0} → ℕ → ℕ → ℕ → A → Option A
if_within from to tick a = if nat_le from tick && nat_lt tick to then Some a else None

abbrev pub lock_shown : ℕ → Mark → Option HeldLock
lock_shown tick (mark.Lock job item is_write ceiling from to) =
    if_within from to tick (held_by job (record { item = item.0; is_write = is_write }))
lock_shown tick other = None

abbrev pub wait_shown : ℕ → Mark → Option Waiting
wait_shown tick (mark.Wait job by from to) = if_within from to tick (waiting_on job by)
wait_shown tick other = None

abbrev pub job_shown : ℕ → Mark → Option JobId
job_shown tick (mark.Pending job from to) = if_within from to tick job
job_shown tick other = None

-- what the picture of a part of a history shows in a tick
abbrev pub shown_in : {A : Type 0} → (ℕ → Mark → Option A) → Set → Part → List Entry → ℕ → List A
shown_in shows set part entries tick = filter_map (shows tick) (marks_of set part (job_rows set entries) entries)

-- ---- laws

-- a tick of the part, through which a history goes by an entry, that is by a step or an idle time
pub record IsWithin (set : Set) (part : Part) (before : List Entry) (entry : Entry) (tick : ℕ) : Type 0 where
  pub from : part.from ≤ tick
  pub to : tick < part.to
  pub since : (state_of set before).now ≤ tick
  pub ends : tick < (state_of set (before ++ entry ∷ [])).now

-- the parts of a history about the entry by which it goes through a tick
pub record GoesBy (set : Set) (part : Part) (entries : List Entry) (tick : ℕ) : Type 0 where
  pub before : List Entry
  pub entry : Entry
  pub after : List Entry
  pub parts : entries ≡ before ++ entry ∷ after
  pub within : IsWithin set part before entry tick

-- a history goes through each tick of the part that is before its last instant
abbrev pub GoesThroughEachTick : Type 0
GoesThroughEachTick =
    (set : Set) (part : Part) (entries : List Entry) (tick : ℕ) → part.from ≤ tick → tick < part.to
    → tick < (state_of set entries).now → GoesBy set part entries tick

-- what is drawn is there, what is there is drawn, and nothing is drawn twice
pub record ShowsExactly {A : Type 0} (drawn there : List A) : Type 0 where
  pub is_there : (x : A) → Contains drawn x → Contains there x
  pub is_drawn : (x : A) → Contains there x → Contains drawn x
  pub once : (n m : ℕ) (x : A) → slice_get drawn n ≡ Some x → slice_get drawn m ≡ Some x → n ≡ m

-- in each tick that a legal history goes through by an entry, the picture shows exactly what is there in the state before it
abbrev pub ShowsWhatIsThere : {A : Type 0} → (ℕ → Mark → Option A) → (State → Entry → List A) → Type 0
ShowsWhatIsThere shows there =
    (set : Set) (part : Part) (before after : List Entry) (entry : Entry) (tick : ℕ) → IsCompiled set
    → IsLegal set (before ++ entry ∷ after) → IsWithin set part before entry tick
    → ShowsExactly (shown_in shows set part (before ++ entry ∷ after) tick) (there (state_of set before) entry)

-- and nothing from the history's last instant on
abbrev pub ShowsNothingLater : {A : Type 0} → (ℕ → Mark → Option A) → Type 0
ShowsNothingLater shows =
    (set : Set) (part : Part) (entries : List Entry) (tick : ℕ) → IsCompiled set → IsLegal set entries
    → (state_of set entries).now ≤ tick → shown_in shows set part entries tick ≡ []

-- the locks drawn are those that are held, with those that the entry's step takes
abbrev pub DrawnLocksAreHeld : Type 0
DrawnLocksAreHeld = ShowsWhatIsThere lock_shown (λ s entry. held_locks (rows_in s entry))

abbrev pub NoLockIsDrawnLater : Type 0
NoLockIsDrawnLater = ShowsNothingLater lock_shown

abbrev pub DrawnWaitsGoOn : Type 0
DrawnWaitsGoOn = ShowsWhatIsThere wait_shown (λ s entry. waits_of s.rows)

abbrev pub NoWaitIsDrawnLater : Type 0
NoWaitIsDrawnLater = ShowsNothingLater wait_shown

abbrev pub DrawnJobsArePending : Type 0
DrawnJobsArePending = ShowsWhatIsThere job_shown (λ s entry. jobs_of s.rows)

abbrev pub NoJobIsDrawnLater : Type 0
NoJobIsDrawnLater = ShowsNothingLater job_shown
