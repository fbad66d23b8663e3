-- What the calendar keeps, and what its calls answer of the list of planned releases.
use Rattle.std.specs.Prelude.{◌≡◌, ◌≢◌, ℕ, ◌+◌, ◌^◌, ◌<◌, ◌≤◌, ◌==◌, ◌&&◌, max, min, Bool, true, false, if◌then◌else◌, List, [], ◌∷◌, ◌++◌, length, slice_index_or, slice_set, Option, None, Some}
use Rattle.std.specs.List.{All, Contains}
use Rattle.std.specs.List.Sorted.{IsPermutation}
use Rattle.rt_base.specs.declared.ids.JobId.{JobId}
use Rattle.rt_base.specs.declared.release.Plans.{Plans}
use Rattle.rt_base.specs.declared.release.Release.{Release}
use Rattle.rt_base.specs.declared.release.PlanRefused.{PlanRefused}
use Rattle.rt_base.specs.declared.release.PlanRefused.TheVariants.{TooFar, CalendarFull, NoSerial}
use Rattle.rt_base.specs.Planning.{calendar_refusal}
use Rattle.release_calendar.specs.declared.planned.Planned.{Planned}

-- the job of a planned release
abbrev pub job_of : Planned → JobId
job_of p = record { tx = record { 0 = p.tx }; serial = p.serial }

-- by transaction the periods and the plans, the planned releases in no particular order, and for how many there is room
pub record Agenda : Type 0 where
  pub periods : List ℕ
  pub plans : List Plans
  pub planned : List Release
  pub room : ℕ

-- The planned releases are those of this list, in some order. The list may be that in which they were planned.
abbrev pub Holds : Agenda → List Release → Type 0
Holds c planned = IsPermutation planned c.planned

abbrev pub ArePeriods : List ℕ → Type 0
ArePeriods periods = (tx : ℕ) → tx < length periods → (1 ≤ slice_index_or periods tx 0) × (slice_index_or periods tx 0 ≤ 2 ^ 30)

abbrev pub no_plans : Plans
no_plans = record { number = 0; last = 0 }

abbrev pub plans_of : Agenda → ℕ → Plans
plans_of c tx = slice_index_or c.plans tx no_plans

-- a period after the last planned tick, and 0 where nothing was planned
abbrev pub earliest : Agenda → ℕ → ℕ
earliest c tx = if (plans_of c tx).number == 0 then 0 else (plans_of c tx).last + slice_index_or c.periods tx 0

-- why the next job of a transaction is not planned for a tick, if it is not
abbrev pub refusal : Agenda → (tx tick now : ℕ) → Option PlanRefused
refusal c tx tick now = calendar_refusal tick now (earliest c tx) (length c.planned) c.room (plans_of c tx).number

-- the first tick for which it is not too soon
abbrev pub next_for : Agenda → (tx now : ℕ) → ℕ
next_for c tx now = max now (earliest c tx)

-- whether the cause may be that of a plan at that tick
abbrev pub comes_later : PlanRefused → Bool
comes_later (TooFar limit) = true
comes_later (CalendarFull room) = true
comes_later (NoSerial planned) = true
comes_later other = false

abbrev pub next_job : Agenda → ℕ → JobId
next_job c tx = record { tx = record { 0 = tx }; serial = (plans_of c tx).number }

-- The next job of a transaction was planned for a tick: it is counted, and its release stands last in the list.
pub record IsPlanned (old new : Agenda) (tx tick : ℕ) : Type 0 where
  pub periods : new.periods ≡ old.periods
  pub room : new.room ≡ old.room
  pub plans : new.plans ≡ slice_set old.plans tx (record { number = (plans_of old tx).number + 1; last = tick })
  pub planned : (planned : List Release) → Holds old planned → Holds new (planned ++ record { job = next_job old tx; tick = tick } ∷ [])

-- nothing is planned for a tick
abbrev pub NothingDue : ℕ → List Release → Type 0
NothingDue tick planned = All (λ r. r.tick ≢ tick) planned

-- the job is released at a tick, and none with a lower transaction is
pub record IsDue (tick : ℕ) (planned : List Release) (job : JobId) : Type 0 where
  pub here : Contains planned (record { job = job; tick = tick })
  pub least : All (λ r. r.tick ≡ tick → job.tx.0 ≤ r.job.tx.0) planned

abbrev pub same_release : Release → Release → Bool
same_release a b = (a.job.tx.0 == b.job.tx.0) && (a.job.serial == b.job.serial) && (a.tick == b.tick)

-- the list without the first such release
abbrev pub without : Release → List Release → List Release
without r [] = []
without r (s ∷ rest) = if same_release r s then rest else s ∷ without r rest

-- the list once this job, if any, is released at a tick
abbrev pub left : ℕ → Option JobId → List Release → List Release
left tick None planned = planned
left tick (Some job) planned = without (record { job = job; tick = tick }) planned

-- the plans, periods and room are as before
pub record SamePlans (old new : Agenda) : Type 0 where
  pub periods : new.periods ≡ old.periods
  pub plans : new.plans ≡ old.plans
  pub room : new.room ≡ old.room

abbrev pub earlier : ℕ → Option ℕ → ℕ
earlier tick None = tick
earlier tick (Some other) = min tick other

-- the least planned tick
abbrev pub least_tick : List Release → Option ℕ
least_tick [] = None
least_tick (r ∷ rest) = Some (earlier r.tick (least_tick rest))
