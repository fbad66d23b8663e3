-- The queues of planned releases, one for each transaction, and the ticks at which they begin.
use Rattle.std.specs.Prelude.{◌≡◌, ◌≢◌, ℕ, ◌^◌, ◌<◌, ◌≤◌, List, [], ◌∷◌, length, map, slice_index_or}
use Rattle.std.specs.List.{All, Contains, flat_map}
use Rattle.std.specs.List.Sorted.{IsNonDecreasingBy}
use Rattle.rt_base.specs.declared.release.Release.{Release}
use Rattle.release_calendar.specs.declared.planned.Planned.{Planned}
use Rattle.release_calendar.specs.Agenda.{Agenda, job_of, plans_of, ArePeriods}
use Rattle.release_calendar.specs.Heads.{no_tick, tick_at}

-- by transaction its planned releases, the next of them first, and for how many there is room in all
pub record QueueFacts : Type 0 where
  pub queues : List (List Planned)
  pub room : ℕ

-- those of one transaction
abbrev pub queue_of : List (List Planned) → ℕ → List Planned
queue_of queues tx = slice_index_or queues tx []

-- those of all transactions, one transaction after the other
abbrev pub queued : List (List Planned) → List Planned
queued queues = flat_map (λ q. q) queues

abbrev pub release_of : Planned → Release
release_of p = record { job = job_of p; tick = p.tick }

abbrev pub releases : List (List Planned) → List Release
releases queues = map release_of (queued queues)

-- the tick at which a queue begins, if it has a release
abbrev pub head_tick : List Planned → ℕ
head_tick [] = no_tick
head_tick (p ∷ rest) = p.tick

-- the releases of a transaction, by rising tick, which is never the last of all
pub record IsQueue (tx : ℕ) (queue : List Planned) : Type 0 where
  pub own : All (λ p. p.tx ≡ tx) queue
  pub low : All (λ p. p.tick < no_tick) queue
  pub rising : IsNonDecreasingBy (λ p. p.tick) queue

-- what is kept of the queues: where each begins, and how many releases there are
pub record AreQueues (queues : List (List Planned)) (heads : List ℕ) (waiting : ℕ) : Type 0 where
  pub each : (tx : ℕ) → IsQueue tx (queue_of queues tx)
  pub begins : (tx : ℕ) → tick_at heads tx ≡ head_tick (queue_of queues tx)
  pub count : waiting ≡ length (queued queues)
  pub places : length queues ≤ length heads

-- a release of the list is for this tick, and none is for an earlier one
pub record IsFirstTick (tick : ℕ) (queues : List (List Planned)) : Type 0 where
  pub here : (p : Planned) × Contains (queued queues) p × (p.tick ≡ tick)
  pub before : All (λ p. tick ≤ p.tick) (queued queues)

-- none is for this tick
abbrev pub NoneAt : ℕ → List Planned → Type 0
NoneAt tick planned = All (λ p. p.tick ≢ tick) planned

-- the release at a place of a queue is for a tick, and no lower transaction has one for it
pub record IsPlace (tick : ℕ) (queues : List (List Planned)) (tx index : ℕ) : Type 0 where
  pub known : tx < length queues
  pub within : index < length (queue_of queues tx)
  pub at : (d : Planned) → (slice_index_or (queue_of queues tx) index d).tick ≡ tick
  pub least : All (λ p. p.tick ≡ tick → tx ≤ p.tx) (queued queues)

-- what the calendar keeps: of each transaction the queued releases are at most at the last planned tick
pub record IsCalendar (c : Agenda) (queues : List (List Planned)) : Type 0 where
  pub size : length c.plans ≡ length c.periods
  pub each : length queues ≡ length c.periods
  pub periods : ArePeriods c.periods
  pub last : (tx : ℕ) → (plans_of c tx).last ≤ 2 ^ 40
  pub none : (tx : ℕ) → (plans_of c tx).number ≡ 0 → (plans_of c tx).last ≡ 0
  pub latest : (tx : ℕ) → All (λ p. p.tick ≤ (plans_of c tx).last) (queue_of queues tx)
  pub fits : length (queued queues) ≤ c.room
