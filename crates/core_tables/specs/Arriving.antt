-- What the events of a tick rest on.
use Rattle.std.specs.Prelude.{◌≡◌, ℕ, ◌+◌, ◌^◌, ◌<◌, ◌==◌, true, List, [], length, Option, None, Some}
use Rattle.std.specs.List.{filter}
use Rattle.rt_base.specs.declared.release.Release.{Release}
use Rattle.rt_base.specs.declared.operation.Op.TheVariants.{Compute}
use Rattle.release_calendar.specs.Agenda.{Agenda, Holds, NothingDue}
use Rattle.txn_set.specs.Set.{Set, txn_of}
use Rattle.step_journal.specs.State.{State, Row, row_of, pending}
use Rattle.step_journal.specs.Instant.{is_due}
use Rattle.step_journal.specs.Step.{with_step, end_of}
use Rattle.board.specs.Answers.{ended_number}
use Rattle.law_histories.proofs.Members.{In}
use Rattle.law_histories.proofs.Calendar.{Frame, AreApart}
use Rattle.core_tables.specs.Rows.{PendingSeen, AreFactsOf}
use Rattle.core_tables.specs.declared.tally.Tally.{Tally}
use Rattle.core_tables.specs.Seen.{TablesSeen, tally_of}
use Rattle.core_tables.specs.Tables.{AreTables}
use Rattle.core_tables.specs.Changes.{late_jobs}

-- the releases of a tick are of different transactions, none of which has a pending job
pub record CanRelease (tick : ℕ) (rows : List (Option Row)) (planned : List Release) : Type 0 where
  pub in_range : (r : Release) → In r planned → r.tick ≡ tick → r.job.tx.0 < length rows
  pub free : (r : Release) → In r planned → r.tick ≡ tick → row_of rows r.job.tx.0 ≡ None
  pub apart : AreApart (filter (λ r. r.tick == tick) planned)

-- so it is of some list of the planned releases
pub record CanReleaseSome (tick : ℕ) (rows : List (Option Row)) (calendar : Agenda) : Type 0 where
  pub planned : List Release
  pub holds : Holds calendar planned
  pub can : CanRelease tick rows planned

-- the counts fit, whoever ends
pub record CanCancel (set : Set) (rows : List (Option Row)) (tallies : List Tally) : Type 0 where
  pub frame : Frame set rows
  pub count : length tallies ≡ length set.txns
  pub few : (n : ℕ) → (tally_of tallies n).number + length (pending rows) < 2 ^ 63

-- so it is by some set whose facts the rows keep
pub record CanCancelSome (p : PendingSeen) (tallies : List Tally) : Type 0 where
  pub set : Set
  pub facts : AreFactsOf set p.facts
  pub can : CanCancel set p.rows tallies

-- before the events of a tick
pub record CanArrive (set : Set) (tick : ℕ) (s : State) : Type 0 where
  pub low : tick < 2 ^ 63
  pub frame : Frame set s.rows
  pub in_set : (r : Release) → In r s.planned → r.job.tx.0 < length set.txns
  pub over : (r : Release) (x : Row) → In r s.planned → r.tick ≡ tick → row_of s.rows r.job.tx.0 ≡ Some x → is_due set tick x ≡ true
  pub apart : AreApart (filter (λ r. r.tick == tick) s.planned)
  pub few : (n : ℕ) → ended_number s.ended n < 2 ^ 33

pub record ArrivesSome (set : Set) (tick : ℕ) (t : TablesSeen) : Type 0 where
  pub state : State
  pub are : AreTables set t state
  pub can : CanArrive set tick state

-- The pending job of a transaction has a step left after its next one, no deadline comes at a tick, and nothing is released then.
pub record IsQuiet (set : Set) (t : TablesSeen) (tx tick : ℕ) : Type 0 where
  pub more : (row : Row) → row_of t.pending.rows tx ≡ Some row → row.used + 1 < (txn_of set tx).steps
  pub none_late : AreFactsOf set t.pending.facts → late_jobs set tick t.pending.rows ≡ []
  pub none_due : (planned : List Release) → Holds t.calendar planned → NothingDue tick planned

-- the tables are those after a step in which the job of this row computes, and it goes on
pub record Computes (set : Set) (t : TablesSeen) (s : State) (row : Row) : Type 0 where
  pub are : AreTables set t (with_step set s row Compute)
  pub goes_on : end_of (with_step set s row Compute) row.job ≡ None
