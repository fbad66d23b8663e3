-- When the tables are those of a state of a set.
use Rattle.std.specs.Prelude.{◌≡◌, ℕ, ◌<◌, List, length, map}
use Rattle.release_calendar.specs.Agenda.{Holds}
use Rattle.txn_set.specs.Set.{Set}
use Rattle.step_journal.specs.declared.entry.EndedJob.{EndedJob}
use Rattle.step_journal.specs.State.{State}
use Rattle.board.specs.Answers.{most_planned, ended_number, last_end}
use Rattle.core_tables.specs.Rows.{AreRows}
use Rattle.core_tables.specs.declared.tally.Tally.{Tally}
use Rattle.core_tables.specs.Seen.{TablesSeen, tally_of}

-- by transaction the number of the ended jobs, and the end of the latest
pub record AreTallies (set : Set) (tallies : List Tally) (ended : List EndedJob) : Type 0 where
  pub count : length tallies ≡ length set.txns
  pub each : (tx : ℕ) → tx < length set.txns → tally_of tallies tx ≡ record { number = ended_number ended tx; last = last_end ended tx }

-- The tables are those of a state. The planned releases are kept in an order of their own, and of the ended jobs only the tallies.
pub record AreTables (set : Set) (t : TablesSeen) (s : State) : Type 0 where
  pub now : t.clock ≡ s.now
  pub items : t.items ≡ s.items
  pub periods : t.calendar.periods ≡ map (λ x. x.period) set.txns
  pub room : t.calendar.room ≡ most_planned
  pub plans : t.calendar.plans ≡ s.plans
  pub planned : Holds t.calendar s.planned
  pub rows : AreRows set t.pending s.rows
  pub tallies : AreTallies set t.tallies s.ended
