-- The histories that a core stands for.
use Rattle.std.specs.Prelude.{List}
use Rattle.step_journal.specs.declared.entry.Entry.{Entry}
use Rattle.step_journal.specs.History.{state_of}
use Rattle.board.specs.Histories.{IsHistory}
use Rattle.core_tables.specs.Tables.{AreTables}
use Rattle.lock_core.specs.Seen.{CoreSeen}

-- the journal keeps the end of the history, and the tables are those of the state after it
pub record Stands (core : CoreSeen) (history : List Entry) : Type 0 where
  pub is_history : IsHistory core.set core.journal.room core.journal.first core.journal.kept history
  pub are : AreTables core.set core.tables (state_of core.set history)

-- a core always stands for some history
pub record IsCore (core : CoreSeen) : Type 0 where
  pub history : List Entry
  pub stands : Stands core history
