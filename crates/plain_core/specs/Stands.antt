-- The histories that a plain core stands for.
use Rattle.std.specs.Prelude.{◌≡◌, List}
use Rattle.step_journal.specs.declared.entry.Entry.{Entry}
use Rattle.step_journal.specs.History.{state_of}
use Rattle.board.specs.Histories.{IsHistory}
use Rattle.plain_core.specs.TablesSeen.{tables_of}
use Rattle.plain_core.specs.Seen.{PlainIs}

-- the journal keeps the end of the history, and the tables are those of the state after it
pub record Stands (core : PlainIs) (history : List Entry) : Type 0 where
  pub is_history : IsHistory core.set core.journal.room core.journal.first core.journal.kept history
  pub is_state : core.tables ≡ tables_of core.set (state_of core.set history)

-- a core always stands for some history
pub record IsCore (core : PlainIs) : Type 0 where
  pub history : List Entry
  pub stands : Stands core history
