-- What contracts see of a core.
use Rattle.std.specs.Prelude.{List}
use Rattle.txn_set.specs.Set.{Set}
use Rattle.step_journal.specs.declared.entry.Entry.{Entry}
use Rattle.step_journal.specs.Journal.{JournalSeen}
use Rattle.core_tables.specs.Seen.{TablesSeen}

pub record CoreSeen : Type 0 where
  pub set : Set
  pub journal : JournalSeen
  pub tables : TablesSeen

abbrev pub core_of : Set → JournalSeen → TablesSeen → CoreSeen
core_of set journal tables = record { set = set; journal = journal; tables = tables }

abbrev pub set_of : CoreSeen → Set
set_of core = core.set

-- the entries that a core keeps
abbrev pub kept_by : CoreSeen → List Entry
kept_by core = core.journal.kept
