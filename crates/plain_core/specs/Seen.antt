-- What contracts see of a plain core.
use Rattle.txn_set.specs.Set.{Set}
use Rattle.step_journal.specs.Journal.{JournalSeen}
use Rattle.plain_core.specs.TablesSeen.{TablesSeen}

pub record PlainIs : Type 0 where
  pub set : Set
  pub journal : JournalSeen
  pub tables : TablesSeen
