-- What contracts see of a journal.
use Rattle.std.specs.Prelude.{ℕ, List}
use Rattle.step_journal.specs.declared.entry.Entry.{Entry}

-- its room, how many entries were drained in all, and those that it keeps
pub record JournalSeen : Type 0 where
  pub room : ℕ
  pub first : ℕ
  pub kept : List Entry
