-- What kept entries are seen as.
use Rattle.std.specs.Prelude.{ℕ, List}
use Rattle.step_journal.specs.declared.entry.Entry.{Entry}

-- the entries, and for how many there is room in all
pub record KeptSeen : Type 0 where
  pub room : ℕ
  pub kept : List Entry
