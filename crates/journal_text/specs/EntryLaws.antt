-- Entries and their lines, both ways.
use Rattle.std.specs.Prelude.{◌≡◌}
use Rattle.rt_base.specs.Names.{AreNames}
use Rattle.rt_base.specs.declared.name.Names.{Names}
use Rattle.step_journal.specs.declared.entry.Entry.{Entry}
use Rattle.journal_text.specs.Laws.{BothWays}
use Rattle.journal_text.specs.Lines.{entry_line, HasLine}
use Rattle.journal_text.specs.Reading.{entry_of}

-- an entry that has a line is read from it, and what is read from a line has that line
abbrev pub LinesBothWays : Type 0
LinesBothWays = (names : Names) → AreNames names.items → AreNames names.txns
    → BothWays (HasLine names) (entry_line names) (entry_of names)

-- each line has one entry
abbrev pub OneEntryALine : Type 0
OneEntryALine =
    (names : Names) (e f : Entry) → AreNames names.items → AreNames names.txns → HasLine names e → HasLine names f
    → entry_line names e ≡ entry_line names f → e ≡ f
