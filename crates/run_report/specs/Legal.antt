-- Every entry of a legal history has a line, and so has the row of each of its jobs.
use Rattle.std.specs.Prelude.{List}
use Rattle.std.specs.List.{All}
use Rattle.rt_base.specs.declared.name.Names.{Names}
use Rattle.txn_set.specs.Set.{Set, IsCompiled}
use Rattle.step_journal.specs.declared.entry.Entry.{Entry}
use Rattle.step_journal.specs.History.{IsLegal}
use Rattle.job_rows.specs.Rows.{job_rows}
use Rattle.journal_text.specs.Lines.{IsWritable}
use Rattle.report_text.specs.Texts.{NamesSet, KnownRow}

abbrev pub LegalHasLines : Type 0
LegalHasLines =
    (names : Names) (set : Set) (entries : List Entry) → NamesSet names set → IsCompiled set → IsLegal set entries
    → All (IsWritable names) entries

abbrev pub LegalHasRows : Type 0
LegalHasRows =
    (names : Names) (set : Set) (entries : List Entry) → NamesSet names set → IsCompiled set → IsLegal set entries
    → All (KnownRow names) (job_rows set entries)
