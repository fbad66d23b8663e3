use Rattle.journal_text.proofs.EntryLaws.{apart}
use Rattle.journal_text.proofs.entry_laws.one_entry_a_line.Goals as goal

pub returns : goal.returns
returns c = apart
