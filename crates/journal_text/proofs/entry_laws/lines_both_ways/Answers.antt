use Rattle.journal_text.proofs.EntryLaws.{both_ways}
use Rattle.journal_text.proofs.entry_laws.lines_both_ways.Goals as goal

pub returns : goal.returns
returns c = both_ways
