use Rattle.journal_text.proofs.EntryLaws.{taken, writable, exact}
use Rattle.journal_text.proofs.reading.read_entry.Goals as goal

pub returns-clause-taken : goal.returns-clause-taken
returns-clause-taken c = taken _ _ _ c.entry_in.ensures

pub returns-clause-writable : goal.returns-clause-writable
returns-clause-writable c = writable _ _ _ c.entry_in.ensures

pub returns-clause-exact : goal.returns-clause-exact
returns-clause-exact c = exact _ _ _ c.entry_in.ensures
