use Rattle.journal_text.proofs.Words.{named}
use Rattle.journal_text.proofs.field_laws.named_both_ways.Goals as goal

pub returns : goal.returns
returns c = named
