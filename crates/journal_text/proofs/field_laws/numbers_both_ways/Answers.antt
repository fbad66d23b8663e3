use Rattle.journal_text.proofs.Words.{numbers}
use Rattle.journal_text.proofs.field_laws.numbers_both_ways.Goals as goal

pub returns : goal.returns
returns c = numbers
