use Rattle.std.proofs.Common.{sym, rules}
use Rattle.journal_text.proofs.PartLaws.{over_committed}
use Rattle.journal_text.proofs.reading.over.Goals as goal

pub returns-in_default : goal.returns-in_default
returns-in_default c = sym (over_committed c.args.names.now c.args.rest.now (search rules))
