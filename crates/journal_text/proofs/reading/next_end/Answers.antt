use Rattle.std.proofs.Common.{sym}
use Rattle.journal_text.proofs.PartLaws.{end_committed}
use Rattle.journal_text.proofs.reading.next_end.Goals as goal

pub returns-in-Some : goal.returns-in-Some
returns-in-Some c = sym (end_committed c.args.names.now c.args.rest.now c.in-Some.rest.now c.in-Some.ensures.0 c.in-Some.ensures.1)
