use Rattle.std.proofs.Common.{sym}
use Rattle.journal_text.proofs.PartLaws.{stamp_number}
use Rattle.journal_text.proofs.reading.next_stamp.Goals as goal

pub returns-in-Some : goal.returns-in-Some
returns-in-Some c = sym (stamp_number c.args.rest.now c.in-Some.stamp c.in-Some.rest.now (sym c.in-Some.ensures))
