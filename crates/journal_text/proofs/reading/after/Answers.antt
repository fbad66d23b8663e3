use Rattle.std.proofs.Common.{length, rules}
use Rattle.journal_text.proofs.PartLaws.{cut_front, ends_after}
use Rattle.journal_text.proofs.reading.after.Goals as goal

pub returns-then-ends_at : goal.returns-then-ends_at
returns-then-ends_at c = (cut_front c.args.bytes.now c.args.want.now (search rules), ends_after c.args.bytes.now (length c.args.want.now) (search rules))
