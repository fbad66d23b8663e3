use Rattle.line_fields.proofs.FarLaws.{position_far}
use Rattle.line_fields.proofs.cuts.find_far.Goals as goal

pub returns-clause-at : goal.returns-clause-at
returns-clause-at c = position_far c.args.byte c.args.bytes.now c.memchr.result c.memchr.ensures
