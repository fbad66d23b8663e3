use Rattle.line_fields.proofs.FrontLaws.{short_found}
use Rattle.line_fields.proofs.numbers.next_short.Goals as goal

pub returns-then-n : goal.returns-then-n
returns-then-n c =
    short_found c.args.bytes.now c.in-Some.n c.in-Some.rest.now c.if-n.true c.in-Some.ensures.written c.in-Some.ensures.ends
