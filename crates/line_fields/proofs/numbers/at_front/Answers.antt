use Rattle.std.proofs.Common.{rules}
use Rattle.line_fields.proofs.FrontLaws.{front_written}
use Rattle.line_fields.proofs.numbers.at_front.Goals as goal

pub returns-then-is_number-clause-written : goal.returns-then-is_number-clause-written
returns-then-is_number-clause-written c =
    front_written c.args.bytes.now c.front-n.result.1 c.front-n.result.0 c.front-n.ensures.within (c.is_number.ensures.some c.if-is_number.true)
    (c.is_number.ensures.lead c.if-is_number.true) c.front-n.ensures.digits c.front-n.ensures.value (search rules)
