use Rattle.line_fields.proofs.FrontLaws.{next_found}
use Rattle.line_fields.proofs.numbers.next_unsigned.Goals as goal

pub returns-in-Some : goal.returns-in-Some
returns-in-Some c =
    next_found c.args.bytes.now c.in-Some.n c.in-Some.rest.now c.in-Some.ensures.fits c.in-Some.ensures.written c.in-Some.ensures.ends
