use Rattle.std.proofs.Common.{arith, rules}
use Rattle.line_fields.proofs.NumberLaws.{led_is_none, read_is_unsigned}
use Rattle.line_fields.proofs.FrontLaws.{word_found}
use Rattle.line_fields.proofs.numbers.unsigned.Goals as goal

pub returns-in-Some-default-empty : goal.returns-in-Some-default-empty
returns-in-Some-default-empty c =
    word_found c.args.word.now c.in-Some-default-empty.n c.in-Some-default-empty.field-0-1.now c.in-Some-default-empty.ensures.fits
    c.in-Some-default-empty.ensures.written (omega (arith, c.in-Some-default-empty.len_below))

pub returns-then-is_led : goal.returns-then-is_led
returns-then-is_led c = led_is_none c.args.word.now (search rules)

pub returns : goal.returns
returns c = read_is_unsigned c.args.word.now c.parsed.result (search rules) (search rules) (search rules)
