use Rattle.std.proofs.Common.{◌≡◌, ◌<◌, ◌+◌, ℕ, length, get_or, arith, rules}
use Rattle.std.specs.Char.{digit_value}
use Rattle.std.proofs.lemmas.Str.{digit_value_digit}
use Rattle.std.proofs.lemmas.Int.Digits.{digits_value_more, digits_more}
use Rattle.line_fields.proofs.FrontLaws.{few_digits, digit_byte}
use Rattle.line_fields.proofs.numbers.front.Goals as goal

pub overflow_mul-n : goal.overflow_mul-n
overflow_mul-n c = omega (arith, few_digits c.args.bytes.now c.loop-i.i c.loop-i.n (omega (arith, c.loop-i-test.true, c.min-most.ensures)) c.loop-i.invariant.0 c.loop-i.invariant.1)

pub overflow_add-n : goal.overflow_add-n
overflow_add-n c = omega (arith, c.if-digit-gt9.false, few_digits c.args.bytes.now c.loop-i.i c.loop-i.n (omega (arith, c.loop-i-test.true, c.min-most.ensures)) c.loop-i.invariant.0 c.loop-i.invariant.1)

pub loop-i-preserved : goal.loop-i-preserved
loop-i-preserved c =
    let byte : ℕ = get_or c.args.bytes.now c.loop-i.i 0 in
    let is = digit_byte byte (search rules) c.if-digit-gt9.false in
    let within : c.loop-i.i < length c.args.bytes.now = omega (arith, c.loop-i-test.true, c.min-most.ensures) in
    let digit : digit_value byte + 48 ≡ byte = digit_value_digit byte (is.0, is.1) in (
      omega (arith, c.loop-i.invariant.0, is.2, digit, digits_value_more 10 c.args.bytes.now c.loop-i.i within),
      digits_more 10 c.args.bytes.now c.loop-i.i within c.loop-i.invariant.1 (omega (arith, digit, is.1)),
    )
