use Rattle.std.proofs.Common.{arith, rules}
use Rattle.journal_text.proofs.NumeralLaws.{some_digits, next_digits}
use Rattle.journal_text.proofs.numeral.Numeral.go_to.Goals as goal

pub overflow_sub-last : goal.overflow_sub-last
overflow_sub-last c = some_digits c.self.inside.number c.self.inside.len c.self.inside.digits (search rules) c.self.invariant

pub invariant_of-self : goal.invariant_of-self
invariant_of-self c =
    next_digits c.self.inside.number c.args.number c.self.inside.len c.self.inside.digits c.self.invariant
    (omega (arith, c.if-self-number.true, c.if-number-self-eq1.true)) (search rules) c.if-self-last-lt57.true
