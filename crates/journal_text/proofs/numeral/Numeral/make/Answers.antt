use Rattle.std.proofs.Common.{arith, rules}
use Rattle.journal_text.proofs.NumeralLaws.{two_digits, near_digits}
use Rattle.journal_text.proofs.numeral.Numeral.make.Goals as goal

pub overflow_sub-last : goal.overflow_sub-last
overflow_sub-last c = omega (arith, two_digits c.self.inside.number c.self.inside.len c.self.inside.digits (search rules) c.if-self-ge10.true c.self.invariant)

pub overflow_sub-self : goal.overflow_sub-self
overflow_sub-self c = omega (arith, two_digits c.self.inside.number c.self.inside.len c.self.inside.digits (search rules) c.if-self-ge10.true c.self.invariant)

pub invariant_of-self : goal.invariant_of-self
invariant_of-self c =
    near_digits c.self.inside.number c.args.number c.self.inside.len c.self.inside.digits c.self.invariant (search rules) (search rules) c.if-self-ge10.true c.if-number-ge10.true c.if-number-self.true
