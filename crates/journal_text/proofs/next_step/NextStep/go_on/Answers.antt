use Rattle.std.proofs.Common.{arith}
use Rattle.journal_text.proofs.NextLaws.{goes_on, carries, own_goes_on, own_carries}
use Rattle.journal_text.proofs.next_step.NextStep.go_on.Goals as goal

pub returns-then-self-last-lt57-clause-next : goal.returns-then-self-last-lt57-clause-next
returns-then-self-last-lt57-clause-next c names next =
    goes_on names c.args.self.now next c.requires.some c.if-self-last-lt57.true (omega (arith, c.if-self-ge18446744073709551615.false))

pub returns-then-self-last-lt57-clause-own : goal.returns-then-self-last-lt57-clause-own
returns-then-self-last-lt57-clause-own c names own =
    own_goes_on names c.args.self.now own c.requires.some c.if-self-last-lt57.true (omega (arith, c.if-self-ge18446744073709551615.false))

pub returns-then-self-last-lt57-2-clause-next : goal.returns-then-self-last-lt57-2-clause-next
returns-then-self-last-lt57-2-clause-next c names next =
    carries names c.args.self.now next c.requires.some (omega (arith, c.if-self-last-lt57.false)) c.if-self-last-ge48.true c.if-self-last-lt57-2.true
    (omega (arith, c.if-self-ge18446744073709551615.false))

pub returns-then-self-last-lt57-2-clause-own : goal.returns-then-self-last-lt57-2-clause-own
returns-then-self-last-lt57-2-clause-own c names own =
    own_carries names c.args.self.now own c.requires.some (omega (arith, c.if-self-last-lt57.false)) c.if-self-last-ge48.true c.if-self-last-lt57-2.true
    (omega (arith, c.if-self-ge18446744073709551615.false))
