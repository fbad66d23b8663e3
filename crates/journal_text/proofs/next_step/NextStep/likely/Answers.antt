use Rattle.journal_text.proofs.NextLaws.{computed_told}
use Rattle.journal_text.proofs.next_step.NextStep.likely.Goals as goal

pub returns-clause-some : goal.returns-clause-some
returns-clause-some c = λ names next.
    computed_told names c.args.self.now c.args.text.now c.in_ok-rest.rest.now next c.in_ok-rest.ensures.some c.in_ok-rest.ensures.front
