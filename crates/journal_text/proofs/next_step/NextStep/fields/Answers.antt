use Rattle.journal_text.proofs.NextLaws.{passed_told}
use Rattle.journal_text.proofs.next_step.NextStep.fields.Goals as goal

pub returns-in-Some-clause-value : goal.returns-in-Some-clause-value
returns-in-Some-clause-value c =
    passed_told c.args.names.now c.args.self.now c.args.line.now c.in-Some.rest.now c.requires.next c.in-Some.ensures.some
    c.in-Some.ensures.front c.in-Some.ensures.ends
