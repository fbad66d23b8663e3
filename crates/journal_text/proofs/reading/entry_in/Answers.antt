use Rattle.std.proofs.Common.{sym, ◌∙◌}
use Rattle.journal_text.proofs.EntryLaws.{step_in}
use Rattle.journal_text.proofs.reading.entry_in.Goals as goal

pub returns-in-Some : goal.returns-in-Some
returns-in-Some c = c.step.ensures ∙ sym (step_in c.args.names.now c.args.line.now c.in-Some.rest.now c.in-Some.ensures.0 c.in-Some.ensures.1)
