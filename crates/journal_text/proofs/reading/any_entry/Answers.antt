use Rattle.std.proofs.Common.{sym, ◌∙◌}
use Rattle.journal_text.proofs.EntryLaws.{plan_in, block_in}
use Rattle.journal_text.proofs.reading.any_entry.Goals as goal

pub returns-in-Some : goal.returns-in-Some
returns-in-Some c = c.plan.ensures ∙ sym (plan_in c.args.names.now c.args.line.now c.in-Some.rest.now c.in-Some.ensures.0 c.in-Some.ensures.1)

pub returns-in-Some-after : goal.returns-in-Some-after
returns-in-Some-after c =
    c.block.ensures ∙ sym (block_in c.args.names.now c.args.line.now c.in-Some-after.rest.now c.in-Some-after.ensures.0 c.in-Some-after.ensures.1)
