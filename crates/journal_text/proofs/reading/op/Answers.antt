use Rattle.std.proofs.Common.{sym, ◌∙◌}
use Rattle.journal_text.proofs.PartLaws.{op_write, op_read}
use Rattle.journal_text.proofs.reading.op.Goals as goal

pub returns-in-Some : goal.returns-in-Some
returns-in-Some c =
    c.write.ensures ∙ sym (op_write c.args.names.now c.args.rest.now c.in-Some.rest.now c.in-Some.ensures.0 c.in-Some.ensures.1)

pub returns-in-Some-after : goal.returns-in-Some-after
returns-in-Some-after c =
    c.read.ensures ∙ sym (op_read c.args.names.now c.args.rest.now c.in-Some-after.rest.now c.in-Some-after.ensures.0 c.in-Some-after.ensures.1)
