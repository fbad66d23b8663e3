use Rattle.std.proofs.Common.{refl, subst}
use Rattle.std.specs.Io.KnownBytes.{Appends}
use Rattle.io_edge.specs.declared.status.Status.TheVariants.{ReadFault, WriteFault}
use Rattle.command_replies.proofs.Plain.{told_by, no_fault}
use Rattle.tool_command.proofs.Statuses.{answer_told}
use Rattle.tool_command.proofs.top.answer.Goals as goal

pub returns-in-Ok-write_all-clause-answer : goal.returns-in-Ok-write_all-clause-answer
returns-in-Ok-write_all-clause-answer g c =
    let taken = g.K.Sink.taken c.args.sink.now in
    let after = g.K.Sink.taken c.write_all.new.sink in
    let said = c.in-Ok.ensures.said in
    told_by _ taken after c.in-Ok.reply.status c.in-Ok.reply.text.items said (subst (λ bytes. Appends taken after bytes) c.deref.ensures.value c.in-Ok-write_all.ensures.all)
    (answer_told c.args.command _ _ _ _ said)

pub returns-in-Ok-write_all-clause-read : goal.returns-in-Ok-write_all-clause-read
returns-in-Ok-write_all-clause-read g c = λ e. absurd (no_fault ReadFault _ refl (answer_told c.args.command _ _ _ _ c.in-Ok.ensures.said) e)

pub returns-in-Ok-write_all-clause-write : goal.returns-in-Ok-write_all-clause-write
returns-in-Ok-write_all-clause-write g c = λ e. absurd (no_fault WriteFault _ refl (answer_told c.args.command _ _ _ _ c.in-Ok.ensures.said) e)
