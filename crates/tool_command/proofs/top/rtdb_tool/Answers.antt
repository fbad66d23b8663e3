use Rattle.std.proofs.Common.{rules, ◌≡◌, Option, None, Some, sym, subst}
use Rattle.tool_command.specs.declared.command.ToolCommand.{ToolCommand}
use Rattle.tool_command.specs.Commands.{command_of}
use Rattle.tool_command.specs.Answers.{Answers, IsDue}
use Rattle.command_replies.proofs.Plain.{complete}
use Rattle.tool_command.proofs.Due.{is_due}
use Rattle.tool_command.proofs.top.rtdb_tool.Goals as goal

pub returns-in-Ok-None-clause-answer : goal.returns-in-Ok-None-clause-answer
returns-in-Ok-None-clause-answer g c =
    let left = g.S.Source.left c.args.source.now in
    let is : command_of c.args.words.now ≡ None = search rules in
    subst (λ (o : Option ToolCommand). Answers o left left (g.K.Sink.taken c.args.sink.now) (g.K.Sink.taken c.answer_usage.new.sink) c.answer_usage.result)
    (sym is) (c.answer_usage.ensures.answer left)

pub returns-in-Ok-Some-clause-complete : goal.returns-in-Ok-Some-clause-complete
returns-in-Ok-Some-clause-complete g c = λ due is no_read no_write.
    let some : command_of c.args.words.now ≡ Some c.in-Ok-Some.command = search rules in
    complete _ _ _ c.answer.result due _ _ c.answer.ensures.answer c.answer.ensures.read c.answer.ensures.write
    (is_due (Some c.in-Ok-Some.command) _ _ due (subst (λ (o : Option ToolCommand). IsDue o (g.S.Source.left c.args.source.now) due) some is)) no_read no_write

pub returns-in-Ok-None-clause-complete : goal.returns-in-Ok-None-clause-complete
returns-in-Ok-None-clause-complete g c = λ due is no_read no_write.
    let left = g.S.Source.left c.args.source.now in
    let none : command_of c.args.words.now ≡ None = search rules in
    complete _ _ _ c.answer_usage.result due ⊥ _ (c.answer_usage.ensures.answer left) c.answer_usage.ensures.read c.answer_usage.ensures.write
    (is_due None left left due (subst (λ (o : Option ToolCommand). IsDue o left due) none is)) (λ no. no) no_write
