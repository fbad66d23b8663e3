use Rattle.std.proofs.Common.{rules, ◌≡◌, Option, Some, None, sym, subst}
use Rattle.command_words.specs.declared.command.Command.{Command}
use Rattle.command_words.specs.declared.command.Command.TheVariants.{Plain}
use Rattle.rtdb_command.specs.Answers.{plain_command_of, Answers, IsGood}
use Rattle.rtdb_command.proofs.Telling.{complete}
use Rattle.rtdb_command.proofs.top.rtdb_plain.Goals as goal

pub returns-in-Ok-Some-Plain-clause-complete : goal.returns-in-Ok-Some-Plain-clause-complete
returns-in-Ok-Some-Plain-clause-complete g c = λ good no_read no_write.
    let is : plain_command_of c.args.words.now ≡ Some (Plain c.in-Ok-Some-Plain.command) = search rules in
    complete (Some (Plain c.in-Ok-Some-Plain.command)) _ _ _ _ c.answer_plain.result _ _ c.answer_plain.ensures.answer c.answer_plain.ensures.read c.answer_plain.ensures.write
    (subst (λ (o : Option Command). IsGood o (g.S.Source.left c.args.source.now)) is good) no_read no_write

pub returns-in-Ok-Some-Run-clause-answer : goal.returns-in-Ok-Some-Run-clause-answer
returns-in-Ok-Some-Run-clause-answer g c =
    let left = g.S.Source.left c.args.source.now in
    let is : plain_command_of c.args.words.now ≡ None = search rules in
    subst (λ (o : Option Command). Answers o left left (g.K.Sink.taken c.args.sink.now) (g.K.Sink.taken c.answer_no_command.new.sink) c.answer_no_command.result) (sym is) (c.answer_no_command.ensures.answer left)

pub returns-in-Ok-Some-Load-clause-answer : goal.returns-in-Ok-Some-Load-clause-answer
returns-in-Ok-Some-Load-clause-answer g c =
    let left = g.S.Source.left c.args.source.now in
    let is : plain_command_of c.args.words.now ≡ None = search rules in
    subst (λ (o : Option Command). Answers o left left (g.K.Sink.taken c.args.sink.now) (g.K.Sink.taken c.answer_no_command-in-Ok-Some-Load.new.sink) c.answer_no_command-in-Ok-Some-Load.result) (sym is) (c.answer_no_command-in-Ok-Some-Load.ensures.answer left)

pub returns-in-Ok-None-clause-answer : goal.returns-in-Ok-None-clause-answer
returns-in-Ok-None-clause-answer g c =
    let left = g.S.Source.left c.args.source.now in
    let is : plain_command_of c.args.words.now ≡ None = search rules in
    subst (λ (o : Option Command). Answers o left left (g.K.Sink.taken c.args.sink.now) (g.K.Sink.taken c.answer_no_command-in-Ok-None.new.sink) c.answer_no_command-in-Ok-None.result) (sym is) (c.answer_no_command-in-Ok-None.ensures.answer left)
