use Rattle.std.proofs.Common.{rules, ◌≡◌, Option, Some, sym, subst}
use Rattle.command_words.specs.declared.command.Command.{Command}
use Rattle.command_words.specs.declared.command.Command.TheVariants.{Run, Load}
use Rattle.command_words.specs.Commands.{command_of}
use Rattle.rtdb_command.specs.Answers.{Answers, IsGood}
use Rattle.rtdb_command.proofs.Telling.{complete}
use Rattle.rtdb_command.proofs.top.rtdb.Goals as goal

pub returns-in-Ok-Some-Run-clause-complete : goal.returns-in-Ok-Some-Run-clause-complete
returns-in-Ok-Some-Run-clause-complete g c = λ good no_read no_write.
    let is : command_of c.args.words.now ≡ Some (Run c.mode_of.result.trial c.mode_of.result.workers) = search rules in
    complete (Some (Run c.mode_of.result.trial c.mode_of.result.workers)) _ _ _ _ c.answer_run.result _ _ c.answer_run.ensures.answer c.answer_run.ensures.read c.answer_run.ensures.write
    (subst (λ (o : Option Command). IsGood o (g.S.Source.left c.args.source.now)) is good) no_read no_write

pub returns-in-Ok-Some-Load-clause-answer : goal.returns-in-Ok-Some-Load-clause-answer
returns-in-Ok-Some-Load-clause-answer g c =
    let left = g.S.Source.left c.args.source.now in
    let is : command_of c.args.words.now ≡ Some (Load c.in-Ok-Some-Load.n c.workers_of.result) = search rules in
    subst (λ (o : Option Command). Answers o left left (g.K.Sink.taken c.args.sink.now) (g.K.Sink.taken c.answer_load.new.sink) c.answer_load.result) (sym is) (c.answer_load.ensures.answer left)

pub returns-in-Ok-Some-Load-clause-complete : goal.returns-in-Ok-Some-Load-clause-complete
returns-in-Ok-Some-Load-clause-complete g c = λ good no_read no_write.
    let left = g.S.Source.left c.args.source.now in
    let is : command_of c.args.words.now ≡ Some (Load c.in-Ok-Some-Load.n c.workers_of.result) = search rules in
    complete (Some (Load c.in-Ok-Some-Load.n c.workers_of.result)) left left _ _ c.answer_load.result _ _ (c.answer_load.ensures.answer left)
    (λ h. absurd (c.answer_load.ensures.read h)) c.answer_load.ensures.write
    (subst (λ (o : Option Command). IsGood o left) is good) no_read no_write
