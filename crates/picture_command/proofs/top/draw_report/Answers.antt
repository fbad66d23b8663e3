use Rattle.std.proofs.Common.{rules, ◌≡◌, Option, None, Some, sym, subst}
use Rattle.picture_command.specs.declared.wanted.Wanted.{Wanted}
use Rattle.picture_command.specs.Parts.{wanted_of}
use Rattle.picture_command.specs.Answers.{Answers, IsDue}
use Rattle.picture_command.proofs.Due.{complete}
use Rattle.picture_command.proofs.top.draw_report.Goals as goal

pub returns-in-None-clause-answer : goal.returns-in-None-clause-answer
returns-in-None-clause-answer g c =
    let left = g.S.Source.left c.args.source.now in
    let is : wanted_of c.args.words.now ≡ None = search rules in
    subst (λ (o : Option Wanted). Answers o left left (g.K.Sink.taken c.args.sink.now) (g.K.Sink.taken c.answer_usage.new.sink) c.answer_usage.result)
    (sym is) (c.answer_usage.ensures.answer left)

pub returns-in-Some-clause-complete : goal.returns-in-Some-clause-complete
returns-in-Some-clause-complete g c = λ due is no_read no_write.
    let some : wanted_of c.args.words.now ≡ Some c.in-Some.wanted = search rules in
    complete (Some c.in-Some.wanted) _ _ _ _ c.answer.result due _ _ c.answer.ensures.answer c.answer.ensures.read c.answer.ensures.write
    (subst (λ (o : Option Wanted). IsDue o (g.S.Source.left c.args.source.now) due) some is) no_read no_write

pub returns-in-None-clause-complete : goal.returns-in-None-clause-complete
returns-in-None-clause-complete g c = λ due is no_read no_write.
    let left = g.S.Source.left c.args.source.now in
    let none : wanted_of c.args.words.now ≡ None = search rules in
    complete None left left _ _ c.answer_usage.result due ⊥ _ (c.answer_usage.ensures.answer left) c.answer_usage.ensures.read c.answer_usage.ensures.write
    (subst (λ (o : Option Wanted). IsDue o left due) none is) (λ no. no) no_write
