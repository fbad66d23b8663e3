use Rattle.std.proofs.Common.{ℕ, List, [], subst, take}
use Rattle.std.specs.Io.KnownBytes.{Appends}
use Rattle.law_histories.proofs.CountingAll.{entries_few}
use Rattle.report_text.specs.Texts.{entries_text}
use Rattle.scenario_run.specs.Written.{closing_of}
use Rattle.scenario_run.proofs.Handing.{on_err}
use Rattle.scenario_run.proofs.Wholes.{on_ok}
use Rattle.scenario_run.proofs.Parts.{front_first, front_second, front_last, all_three}
use Rattle.scenario_run.proofs.history.write_history.Goals as goal

pub add_lines-requires-clause-few : goal.add_lines-requires-clause-few
add_lines-requires-clause-few g c = (entries_few (g.B.Board.set c.args.board) c.args.entries.now c.requires.opened.rows.compiled c.requires.legal).all

pub write_closing-requires-clause-stood : goal.write_closing-requires-clause-stood
write_closing-requires-clause-stood g c =
    (c.args.entries.now, c.requires.stood, c.in-Ok.ensures.follows (g.B.Board.set c.args.board) [] c.requires.opened.rows c.requires.legal)

pub returns-in-Err-clause-front : goal.returns-in-Err-clause-front
returns-in-Err-clause-front g c =
    let text = entries_text c.args.report.names.now c.args.entries.now in
    let last = closing_of c.args.report.names.now (g.B.Board.set c.args.board) c.args.entries.now in
    front_first c.args.report.head.items text last (g.K.Sink.taken c.args.sink.now) (g.K.Sink.taken c.write_all.new.sink) c.in-Err.ensures.prefix.0
    (subst (λ (l : List ℕ). Appends (g.K.Sink.taken c.args.sink.now) (g.K.Sink.taken c.write_all.new.sink) (take c.in-Err.ensures.prefix.0 l)) c.as_slice.ensures.value c.in-Err.ensures.prefix.1)

pub returns-in-Err-add_lines-clause-front : goal.returns-in-Err-add_lines-clause-front
returns-in-Err-add_lines-clause-front g c =
    let text = entries_text c.args.report.names.now c.args.entries.now in
    let last = closing_of c.args.report.names.now (g.B.Board.set c.args.board) c.args.entries.now in
    front_second c.args.report.head.items text last (g.K.Sink.taken c.args.sink.now) (g.K.Sink.taken c.write_all.new.sink) (g.K.Sink.taken c.add_lines.new.sink)
    c.in-Err-add_lines.ensures.front.0
    (subst (λ (l : List ℕ). Appends (g.K.Sink.taken c.args.sink.now) (g.K.Sink.taken c.write_all.new.sink) l) c.as_slice.ensures.value c.in_default.ensures.all)
    c.in-Err-add_lines.ensures.front.1

pub returns-in-Ok-clause-whole : goal.returns-in-Ok-clause-whole
returns-in-Ok-clause-whole g c =
    let set = g.B.Board.set c.args.board in
    let text = entries_text c.args.report.names.now c.args.entries.now in
    let last = closing_of c.args.report.names.now set c.args.entries.now in
    on_ok c.write_closing.result
    (λ has. all_three c.args.report.head.items text last (g.K.Sink.taken c.args.sink.now) (g.K.Sink.taken c.write_all.new.sink) (g.K.Sink.taken c.add_lines.new.sink) (g.K.Sink.taken c.write_closing.new.sink)
    (subst (λ (l : List ℕ). Appends (g.K.Sink.taken c.args.sink.now) (g.K.Sink.taken c.write_all.new.sink) l) c.as_slice.ensures.value c.in_default.ensures.all) c.in-Ok.ensures.all.0 has)
    (c.write_closing.ensures.all c.args.entries.now c.requires.stood (c.in-Ok.ensures.follows set [] c.requires.opened.rows c.requires.legal))

pub returns-in-Ok-clause-front : goal.returns-in-Ok-clause-front
returns-in-Ok-clause-front g c =
    let set = g.B.Board.set c.args.board in
    let text = entries_text c.args.report.names.now c.args.entries.now in
    let last = closing_of c.args.report.names.now set c.args.entries.now in
    on_err c.write_closing.result
    (λ has. front_last c.args.report.head.items text last (g.K.Sink.taken c.args.sink.now) (g.K.Sink.taken c.write_all.new.sink) (g.K.Sink.taken c.add_lines.new.sink) (g.K.Sink.taken c.write_closing.new.sink) has.0
    (subst (λ (l : List ℕ). Appends (g.K.Sink.taken c.args.sink.now) (g.K.Sink.taken c.write_all.new.sink) l) c.as_slice.ensures.value c.in_default.ensures.all) c.in-Ok.ensures.all.0 has.1)
    (c.write_closing.ensures.front c.args.entries.now c.requires.stood (c.in-Ok.ensures.follows set [] c.requires.opened.rows c.requires.legal))
