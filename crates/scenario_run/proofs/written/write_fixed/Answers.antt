use Rattle.std.proofs.Common.{rules, ◌≡◌, ℕ, List, map, subst, take}
use Rattle.std.specs.Io.KnownBytes.{Appends}
use Rattle.law_histories.specs.Sim.{Workload}
use Rattle.sim_run.specs.Workloads.{workload}
use Rattle.scenario_run.proofs.Wholes.{in_head, in_lines, closed_whole, closed_front}
use Rattle.scenario_run.proofs.written.write_fixed.Goals as goal

pub returns-in-Err-clause-front : goal.returns-in-Err-clause-front
returns-in-Err-clause-front g c =
    let w : Workload = workload (g.B.Board.set c.args.run.board) (map g.Y.Body.gives c.args.run.bodies.items) c.args.run.ticks.now in
    in_head c.args.report.names.now c.args.report.admitted w c.args.report.head.items (g.K.Sink.taken c.args.sink.now) c.requires.opened.head_is
    (g.K.Sink.taken c.write_all.new.sink) c.in-Err.ensures.prefix.0 c.requires.opened.rows.compiled c.requires.ready.accepted c.requires.ready.obedient
    (subst (λ (l : List ℕ). Appends (g.K.Sink.taken c.args.sink.now) (g.K.Sink.taken c.write_all.new.sink) (take c.in-Err.ensures.prefix.0 l)) c.as_slice.ensures.value c.in-Err.ensures.prefix.1)

pub returns-in-Err-ran-clause-front : goal.returns-in-Err-ran-clause-front
returns-in-Err-ran-clause-front g c =
    let w : Workload = workload (g.B.Board.set c.args.run.board) (map g.Y.Body.gives c.args.run.bodies.items) c.args.run.ticks.now in
    in_lines c.args.report.names.now c.args.report.admitted w c.args.report.head.items (g.K.Sink.taken c.args.sink.now) c.requires.opened.head_is (g.K.Sink.taken c.write_all.new.sink) _
    (subst (λ (l : List ℕ). Appends (g.K.Sink.taken c.args.sink.now) (g.K.Sink.taken c.write_all.new.sink) l) c.as_slice.ensures.value c.in_default.ensures.all) (search rules)

pub returns-in-Ok-clause-front : goal.returns-in-Ok-clause-front
returns-in-Ok-clause-front g c =
    let w : Workload = workload (g.B.Board.set c.args.run.board) (map g.Y.Body.gives c.args.run.bodies.items) c.args.run.ticks.now in
    let q = c.run_lines-ran.new.out in
    closed_front c.write_closing.result c.args.report.names.now c.args.report.admitted w c.args.report.head.items (g.K.Sink.taken c.args.sink.now) (g.K.Sink.taken c.write_all.new.sink) _ _
    c.requires.opened.head_is (g.B.Board.stands c.in-Ok.board) (g.B.Board.set c.in-Ok.board) q.writer q.lines.items c.write_closing.ensures.front c.in-Ok.ensures.set
    (subst (λ (l : List ℕ). Appends (g.K.Sink.taken c.args.sink.now) (g.K.Sink.taken c.write_all.new.sink) l) c.as_slice.ensures.value c.in_default.ensures.all) (search rules)

pub returns-in-Ok-clause-whole : goal.returns-in-Ok-clause-whole
returns-in-Ok-clause-whole g c =
    let w : Workload = workload (g.B.Board.set c.args.run.board) (map g.Y.Body.gives c.args.run.bodies.items) c.args.run.ticks.now in
    let q = c.run_lines-ran.new.out in
    closed_whole c.write_closing.result c.args.report.names.now c.args.report.admitted w c.args.report.head.items (g.K.Sink.taken c.args.sink.now) (g.K.Sink.taken c.write_all.new.sink) _ _
    c.requires.opened.head_is (g.B.Board.stands c.in-Ok.board) (g.B.Board.set c.in-Ok.board) q.writer q.lines.items c.write_closing.ensures.all c.in-Ok.ensures.set
    (subst (λ (l : List ℕ). Appends (g.K.Sink.taken c.args.sink.now) (g.K.Sink.taken c.write_all.new.sink) l) c.as_slice.ensures.value c.in_default.ensures.all) (search rules)
