use Rattle.std.proofs.Common.{rules, ◌<◌, [], length, map, sym, ◌∙◌, arith, inl, inr}
use Rattle.sim_run.specs.Workloads.{workload}
use Rattle.sim_run.proofs.Asks.{job_in_set}
use Rattle.sim_run.proofs.Calls.{map_set_same, can_ask, next_body, idled, called_by, called_idle, called_none}
use Rattle.sim_run.proofs.next_call.Goals as goal

pub offset_bounds-bodies-tx : goal.offset_bounds-bodies-tx
offset_bounds-bodies-tx g c =
    let can = c.requires.ready.1 in let is = g.met.B.Board.is_history c.args.board.now c.requires.ready.0 can.stands in
    let lt : c.in-Some.job.tx.0 < length (g.B.Board.set c.args.board.now).txns = job_in_set _ _ c.in-Some.job is.compiled is.legal (sym (c.running.ensures _ can.stands) ∙ c.in-Some.is) in
    let within : c.in-Some.job.tx.0 < length c.args.bodies.now = omega (arith, lt, c.requires.each.0) in
    search rules

pub bounds-bodies-tx : goal.bounds-bodies-tx
bounds-bodies-tx g c =
    let can = c.requires.ready.1 in let is = g.met.B.Board.is_history c.args.board.now c.requires.ready.0 can.stands in
    let lt : c.in-Some.job.tx.0 < length (g.B.Board.set c.args.board.now).txns = job_in_set _ _ c.in-Some.job is.compiled is.legal (sym (c.running.ensures _ can.stands) ∙ c.in-Some.is) in
    omega (arith, lt, c.requires.each.0)

pub bounds-serials-tx : goal.bounds-serials-tx
bounds-serials-tx g c =
    let can = c.requires.ready.1 in let is = g.met.B.Board.is_history c.args.board.now c.requires.ready.0 can.stands in
    let lt : c.in-Some.job.tx.0 < length (g.B.Board.set c.args.board.now).txns = job_in_set _ _ c.in-Some.job is.compiled is.legal (sym (c.running.ensures _ can.stands) ∙ c.in-Some.is) in
    omega (arith, lt, c.requires.each.1)

pub ask-requires-clause-ready : goal.ask-requires-clause-ready
ask-requires-clause-ready g c =
    let history = c.requires.ready.0 in let can = c.requires.ready.1 in
    (history, can_ask g.Y.Body.gives c.index-bodies-tx.result can (g.met.B.Board.is_history c.args.board.now history can.stands) (sym (c.running.ensures _ can.stands) ∙ c.in-Some.is) c.requires.each.0 c.requires.each.1)

pub unreachable-requires : goal.unreachable-requires
unreachable-requires g c =
    let can = c.requires.ready.1 in
    elim (idled (workload (g.B.Board.set c.args.board.now) (map g.Y.Body.gives c.args.bodies.now) []) c.requires.ready.0 _ _ c.idle.result (sym (c.running.ensures _ can.stands) ∙ c.in-None.is) c.requires.room (c.idle.ensures.answer _ can.stands)) [
      | inl n ↦ c.in_default.not-Nothing n.0
      | inr a ↦ c.in_default.not-Advanced a.0 a.1
    ]

pub returns-in-Some-clause-called : goal.returns-in-Some-clause-called
returns-in-Some-clause-called g c = λ history can.
    let is = g.met.B.Board.is_history c.args.board.now history can.stands in let run = sym (c.running.ensures _ can.stands) ∙ c.in-Some.is in
    let asked = c.ask.ensures.asked history (can_ask g.Y.Body.gives c.index-bodies-tx.result can is run c.requires.each.0 c.requires.each.1) in
    let lt : c.in-Some.job.tx.0 < length (g.B.Board.set c.args.board.now).txns = job_in_set _ _ c.in-Some.job is.compiled is.legal run in
    called_by _ _ _ (g.B.Board.set c.ask.new.board) _ _ _ history _ _ c.in-Some.job _ c.ask.new.body c.ask.new.serial is.compiled is.legal c.ask.ensures.fixed.0 can.follows
    (next_body g.Y.Body.gives _ history c.args.bodies.now c.in-Some.job c.index-bodies-tx.result run (omega (arith, lt, c.requires.each.0))) asked (g.met.B.Board.is_history c.ask.new.board asked.after asked.stands)

pub returns-in-Some-clause-same : goal.returns-in-Some-clause-same
returns-in-Some-clause-same g c = map_set_same g.Y.Body.gives c.args.bodies.now c.in-Some.job.tx.0 c.index-bodies-tx.result c.ask.new.body c.ask.ensures.same

pub returns-in-Advanced-clause-called : goal.returns-in-Advanced-clause-called
returns-in-Advanced-clause-called g c = λ history can.
    let is = g.met.B.Board.is_history c.args.board.now history can.stands in
    called_idle _ _ _ _ _ history _ _ c.idle.result c.in-Advanced.to is.compiled is.legal c.requires.room (sym (c.running.ensures _ can.stands) ∙ c.in-None.is) (c.idle.ensures.answer history can.stands) c.in-Advanced.is (c.idle.ensures.after history can.stands) can.follows

pub returns-in-Nothing-clause-called : goal.returns-in-Nothing-clause-called
returns-in-Nothing-clause-called g c = λ history can.
    let is = g.met.B.Board.is_history c.args.board.now history can.stands in
    called_none _ _ _ _ _ history _ _ c.idle.result is.compiled is.legal c.requires.room (sym (c.running.ensures _ can.stands) ∙ c.in-None.is) (c.idle.ensures.answer history can.stands) c.in-Nothing.is (c.idle.ensures.after history can.stands) can.follows
