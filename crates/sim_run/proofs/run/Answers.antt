use Rattle.std.proofs.Common.{List, [], ◌++◌, map, refl, sym, subst, ◌∙◌, arith}
use Rattle.std.proofs.lemmas.Result.{IfOk-weaker, on_err_weaker}
use Rattle.step_journal.specs.declared.entry.Entry.{Entry}
use Rattle.law_histories.specs.Sim.{plans_from}
use Rattle.sim_run.specs.Workloads.{workload}
use Rattle.sim_run.specs.Handed.{CanTake, IsHanded, IsCut}
use Rattle.sim_run.proofs.Planning.{releases_legal}
use Rattle.sim_run.proofs.Runs.{nothing_kept, begins, follows_first}
use Rattle.sim_run.proofs.Handing.{none_handed, take_all, on_err, cut_then, handed_then}
use Rattle.sim_run.proofs.Whole.{can_call, way_on, way_handed, nearer, way_good, way_stopped, way_whole, way_ended}
use Rattle.sim_run.proofs.run.Goals as goal

pub plan_all-requires-clause-legal : goal.plan_all-requires-clause-legal
plan_all-requires-clause-legal g c = ([], c.requires.opened, releases_legal _ _ c.requires.accepted)

pub plan_all-requires-clause-good : goal.plan_all-requires-clause-good
plan_all-requires-clause-good g c =
    let is = g.met.B.Board.is_history c.args.board.now [] c.requires.opened in
    let can = way_good (workload (g.B.Board.set c.args.board.now) (map g.Y.Body.gives c.args.bodies.now) c.args.releases.now) _ _ _ _ _ _ _ refl is.compiled (releases_legal _ _ c.requires.accepted) c.requires.obedient (begins _) c.requires.good (λ s h. h) (none_handed _ _) in
    subst (λ (l : List Entry). CanTake (g.O.EntryOut.got c.args.out.now) (g.O.EntryOut.good c.args.out.now) (l ++ plans_from 0 c.args.releases.now)) (sym (nothing_kept _ _ _ _ is)) can

pub returns-in_err-plan_all-clause-stopped : goal.returns-in_err-plan_all-clause-stopped
returns-in_err-plan_all-clause-stopped g c =
    let is = g.met.B.Board.is_history c.args.board.now [] c.requires.opened in
    let cut = subst (λ (l : List Entry). IsCut (g.O.EntryOut.got c.args.out.now) (g.O.EntryOut.got c.plan_all.new.out) (g.O.EntryOut.lost c.plan_all.new.out) (l ++ plans_from 0 c.args.releases.now)) (nothing_kept _ _ _ _ is) c.in_err-plan_all.ensures.stopped in
    on_err c.from_residual.result _ (way_stopped _ _ _ _ _ _ refl is.compiled (releases_legal _ _ c.requires.accepted) c.requires.obedient (begins _) cut)

pub loop-board-init : goal.loop-board-init
loop-board-init g c =
    let none = nothing_kept _ _ _ _ (g.met.B.Board.is_history c.args.board.now [] c.requires.opened) in
    record {
      way = record {
        history = plans_from 0 c.args.releases.now;
        stood = c.in_ok-plan_all.ensures.stands [] c.requires.opened;
        under_way = begins (workload (g.B.Board.set c.args.board.now) (map g.Y.Body.gives c.args.bodies.now) c.args.releases.now);
        follows = λ tx body serial b s.
            let begun = c.begin_all.ensures.begun tx body serial b s in
            follows_first (g.Y.Body.stands body) (g.B.Board.set c.args.board.now) c.args.releases.now tx serial begun.0 begun.1;
        handed = subst (λ (l : List Entry). IsHanded (g.O.EntryOut.got c.args.out.now) (g.O.EntryOut.got c.plan_all.new.out) (l ++ plans_from 0 c.args.releases.now) (g.B.Board.kept c.plan_all.new.board)) none c.in_ok-plan_all.ensures.passed;
      };
      none_lost = c.in_ok-plan_all.ensures.none_lost;
      ready = record {
        few = c.in_ok-plan_all.ensures.few;
        more = omega (arith, c.requires.room, c.plan_all.ensures.fixed.1);
      };
      later = c.plan_all.ensures.cause.later;
      good = c.plan_all.ensures.good;
      fixed = c.plan_all.ensures.fixed;
      same = c.begin_all.ensures.same;
    }

pub next_call-requires-clause-ready : goal.next_call-requires-clause-ready
next_call-requires-clause-ready g c =
    let i = c.loop-board.invariant in
    (i.way.history, can_call _ _ _ _ _ _ _ _ _ _ _ _ i.fixed.0 i.same c.requires.obedient i.way (g.met.B.Board.is_history c.loop-board.board i.way.history i.way.stood).legal)

pub hand_piece-requires-clause-good : goal.hand_piece-requires-clause-good
hand_piece-requires-clause-good g c =
    let i = c.loop-board.invariant in
    let next = (way_on i.fixed.0 i.same c.next_call.ensures.fixed.2 c.requires.obedient i.way (g.met.B.Board.is_history c.loop-board.board) (g.met.B.Board.is_history c.next_call.new.board) c.next_call.ensures.called c.loop-board-test.true).0 in
    let last = g.met.B.Board.is_history c.next_call.new.board next.history next.stood in
    take_all _ _ _ (way_good _ _ _ _ _ _ _ _ (c.next_call.ensures.fixed.0 ∙ i.fixed.0) last.compiled last.legal c.requires.obedient next.under_way c.requires.good i.good next.handed)

pub loop-board-smaller : goal.loop-board-smaller
loop-board-smaller g c =
    let i = c.loop-board.invariant in let is = g.met.B.Board.is_history c.loop-board.board i.way.history i.way.stood in
    let on = way_on i.fixed.0 i.same c.next_call.ensures.fixed.2 c.requires.obedient i.way (g.met.B.Board.is_history c.loop-board.board) (g.met.B.Board.is_history c.next_call.new.board) c.next_call.ensures.called c.loop-board-test.true in let next = on.0 in
    let last = g.met.B.Board.is_history c.hand_piece.new.board next.history (c.hand_piece.ensures.stands next.history next.stood) in
    nearer _ _ _ _ _ _ _ _ _ (c.hand_piece.ensures.fixed.0 ∙ c.next_call.ensures.fixed.0 ∙ i.fixed.0) last.compiled last.legal next.under_way is.counted last.counted on.1 refl

pub loop-board-preserved : goal.loop-board-preserved
loop-board-preserved g c =
    let i = c.loop-board.invariant in
    let next = (way_on i.fixed.0 i.same c.next_call.ensures.fixed.2 c.requires.obedient i.way (g.met.B.Board.is_history c.loop-board.board) (g.met.B.Board.is_history c.next_call.new.board) c.next_call.ensures.called c.loop-board-test.true).0 in
    record {
      way = way_handed _ _ _ _ _ _ _ _ _ _ _ c.hand_piece.ensures.stands next c.in_ok-hand_piece.ensures.passed;
      none_lost = c.in_ok-hand_piece.ensures.none_lost;
      ready = record {
        few = c.hand_piece.ensures.few;
        more = omega (arith, i.ready.more, c.next_call.ensures.fixed.1, c.hand_piece.ensures.fixed.1);
      };
      later = omega (arith, i.later, c.hand_piece.ensures.cause.later);
      good = λ history h. c.hand_piece.ensures.good history (i.good history h);
      fixed = (c.hand_piece.ensures.fixed.0 ∙ c.next_call.ensures.fixed.0 ∙ i.fixed.0, c.hand_piece.ensures.fixed.1 ∙ c.next_call.ensures.fixed.1 ∙ i.fixed.1);
      same = c.next_call.ensures.same ∙ i.same;
    }

pub returns-in_err-hand_piece-clause-stopped : goal.returns-in_err-hand_piece-clause-stopped
returns-in_err-hand_piece-clause-stopped g c =
    let i = c.loop-board.invariant in
    let next = (way_on i.fixed.0 i.same c.next_call.ensures.fixed.2 c.requires.obedient i.way (g.met.B.Board.is_history c.loop-board.board) (g.met.B.Board.is_history c.next_call.new.board) c.next_call.ensures.called c.loop-board-test.true).0 in
    let last = g.met.B.Board.is_history c.next_call.new.board next.history next.stood in
    on_err c.from_residual-in_err-hand_piece.result _ (way_stopped _ _ _ _ _ _ (c.next_call.ensures.fixed.0 ∙ i.fixed.0) last.compiled last.legal c.requires.obedient next.under_way (cut_then _ _ _ _ _ _ next.handed c.in_err-hand_piece.ensures.stopped))

pub hand_on-requires-clause-good : goal.hand_on-requires-clause-good
hand_on-requires-clause-good g c =
    let i = c.loop-board.invariant in
    let next = way_ended i.fixed.0 i.same c.next_call.ensures.fixed.2 c.requires.obedient i.way (g.met.B.Board.is_history c.loop-board.board) (g.met.B.Board.is_history c.next_call.new.board) c.next_call.ensures.called c.loop-board-test.false in
    let last = g.met.B.Board.is_history c.next_call.new.board next.history next.stood in
    take_all _ _ _ (way_good _ _ _ _ _ _ _ _ (c.next_call.ensures.fixed.0 ∙ i.fixed.0) last.compiled last.legal c.requires.obedient next.under_way c.requires.good i.good next.handed)

pub returns-clause-whole : goal.returns-clause-whole
returns-clause-whole g c =
    let i = c.loop-board.invariant in
    let next = way_ended i.fixed.0 i.same c.next_call.ensures.fixed.2 c.requires.obedient i.way (g.met.B.Board.is_history c.loop-board.board) (g.met.B.Board.is_history c.next_call.new.board) c.next_call.ensures.called c.loop-board-test.false in
    IfOk-weaker c.hand_on.result _ _ (λ u h. way_whole _ _ _ _ next.history next.sim (c.hand_on.ensures.stands next.history next.stood) (handed_then _ _ _ _ _ _ next.handed h)) c.hand_on.ensures.passed

pub returns-clause-stopped : goal.returns-clause-stopped
returns-clause-stopped g c =
    let i = c.loop-board.invariant in
    let next = way_ended i.fixed.0 i.same c.next_call.ensures.fixed.2 c.requires.obedient i.way (g.met.B.Board.is_history c.loop-board.board) (g.met.B.Board.is_history c.next_call.new.board) c.next_call.ensures.called c.loop-board-test.false in
    let last = g.met.B.Board.is_history c.next_call.new.board next.history next.stood in
    on_err_weaker c.hand_on.result (λ k. way_stopped _ _ _ _ _ _ (c.next_call.ensures.fixed.0 ∙ i.fixed.0) last.compiled last.legal c.requires.obedient next.under_way (cut_then _ _ _ _ _ _ next.handed k)) c.hand_on.ensures.stopped
