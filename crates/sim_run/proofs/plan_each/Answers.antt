use Rattle.std.proofs.Common.{◌+◌, [], ◌∷◌, ◌++◌, get_or, refl, sym, subst, ◌∙◌, arith}
use Rattle.step_journal.specs.declared.entry.Entry.TheVariants.{Planned}
use Rattle.sim_run.proofs.Planning.{each_answers, each_left, each_handed, plan_noted}
use Rattle.sim_run.proofs.Handing.{handed_on, cut_on, take_front, take_rest, on_err}
use Rattle.sim_run.proofs.plan_each.Goals as goal

pub unreachable-requires : goal.unreachable-requires
unreachable-requires g c =
    let i = c.loop-tick.invariant in let here = i.stands c.requires.legal.0 c.requires.legal.1 in
    each_answers _ _ _ _ here.history _ c.args.tx c.args.ticks.now c.loop-tick.tick-index c.plan.result c.loop-tick-test.true here.parts i.fixed.0 c.requires.in_set c.requires.legal.2 (omega (arith, i.ready.few, i.ready.more)) (c.plan.ensures.answer here.history here.stood) c.in_default.not-Ok

pub hand_piece-requires-clause-good : goal.hand_piece-requires-clause-good
hand_piece-requires-clause-good g c =
    let i = c.loop-tick.invariant in let here = i.stands c.requires.legal.0 c.requires.legal.1 in
    take_front _ _ _ _ (take_rest _ _ _ _ _ _ i.good (each_handed c.args.tx c.args.ticks.now c.loop-tick.tick-index c.loop-tick-test.true (g.met.B.Board.is_history c.loop-tick.board here.history here.stood) (g.met.B.Board.is_history c.plan.new.self _ (c.plan.ensures.after here.history here.stood)) c.plan.ensures.fixed.2 c.in-Ok.is refl i.handed) c.requires.good)

pub returns-in_err-hand_piece-clause-stopped : goal.returns-in_err-hand_piece-clause-stopped
returns-in_err-hand_piece-clause-stopped g c =
    let i = c.loop-tick.invariant in let here = i.stands c.requires.legal.0 c.requires.legal.1 in
    on_err c.from_residual.result _ (cut_on _ _ _ _ _ _ _ (each_handed c.args.tx c.args.ticks.now c.loop-tick.tick-index c.loop-tick-test.true (g.met.B.Board.is_history c.loop-tick.board here.history here.stood) (g.met.B.Board.is_history c.plan.new.self _ (c.plan.ensures.after here.history here.stood)) c.plan.ensures.fixed.2 c.in-Ok.is refl i.handed) c.in_err-hand_piece.ensures.stopped)

pub loop-tick-preserved : goal.loop-tick-preserved
loop-tick-preserved g c =
    let i = c.loop-tick.invariant in let here = i.stands c.requires.legal.0 c.requires.legal.1 in
    let tx = c.args.tx in let ticks = c.args.ticks.now in let n = c.loop-tick.tick-index in
    record {
      handed = handed_on _ _ _ _ _ _ _ (each_handed c.args.tx c.args.ticks.now c.loop-tick.tick-index c.loop-tick-test.true (g.met.B.Board.is_history c.loop-tick.board here.history here.stood) (g.met.B.Board.is_history c.plan.new.self _ (c.plan.ensures.after here.history here.stood)) c.plan.ensures.fixed.2 c.in-Ok.is refl i.handed) c.in_ok-hand_piece.ensures.passed;
      none_lost = c.in_ok-hand_piece.ensures.none_lost;
      stands = λ history h.
          let at = i.stands history h in
          record {
            history = at.history ++ Planned tx (get_or ticks n 0) ∷ [];
            stood = c.hand_piece.ensures.stands _ (subst (g.B.Board.stands c.plan.new.self) (plan_noted at.history tx (get_or ticks n 0) c.plan.result _ c.in-Ok.is) (c.plan.ensures.after at.history at.stood));
            parts = sym (each_left tx ticks n 0 (n + 1) at.history _ c.loop-tick-test.true (omega arith) refl) ∙ at.parts;
          };
      ready = record {
        few = c.hand_piece.ensures.few;
        more = omega (arith, i.ready.more, c.plan.ensures.fixed.1, c.hand_piece.ensures.fixed.1);
      };
      later = omega (arith, i.later, c.hand_piece.ensures.cause.later);
      good = λ history h. c.hand_piece.ensures.good history (i.good history h);
      fixed = (c.hand_piece.ensures.fixed.0 ∙ c.plan.ensures.fixed.0 ∙ i.fixed.0, c.hand_piece.ensures.fixed.1 ∙ c.plan.ensures.fixed.1 ∙ i.fixed.1);
    }
