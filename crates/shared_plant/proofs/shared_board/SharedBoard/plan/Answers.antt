use Rattle.std.proofs.Common.{◌≡◌, ◌-◌, ◌∙◌, ℕ, length, ap, sym, subst, arith}
use Rattle.step_journal.specs.History.{IsLegal}
use Rattle.txn_set.specs.Set.{Set}
use Rattle.board.specs.Histories.{noted, plan_answer}
use Rattle.shared_plant.proofs.shared_board.SharedBoard.plan.Goals as goal

pub returns-clause-fixed : goal.returns-clause-fixed
returns-clause-fixed g c =
    let at = c.deref_mut.ensures.value in let f = c.plan-reply.ensures.fixed in
    (f.0 ∙ ap g.B.Board.set at, f.1 ∙ ap g.B.Board.room at, f.2 ∙ ap g.B.Board.first at)

pub returns-clause-answer : goal.returns-clause-answer
returns-clause-answer g c = λ history stood.
    let b = c.args.self.now.board.value in let at = c.deref_mut.ensures.value in
    let counted = (g.met.B.Board.is_history b history stood).counted in
    let kept : length (g.B.Board.kept b) ≡ length history - g.B.Board.first b = omega arith in
    c.plan-reply.ensures.answer history (subst (λ x. g.B.Board.stands x history) (sym at) stood)
    ∙ (ap (λ x. plan_answer (g.B.Board.set x) history (length (g.B.Board.kept x)) (g.B.Board.room x) c.args.tx.0 c.args.tick) at
    ∙ ap (λ (n : ℕ). plan_answer (g.B.Board.set b) history n (g.B.Board.room b) c.args.tx.0 c.args.tick) kept)

pub returns-clause-entry : goal.returns-clause-entry
returns-clause-entry g c = λ history stood.
    c.entry_of_plan-entry.ensures

pub returns-clause-after : goal.returns-clause-after
returns-clause-after g c = λ history stood.
    let b = c.args.self.now.board.value in let at = c.deref_mut.ensures.value in
    let entry = c.entry_of_plan-entry.result in
    let next = c.plan-reply.ensures.after history (subst (λ x. g.B.Board.stands x history) (sym at) stood) in
    let stands = subst (λ o. g.B.Board.stands c.plan-reply.new.self (noted history o)) (sym (c.entry_of_plan-entry.ensures)) next in
    let counted = (g.met.B.Board.is_history b history stood).counted in record {
      stood = stands;
      legal = subst (λ (z : Set). IsLegal z (noted history entry)) (c.plan-reply.ensures.fixed.0 ∙ ap g.B.Board.set at) (g.met.B.Board.is_history c.plan-reply.new.self (noted history entry) stands).legal;
      within = omega arith;
    }
