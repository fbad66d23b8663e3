use Rattle.std.proofs.Common.{◌≡◌, ◌-◌, ◌∙◌, ℕ, length, ap, sym, subst, arith}
use Rattle.step_journal.specs.History.{IsLegal}
use Rattle.txn_set.specs.Set.{Set}
use Rattle.board.specs.Histories.{noted, step_entry, step_answer, now_of}
use Rattle.shared_plant.proofs.shared_board.SharedBoard.step.Goals as goal

pub returns-clause-fixed : goal.returns-clause-fixed
returns-clause-fixed g c =
    let at = c.deref_mut.ensures.value in let f = c.step-reply.ensures.fixed in
    (f.0 ∙ ap g.B.Board.set at, f.1 ∙ ap g.B.Board.room at, f.2 ∙ ap g.B.Board.first at)

pub returns-clause-answer : goal.returns-clause-answer
returns-clause-answer g c = λ history stood.
    let b = c.args.self.now.board.value in let at = c.deref_mut.ensures.value in
    let counted = (g.met.B.Board.is_history b history stood).counted in
    let kept : length (g.B.Board.kept b) ≡ length history - g.B.Board.first b = omega arith in
    let said = c.step-reply.ensures.answer history (subst (λ x. g.B.Board.stands x history) (sym at) stood) in
    said
    ∙ (ap (λ x. step_answer (g.B.Board.set x) history (length (g.B.Board.kept x)) (g.B.Board.room x) c.args.job c.args.op) at
    ∙ ap (λ (n : ℕ). step_answer (g.B.Board.set b) history n (g.B.Board.room b) c.args.job c.args.op) kept)

pub returns-clause-entry : goal.returns-clause-entry
returns-clause-entry g c = λ history stood.
    let now = c.now-now.ensures history (subst (λ x. g.B.Board.stands x history) (sym c.deref.ensures) stood) ∙ ap (λ x. now_of (g.B.Board.set x) history) c.deref.ensures in
    c.entry_of_step-entry.ensures ∙ ap (λ (n : ℕ). step_entry n c.args.job c.args.op c.step-reply.result) now

pub returns-clause-after : goal.returns-clause-after
returns-clause-after g c = λ history stood.
    let b = c.args.self.now.board.value in let at = c.deref_mut.ensures.value in
    let entry = c.entry_of_step-entry.result in
    let now = c.now-now.ensures history (subst (λ x. g.B.Board.stands x history) (sym c.deref.ensures) stood) ∙ ap (λ x. now_of (g.B.Board.set x) history) c.deref.ensures in
    let is = c.entry_of_step-entry.ensures ∙ ap (λ (n : ℕ). step_entry n c.args.job c.args.op c.step-reply.result) now in
    let next = c.step-reply.ensures.after history (subst (λ x. g.B.Board.stands x history) (sym at) stood) in
    let there = subst (λ x. g.B.Board.stands c.step-reply.new.self (noted history (step_entry (now_of (g.B.Board.set x) history) c.args.job c.args.op c.step-reply.result))) at next in
    let stands = subst (λ o. g.B.Board.stands c.step-reply.new.self (noted history o)) (sym is) there in
    let counted = (g.met.B.Board.is_history b history stood).counted in record {
      stood = stands;
      legal = subst (λ (z : Set). IsLegal z (noted history entry)) (c.step-reply.ensures.fixed.0 ∙ ap g.B.Board.set at) (g.met.B.Board.is_history c.step-reply.new.self (noted history entry) stands).legal;
      within = omega arith;
    }
