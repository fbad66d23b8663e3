use Rattle.std.proofs.Common.{◌≡◌, ◌≤◌, ℕ, List, None, length, refl, sym, ap, subst, ◌∙◌, arith}
use Rattle.rt_base.specs.declared.ids.TxId.{TxId}
use Rattle.step_journal.specs.declared.entry.Entry.{Entry}
use Rattle.txn_set.specs.Set.{Set}
use Rattle.turn_cell.specs.declared.view.View.{View}
use Rattle.board.specs.Histories.{running_of}
use Rattle.shared_plant.specs.Seats.{PlantFacts, SeatFacts, facts_of}
use Rattle.shared_plant.specs.Answers.{turned}
use Rattle.shared_plant.specs.Steps.{Stepped}
use Rattle.step_journal.specs.History.{IsLegal}
use Rattle.shared_plant.proofs.Answering.{the_tx}
use Rattle.shared_plant.proofs.Turns.{held_taken, sound_taken, gone_steps, counted_gone, given_facts, given_kept, stepped_of}
use Rattle.shared_plant.proofs.plant.Plant.try_steps.Goals as goal

pub settle-seat-inside-requires : goal.settle-seat-inside-requires
settle-seat-inside-requires g c =
    let said = c.in-Some-try_take.ensures in let b = c.in-Some-try_take.taken.value.board.value in
    let history : List Entry = c.try_take.new.seat.view.seen in
    let s = turned (facts_of c.seat.inside.seat c.seat.inside.tx) history (g.B.Board.first b) None in
    let held = held_taken c.seat.inside.seat c.try_take.new.seat c.seat.inside.tx c.seat.inside.front history (g.B.Board.first b) c.seat.invariant said.cell said.some.0 in
    let k = c.step_on.ensures.steps s held refl in
    let gone = gone_steps g.A.Asker.asks g.A.Asker.hears _ _ _ 64 _ _ s k.0 k.2 in
    let f = c.step_on.ensures.fixed in record {
      cell = k.1.0 ∙ (gone.plant ∙ (ap (λ (x : SeatFacts). x.plant) c.seat.view_is ∙ (c.requires.plant.0 ∙ sym (ap (λ (p : PlantFacts). p.id) c.self.view_is))));
      turn = ap (λ (v : View Entry). v.holds) k.1.1;
      history = c.step_on.ensures.stands;
      fixed = (f.0 ∙ ap (λ (q : Set × ℕ). q.0) said.history.2, f.1 ∙ ap (λ (q : Set × ℕ). q.1) said.history.2);
      first = f.2 ∙ (sym said.some.1 ∙ sym (counted_gone s k.0 c.try_take.new.seat c.step_on.new.seat held k.1 gone));
    }

pub invariant_of-seat-2 : goal.invariant_of-seat-2
invariant_of-seat-2 g c =
    let said = c.in-Some-try_take.ensures in let b = c.in-Some-try_take.taken.value.board.value in
    let history : List Entry = c.try_take.new.seat.view.seen in
    let s = turned (facts_of c.seat.inside.seat c.seat.inside.tx) history (g.B.Board.first b) None in
    let held = held_taken c.seat.inside.seat c.try_take.new.seat c.seat.inside.tx c.seat.inside.front history (g.B.Board.first b) c.seat.invariant said.cell said.some.0 in
    let k = c.step_on.ensures.steps s held refl in
    let gone = gone_steps g.A.Asker.asks g.A.Asker.hears _ _ _ 64 _ _ s k.0 k.2 in
    given_kept k.0 c.step_on.new.seat c.settle-seat-inside.new.seat c.seat.inside.tx c.settle-seat-inside.result k.1 c.settle-seat-inside.ensures.cell c.settle-seat-inside.ensures.view gone.tx
    (gone.sound (sound_taken c.seat.inside.seat c.seat.inside.tx c.seat.inside.front history (g.B.Board.first b) c.seat.invariant said.history.0)) c.settle-seat-inside.ensures.front

pub returns-clause-said : goal.returns-clause-said
returns-clause-said g c = λ tx e.
    let said = c.in-Some-try_take.ensures in let b = c.in-Some-try_take.taken.value.board.value in
    let history : List Entry = c.try_take.new.seat.view.seen in
    let old : SeatFacts = facts_of c.seat.inside.seat c.seat.inside.tx in
    let s = turned old history (g.B.Board.first b) None in
    let held = held_taken c.seat.inside.seat c.try_take.new.seat c.seat.inside.tx c.seat.inside.front history (g.B.Board.first b) c.seat.invariant said.cell said.some.0 in
    let k = c.step_on.ensures.steps s held refl in
    let gone = gone_steps g.A.Asker.asks g.A.Asker.hears _ _ _ 64 _ _ s k.0 k.2 in
    let seen : c.step_on.new.seat.view.seen ≡ k.0.seen = ap (λ (v : View Entry). v.seen) k.1.1 in
    let x = c.step_on.new.taken.value.board.value in
    let at = c.deref.ensures ∙ ap (λ z. z.board.value) c.value.ensures in
    let set_is = c.step_on.ensures.fixed.0 in
    let is = g.met.B.Board.is_history x c.step_on.new.seat.view.seen c.step_on.ensures.stands in
    let begun = (g.met.B.Board.is_history b history said.history.1).counted in
    let within : g.B.Board.first b ≤ length history = omega arith in
    let same : c.in-Some.tx ≡ tx = ap (the_tx tx) (sym c.in-Some.is ∙ (ap (λ (f : SeatFacts). f.tx) c.seat.view_is ∙ e)) in
    let ran = c.running-running.ensures c.step_on.new.seat.view.seen (subst (λ z. g.B.Board.stands z c.step_on.new.seat.view.seen) (sym at) c.step_on.ensures.stands) in
    subst (λ (t : TxId). Stepped g.A.Asker.asks g.A.Asker.hears c.args.self.now (record { tx = t; serial = c.args.serial }) 64 c.running-running.result c.args.asker.now c.step_on.new.asker c.args.seat.now (facts_of c.settle-seat-inside.new.seat c.seat.inside.tx)) same
    (stepped_of g.A.Asker.asks g.A.Asker.hears c.args.self.now (g.B.Board.set b) (g.B.Board.room b) (record { tx = c.in-Some.tx; serial = c.args.serial }) c.running-running.result c.args.asker.now c.step_on.new.asker old c.args.seat.now k.0 (facts_of c.settle-seat-inside.new.seat c.seat.inside.tx) history (g.B.Board.first b)
    (ap (λ (q : Set × ℕ). q.0) said.history.2 ∙ ap (λ (p : PlantFacts). p.set) c.self.view_is) (ap (λ (q : Set × ℕ). q.1) said.history.2 ∙ ap (λ (p : PlantFacts). p.room) c.self.view_is)
    c.seat.view_is (sym (given_facts k.0 c.step_on.new.seat c.settle-seat-inside.new.seat c.seat.inside.tx k.1 c.settle-seat-inside.ensures.cell c.settle-seat-inside.ensures.view gone.tx))
    said.history.0 said.base within k.2
    (ran ∙ (λ i. running_of ((ap g.B.Board.set at ∙ set_is) i) (seen i)))
    (subst (λ (q : Set × List Entry). IsLegal q.0 q.1) (λ i. (set_is i, seen i)) is.legal))
