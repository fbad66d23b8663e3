use Rattle.std.proofs.Common.{◌≡◌, ◌-◌, ℕ, List, length, sym, ap, subst, ◌∙◌}
use Rattle.step_journal.specs.declared.entry.Entry.{Entry}
use Rattle.txn_set.specs.Set.{Set}
use Rattle.turn_cell.specs.declared.view.View.{View}
use Rattle.turn_cell.specs.Turn.{released}
use Rattle.board.specs.Histories.{idle_entry, idle_answer, now_of}
use Rattle.shared_plant.specs.Seats.{PlantFacts, SeatFacts}
use Rattle.shared_plant.specs.Shared.{noting_own}
use Rattle.shared_plant.proofs.Kept.{kept_noted}
use Rattle.shared_plant.proofs.Answering.{answered}
use Rattle.shared_plant.proofs.plant.Plant.try_idle.Goals as goal

pub settle-seat-inside-requires : goal.settle-seat-inside-requires
settle-seat-inside-requires g c =
    let said = c.in-Some.ensures in
    let history : List Entry = c.try_take.new.seat.view.seen in
    let at = ap (λ s. s.board.value) c.value_mut.ensures.value in
    let next = c.idle-reply.ensures.after history (subst (λ b. g.B.Board.stands b history) (sym at) said.history.1) in
    let fixed = c.idle-reply.ensures.fixed in record {
      cell = said.cell ∙ (ap (λ (f : SeatFacts). f.plant) c.seat.view_is ∙ (c.requires.plant.0 ∙ sym (ap (λ (p : PlantFacts). p.id) c.self.view_is)));
      turn = ap (λ (v : View Entry). v.holds) said.some.0;
      history = next.stood;
      fixed = (fixed.0 ∙ (ap g.B.Board.set at ∙ ap (λ (q : Set × ℕ). q.0) said.history.2), fixed.1 ∙ (ap g.B.Board.room at ∙ ap (λ (q : Set × ℕ). q.1) said.history.2));
      first = fixed.2 ∙ (ap g.B.Board.first at ∙ sym said.some.1);
    }

pub invariant_of-seat-2 : goal.invariant_of-seat-2
invariant_of-seat-2 g c =
    let said = c.in-Some.ensures in
    kept_noted c.seat.inside.seat c.settle-seat-inside.new.seat c.seat.inside.tx c.seat.inside.front c.settle-seat-inside.result c.try_take.new.seat.view.seen (g.B.Board.first c.in-Some.taken.value.board.value) c.idle-reply.result.1 c.seat.invariant said.history.0
    (c.settle-seat-inside.ensures.view ∙ ap (λ (v : View Entry). released (noting_own v c.idle-reply.result.1)) said.some.0) c.settle-seat-inside.ensures.front

pub returns-clause-said : goal.returns-clause-said
returns-clause-said g c =
    let said = c.in-Some.ensures in
    let history : List Entry = c.try_take.new.seat.view.seen in
    let at = ap (λ s. s.board.value) c.value_mut.ensures.value in
    let x = c.value_mut.result.now.board.value in
    let stood = subst (λ b. g.B.Board.stands b history) (sym at) said.history.1 in
    let next = c.idle-reply.ensures.after history stood in
    answered g.B.Board.set g.B.Board.room g.B.Board.first
    (λ set room told base. c.idle-reply.result.0 ≡ idle_answer set told (length told - base) room)
    (λ set told. idle_entry (now_of set told) c.idle-reply.result.0)
    x c.in-Some.taken.value.board.value c.self.inside.cell.origin.board.value c.args.self.now c.seat.inside.seat c.try_take.new.seat c.settle-seat-inside.new.seat c.seat.inside.tx c.idle-reply.result.1 c.args.seat.now
    at said.history.2 (ap (λ (p : PlantFacts). p.set) c.self.view_is) (ap (λ (p : PlantFacts). p.room) c.self.view_is)
    said.some.0 said.history.0 said.base
    (c.idle-reply.ensures.answer history stood) (c.idle-reply.ensures.entry history stood) next.legal next.within
    (c.settle-seat-inside.ensures.cell ∙ said.cell) c.settle-seat-inside.ensures.view c.seat.view_is
