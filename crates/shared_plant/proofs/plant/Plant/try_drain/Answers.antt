use Rattle.std.proofs.Common.{◌≡◌, ◌+◌, ◌-◌, ◌≤◌, ◌++◌, ◌∙◌, ℕ, List, length, min, take, drop, vec_len, vec_capacity, ap, sym, subst}
use Rattle.step_journal.specs.declared.entry.Entry.{Entry}
use Rattle.txn_set.specs.Set.{Set}
use Rattle.turn_cell.specs.declared.view.View.{View}
use Rattle.turn_cell.specs.Turn.{draining, released}
use Rattle.shared_plant.specs.Seats.{PlantFacts, SeatFacts}
use Rattle.shared_plant.proofs.Kept.{kept_drained, operator_counts, operator_drained}
use Rattle.shared_plant.proofs.Drains.{drained_of}
use Rattle.shared_plant.proofs.plant.Plant.try_drain.Goals as goal

pub drained-requires : goal.drained-requires
drained-requires g c =
    let said = c.in-Some.ensures in
    let b = c.in-Some.taken.value.board.value in
    let n = c.drain-count.result in let u = c.try_take.new.seat in
    let none = ap (λ (f : SeatFacts). f.tx) c.seat.view_is ∙ c.requires.operator in
    let first = ap (λ x. g.B.Board.first x.board.value) c.value_mut.ensures.value in
    let d = operator_drained c.seat.inside.seat u (record { cell = u.cell; view = draining u.view n }) c.seat.inside.tx c.seat.inside.front (g.B.Board.first b) n u.view.seen c.seat.invariant none said.some.0 said.some.1 (λ i. draining u.view n) in record {
      cell = said.cell ∙ (ap (λ (f : SeatFacts). f.plant) c.seat.view_is ∙ (c.requires.plant.0 ∙ sym (ap (λ (p : PlantFacts). p.id) c.self.view_is)));
      turn = (ap (λ (v : View Entry). v.holds) said.some.0, d.0);
      first = c.drain-count.ensures.fixed.2 ∙ ap (λ (m : ℕ). m + n) (first ∙ sym d.1);
    }

pub give-requires : goal.give-requires
give-requires g c =
    let said = c.in-Some.ensures in
    let history : List Entry = c.try_take.new.seat.view.seen in
    let b = c.in-Some.taken.value.board.value in
    let n = c.drain-count.result in
    let same = c.drained.ensures.same in let view = c.drained.ensures.drained in let fixed = c.drain-count.ensures.fixed in
    let value = ap (λ x. x.board.value) c.value_mut.ensures.value in
    let none = ap (λ (f : SeatFacts). f.tx) c.seat.view_is ∙ c.requires.operator in
    let stood = subst (λ x. g.B.Board.stands x history) (sym value) said.history.1 in
    let after = c.drain-count.ensures.after history stood in
    let d = operator_drained c.seat.inside.seat c.try_take.new.seat c.drained.new.seat c.seat.inside.tx c.seat.inside.front (g.B.Board.first b) n history c.seat.invariant none said.some.0 said.some.1 view in record {
      cell = c.drained.ensures.cell ∙ (said.cell ∙ (ap (λ (f : SeatFacts). f.plant) c.seat.view_is ∙ (c.requires.plant.0 ∙ sym (ap (λ (p : PlantFacts). p.id) c.self.view_is))));
      turn = ap (λ (v : View Entry). v.holds) view ∙ ap (λ (v : View Entry). v.holds) said.some.0;
      history = subst (λ (v : View Entry). g.B.Board.stands c.drained.new.held.value.board.value v.seen) (sym view) (subst (λ x. g.B.Board.stands x.board.value history) (sym same) after.stood);
      fixed = ap (λ x. (g.B.Board.set x.board.value, g.B.Board.room x.board.value)) same
          ∙ ((λ i. (fixed.0 i, fixed.1 i)) ∙ (ap (λ x. (g.B.Board.set x, g.B.Board.room x)) value ∙ said.history.2));
      first = ap (λ x. g.B.Board.first x.board.value) same ∙ (fixed.2 ∙ (ap (λ x. g.B.Board.first x + n) value ∙ sym d.2));
    }

pub invariant_of-seat-2 : goal.invariant_of-seat-2
invariant_of-seat-2 g c =
    let said = c.in-Some.ensures in
    let history : List Entry = c.try_take.new.seat.view.seen in
    let n = c.drain-count.result in
    let s = c.seat.inside.seat in let tx = c.seat.inside.tx in
    let b = c.in-Some.taken.value.board.value in
    let stood = subst (λ x. g.B.Board.stands x.board.value history) (sym c.value_mut.ensures.value) said.history.1 in
    let after = c.drain-count.ensures.after history stood in
    let none = ap (λ (f : SeatFacts). f.tx) c.seat.view_is ∙ c.requires.operator in
    let counts = operator_counts s c.try_take.new.seat tx c.seat.inside.front (g.B.Board.first b) history c.seat.invariant none said.some.0 said.some.1 in
    let first = ap (λ x. g.B.Board.first x.board.value) c.value_mut.ensures.value in
    kept_drained s c.give.new.seat tx c.seat.inside.front c.count-front.result history (g.B.Board.first b) n c.seat.invariant said.history.0
    (c.give.ensures.given ∙ (ap released c.drained.ensures.drained ∙ ap (λ (v : View Entry). released (draining v n)) said.some.0))
    (sym (c.count-front.ensures history (subst (λ b. g.B.Board.stands b history) (sym c.deref.ensures) (subst (λ x. g.B.Board.stands x.board.value history) (sym c.value.ensures) after.stood))))
    (subst (λ (k : ℕ). k + n ≤ length history) (first ∙ sym counts) (c.drain-count.ensures.within history stood))

pub returns-clause-said : goal.returns-clause-said
returns-clause-said g c =
    let said = c.in-Some.ensures in
    let history : List Entry = c.try_take.new.seat.view.seen in
    let n = c.drain-count.result in
    let s = c.seat.inside.seat in let tx = c.seat.inside.tx in
    let b = c.in-Some.taken.value.board.value in
    let value = ap (λ x. x.board.value) c.value_mut.ensures.value in
    let first = ap g.B.Board.first value in
    let stood = subst (λ x. g.B.Board.stands x history) (sym value) said.history.1 in
    let none = ap (λ (f : SeatFacts). f.tx) c.seat.view_is ∙ c.requires.operator in
    let counts = operator_counts s c.try_take.new.seat tx c.seat.inside.front (g.B.Board.first b) history c.seat.invariant none said.some.0 said.some.1 in
    let drain = c.drain-count.ensures in
    drained_of c.args.self.now c.args.most (vec_capacity c.args.into.now - vec_len c.args.into.now) c.args.into.now.items c.drain-count.new.into.items n s c.give.new.seat tx c.args.seat.now history
    (g.B.Board.first b) (g.B.Board.room c.value_mut.result.now.board.value) (g.B.Board.set c.drain-count.new.self.board.value)
    c.seat.view_is counts said.history.0 said.base
    (subst (λ (k : ℕ). c.drain-count.new.into.items ≡ c.args.into.now.items ++ take n (drop k history)) first (drain.moved history stood))
    (subst (λ (k : ℕ). k + n ≤ length history) first (drain.within history stood))
    (subst (λ (k : ℕ). length history - k ≤ g.B.Board.room c.value_mut.result.now.board.value) first (drain.fits history stood))
    (ap g.B.Board.room value ∙ (ap (λ (q : Set × ℕ). q.1) said.history.2 ∙ ap (λ (p : PlantFacts). p.room) c.self.view_is))
    (subst (λ (k : ℕ). n ≡ min c.args.most (min (length history - k) (vec_capacity c.args.into.now - vec_len c.args.into.now))) first (drain.count history stood))
    (c.give.ensures.cell ∙ (c.drained.ensures.cell ∙ said.cell))
    (c.give.ensures.given ∙ (ap released c.drained.ensures.drained ∙ ap (λ (v : View Entry). released (draining v n)) said.some.0))
    (drain.fixed.0 ∙ (ap g.B.Board.set value ∙ (ap (λ (q : Set × ℕ). q.0) said.history.2 ∙ ap (λ (p : PlantFacts). p.set) c.self.view_is)))
    (g.met.B.Board.is_history c.drain-count.new.self.board.value history (drain.after history stood).stood).legal
