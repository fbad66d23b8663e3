use Rattle.std.proofs.Common.{◌≡◌, ◌+◌, ◌≤◌, ◌∙◌, ℕ, length, map, ap, sym, subst}
use Rattle.txn_set.specs.Set.{Set}
use Rattle.turn_cell.specs.Turn.{total, times_in, below}
use Rattle.shared_plant.specs.Seats.{PlantFacts, Closed, view_of}
use Rattle.shared_plant.proofs.Closing.{closed}
use Rattle.shared_plant.proofs.plant.Plant.close.Goals as goal

pub returns-clause-closed : goal.returns-clause-closed
returns-clause-closed g c =
    let w = c.in-Ok.ensures.whole in
    let start_is = ap (λ (p : PlantFacts). p.start) c.self.view_is in
    let set_is = ap (λ (q : Set × ℕ). q.0) w.same ∙ ap (λ (p : PlantFacts). p.set) c.self.view_is in
    let room_is = ap (λ (q : Set × ℕ). q.1) w.same ∙ ap (λ (p : PlantFacts). p.room) c.self.view_is in
    subst (λ b. Closed g.B.Board.stands g.B.Board.set g.B.Board.room g.B.Board.first g.B.Board.kept c.args.self b c.args.seats.items) (sym c.into_board.ensures)
    (closed g.B.Board.stands g.B.Board.set g.B.Board.room g.B.Board.first g.B.Board.kept (λ b history. g.met.B.Board.is_history b history) c.args.self c.in-Ok.shared.board.value c.args.seats.items
    w.history w.stood set_is room_is
    (subst (λ (n : ℕ). n ≤ length w.history) start_is w.began)
    w.each
    (λ place. subst (λ (n : ℕ). total (times_in place) (map view_of c.args.seats.items) + below place n ≡ below place (length w.history)) start_is (w.placed place))
    w.marked w.drained)
