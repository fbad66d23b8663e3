use Rattle.std.proofs.Common.{◌≡◌, true}
use Rattle.shared_plant.proofs.Turns.{SoFar}
use Rattle.shared_plant.proofs.turn.step_on.Given as goal

abbrev pub invariant-loop : goal.invariant-loop
invariant-loop g l =
    let was = l.fn.taken.value.board.value in let is = l.taken.value.board.value in
    (l.seat.cell ≡ l.fn.seat.cell) × (l.seat.view.holds ≡ true) × g.B.Board.stands is l.seat.view.seen
    × (g.B.Board.set is ≡ g.B.Board.set was) × (g.B.Board.room is ≡ g.B.Board.room was) × (g.B.Board.first is ≡ g.B.Board.first was)
    × SoFar g.A.Asker.asks g.A.Asker.hears (g.B.Board.set was) (g.B.Board.room was) (g.B.Board.first was) l.job l.counter l.fn.asker l.asker l.fn.seat l.seat
