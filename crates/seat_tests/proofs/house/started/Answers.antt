use Rattle.std.proofs.Common.{[], length}
use Rattle.seat_tests.proofs.Freshness.{all_fresh}
use Rattle.seat_tests.proofs.house.started.Goals as goal

pub returns-in-Ok-clause-seats : goal.returns-in-Ok-clause-seats
returns-in-Ok-clause-seats g c =
    let e = c.in-Ok.ensures in let r = c.in-Ok.started in
    all_fresh r.0 r.0.id [] (g.B.Board.first c.args.board) (length (g.B.Board.set c.args.board).txns) r.1.items e.seats e.members
