use Rattle.std.proofs.Common.{ap}
use Rattle.shared_plant.specs.Seats.{SeatFacts}
use Rattle.seat_tests.proofs.calls.replied.Goals as goal

pub returns-in-Said : goal.returns-in-Said
returns-in-Said g c =
    let tx = c.requires.1 in let a = c.in-Said.ensures.said tx.0 tx.1 in
    (ap (λ (s : SeatFacts). s.plant) a.after, ap (λ (s : SeatFacts). s.tx) a.after)
