use Rattle.std.proofs.Common.{ap}
use Rattle.shared_plant.specs.Seats.{SeatFacts}
use Rattle.seat_tests.proofs.held.is_step_busy.Goals as goal

pub returns-in-Said-clause-same : goal.returns-in-Said-clause-same
returns-in-Said-clause-same g c =
    let tx = c.requires.1 in let a = c.in-Said.ensures.said tx.0 tx.1 in
    (ap (λ (s : SeatFacts). s.plant) a.after, ap (λ (s : SeatFacts). s.tx) a.after)
