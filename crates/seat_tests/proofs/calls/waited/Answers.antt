use Rattle.std.proofs.Common.{ap, ◌∙◌}
use Rattle.shared_plant.specs.Seats.{SeatFacts}
use Rattle.seat_tests.proofs.calls.waited.Goals as goal

pub returns : goal.returns
returns g c =
    let tx = c.requires.1 in let a = c.step.ensures.answer tx.0 tx.1 in
    (ap (λ (s : SeatFacts). s.plant) a.answered.after ∙ a.later.plant, ap (λ (s : SeatFacts). s.tx) a.answered.after ∙ a.later.tx)
