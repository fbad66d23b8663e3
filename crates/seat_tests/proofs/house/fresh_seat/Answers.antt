use Rattle.std.proofs.Common.{◌++◌, ap, ◌∙◌}
use Rattle.std.specs.Option.{option_to_list}
use Rattle.seat_tests.proofs.Freshness.{fresh_last}
use Rattle.seat_tests.proofs.house.fresh_seat.Goals as goal

pub returns-in-Some : goal.returns-in-Some
returns-in-Some g c =
    fresh_last c.args.plant.now c.args.seats.now.items c.pop.new.self.items c.in-Some.seat c.requires
    (c.pop.ensures.items ∙ ap (λ o. c.pop.new.self.items ++ option_to_list o) c.in-Some.is)
