use Rattle.seat_tests.proofs.Members.{of_more}
use Rattle.seat_tests.proofs.house.put.Goals as goal

pub returns : goal.returns
returns g c =
    let items = c.in_ok-push.ensures.items in
    of_more c.args.plant.now c.args.seats.now.items c.push.new.self.items c.args.seat c.requires.0 c.requires.1 items
