use Rattle.std.proofs.Common.{◌∷◌, [], ◌++◌, ap, ◌∙◌, arith}
use Rattle.shared_plant.specs.Seats.{SeatFacts}
use Rattle.plant_run.specs.Deals.{seats_of}
use Rattle.plant_run.proofs.Gathers.{left_more, popped_one, popped_items}
use Rattle.plant_run.proofs.gather.leave.Goals as goal

pub loop-preserved : goal.loop-preserved
loop-preserved g c =
    let i = c.loop.invariant in let m = c.unwrap.result in
    let e = popped_items c.loop.members.items c.pop.new.self.items c.pop.result m c.unwrap.ensures c.pop.ensures.items in
    let one = popped_one c.pop.result m _ _ c.unwrap.ensures c.pop.ensures.len in
    record {
      seats = left_more (c.args.seats.now.items ++ seats_of c.args.members.items) c.loop.seats.items c.push_reserved.new.self.items c.loop.members.items c.pop.new.self.items m i.seats e
          (c.push_reserved.ensures.items ∙ ap (λ (s : SeatFacts). c.loop.seats.items ++ s ∷ []) c.into_parts-seat.ensures.parts.0);
      len = omega (arith, c.push_reserved.ensures.len, one, i.len);
      left = omega (arith, one, i.left);
      places = c.push_reserved.ensures.capacity ∙ i.places;
    }
