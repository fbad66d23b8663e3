use Rattle.std.proofs.Common.{◌≡◌, Some, sym, ◌∙◌, vec_len, vec_capacity}
use Rattle.c_stations.proofs.Trying.{turned_station}
use Rattle.c_stations.proofs.Saying.{stepped}
use Rattle.c_stations.proofs.seat_station.SeatStation.step.Goals as goal

pub invariant_of-self-2 : goal.invariant_of-self-2
invariant_of-self-2 c =
    let own : c.self.inside.seat.tx ≡ Some c.in-Some.field-0 = sym c.tx.ensures ∙ c.in-Some.is in
    turned_station c.deref.result.now.set c.self.inside.plant.value c.self.inside.seat c.try_step.new.seat c.self.inside.others.items c.self.inside.spare.items (vec_capacity c.self.inside.spare) c.self.inside.txns c.self.inside.items
    c.self.invariant (c.in-Said.ensures.said c.in-Some.field-0 own)

pub returns : goal.returns
returns c =
    let own : c.self.inside.seat.tx ≡ Some c.in-Some.field-0 = sym c.tx.ensures ∙ c.in-Some.is in
    stepped c.deref.result.now c.self.inside.plant.value c.self.inside.seat c.try_step.new.seat (vec_len c.self.inside.others) c.args.self.now c.in-Some.field-0 c.args.serial c.args.op c.in-Some-op_of.op c.in-Said.reply c.put_step.new.answer c.self.view_is c.deref.ensures c.self.invariant.compiled c.self.invariant.meets own
    (sym c.op_of.ensures ∙ c.in-Some-op_of.is) c.put_step.ensures (c.in-Said.ensures.said c.in-Some.field-0 own)
