use Rattle.std.proofs.Common.{vec_len, to_z, of_z, w64, FitsSigned, arith, rules}
use Rattle.std.proofs.lemmas.Int.{to_z-of_z}
use Rattle.c_stations.proofs.Saying.{peeked}
use Rattle.c_stations.proofs.seat_station.SeatStation.peek.Goals as goal

pub returns : goal.returns
returns c =
    let fits : FitsSigned w64 c.in-Said.reply.0 = search rules in
    peeked c.deref.result.now c.self.inside.plant.value c.self.inside.seat c.try_peek.new.seat (vec_len c.self.inside.others) c.args.self.now c.args.item (record { value = to_z w64 (of_z w64 c.in-Said.reply.0); stamp = c.in-Said.reply.1 }) c.in-Said.reply.0 c.self.view_is c.deref.ensures c.self.invariant.compiled c.self.invariant.meets
    (omega (arith, c.if-item-self.false, c.self.invariant.items_are)) (to_z-of_z w64 c.in-Said.reply.0 fits) c.in-Said.ensures.said
