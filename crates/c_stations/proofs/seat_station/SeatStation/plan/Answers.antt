use Rattle.std.proofs.Common.{vec_len, arith}
use Rattle.c_stations.proofs.Saying.{planned}
use Rattle.c_stations.proofs.seat_station.SeatStation.plan.Goals as goal

pub returns : goal.returns
returns c =
    planned c.deref.result.now c.self.inside.plant.value c.self.inside.seat c.try_plan.new.seat (vec_len c.self.inside.others) c.args.self.now c.args.tx c.args.tick c.in-Said.planned c.plan_form.result c.self.view_is c.deref.ensures c.self.invariant.compiled c.self.invariant.meets
    (omega (arith, c.if-tx-self.false, c.self.invariant.txns_are)) c.plan_form.ensures c.in-Said.ensures.said
