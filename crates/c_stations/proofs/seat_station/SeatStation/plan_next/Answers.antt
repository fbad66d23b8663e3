use Rattle.std.proofs.Common.{vec_len, arith}
use Rattle.c_stations.proofs.Saying.{planned_next}
use Rattle.c_stations.proofs.seat_station.SeatStation.plan_next.Goals as goal

pub returns : goal.returns
returns c =
    planned_next c.deref.result.now c.self.inside.plant.value c.self.inside.seat c.try_plan_next.new.seat (vec_len c.self.inside.others) c.args.self.now c.args.tx c.in-Said.planned c.plan_next_form.result c.self.view_is c.deref.ensures c.self.invariant.compiled c.self.invariant.meets
    (omega (arith, c.if-tx-self.false, c.self.invariant.txns_are)) c.plan_next_form.ensures c.in-Said.ensures.said
