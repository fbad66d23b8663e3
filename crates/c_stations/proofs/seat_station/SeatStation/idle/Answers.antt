use Rattle.std.proofs.Common.{vec_len}
use Rattle.c_stations.proofs.Saying.{idled}
use Rattle.c_stations.proofs.seat_station.SeatStation.idle.Goals as goal

pub returns : goal.returns
returns c = idled c.deref.result.now c.self.inside.plant.value c.self.inside.seat c.try_idle.new.seat (vec_len c.self.inside.others) c.args.self.now c.in-Said.reply c.idle_form.result c.self.view_is c.deref.ensures c.self.invariant.compiled c.self.invariant.meets c.idle_form.ensures c.in-Said.ensures.said
