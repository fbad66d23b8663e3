use Rattle.std.proofs.Common.{vec_len, vec_capacity, rules}
use Rattle.c_stations.proofs.Handing.{rest_station, is_newcomer, hands_out}
use Rattle.c_stations.proofs.seat_station.SeatStation.open_next.Goals as goal

pub invariant_of-self-2 : goal.invariant_of-self-2
invariant_of-self-2 c = rest_station c.self.inside.plant.value c.self.inside.seat c.in-Some.seat c.pop.new.self.items c.self.inside.others.items c.pop.result c.self.inside.spare.items (vec_capacity c.self.inside.spare) c.self.inside.txns c.self.inside.items c.self.invariant c.pop.ensures.items c.in-Some.is

pub station_of-requires : goal.station_of-requires
station_of-requires c = is_newcomer c.self.inside.plant.value c.self.inside.seat c.in-Some.seat c.pop.new.self.items c.self.inside.others.items c.pop.result c.self.inside.spare.items (vec_capacity c.self.inside.spare) c.self.inside.txns c.self.inside.items c.self.invariant c.pop.ensures.items c.in-Some.is

pub invariant_of-self-in-Ok : goal.invariant_of-self-in-Ok
invariant_of-self-in-Ok c = rest_station c.self.inside.plant.value c.self.inside.seat c.in-Some.seat c.pop.new.self.items c.self.inside.others.items c.pop.result c.self.inside.spare.items (vec_capacity c.self.inside.spare) c.self.inside.txns c.self.inside.items c.self.invariant c.pop.ensures.items c.in-Some.is

pub returns-in-Ok-clause-handed : goal.returns-in-Ok-clause-handed
returns-in-Ok-clause-handed c =
    hands_out c.self.inside.plant.value c.self.inside.seat c.in-Some.seat c.pop.new.self.items c.self.inside.others.items c.pop.result (vec_len c.self.inside.others) (vec_len c.pop.new.self) c.len-tx.result c.args.self.now c.in-Ok.station.value
    c.self.view_is (search rules) (search rules) c.len-tx.ensures c.in-Ok.ensures.ok c.pop.ensures.items c.in-Some.is c.self.invariant.others_are
