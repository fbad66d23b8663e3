use Rattle.std.proofs.Common.{◌≡◌, ◌-◌, List, None, Option, length, ap, sym, subst, ◌∙◌, vec_len, vec_capacity, arith, rules}
use Rattle.rt_base.specs.declared.ids.TxId.{TxId}
use Rattle.step_journal.specs.declared.entry.Entry.{Entry}
use Rattle.shared_plant.specs.Answers.{Drained}
use Rattle.c_stations.specs.Seats.{HasPlaces}
use Rattle.c_stations.proofs.Saying.{drained}
use Rattle.c_stations.proofs.seat_station.SeatStation.drain.Goals as goal

pub returns-in-Said : goal.returns-in-Said
returns-in-Said c =
    let none : c.self.inside.seat.tx ≡ None = sym c.tx.ensures ∙ c.in-None.is in
    let long : vec_len c.self.inside.spare ≡ length c.self.inside.spare.items = search rules in
    let all : vec_capacity c.self.inside.spare ≡ 64 = subst (λ (t : Option TxId). HasPlaces t (vec_capacity c.self.inside.spare)) none c.self.invariant.has_places in
    drained c.deref.result.now c.self.inside.plant.value c.self.inside.seat c.try_drain.new.seat (vec_len c.self.inside.others) c.args.self.now c.in-Said.count (vec_capacity c.self.inside.spare - vec_len c.self.inside.spare) c.self.inside.spare.items c.as_slice.result.now c.args.into.now c.put_entries.new.into c.self.view_is c.deref.ensures c.self.invariant.compiled c.self.invariant.meets none
    (omega (arith, ap length c.self.invariant.empty)) c.self.invariant.empty c.put_entries.ensures
    (subst (λ (l : List Entry). Drained c.deref.result.now (length c.args.into.now) (vec_capacity c.self.inside.spare - vec_len c.self.inside.spare) c.self.inside.spare.items l c.in-Said.count c.self.inside.seat c.try_drain.new.seat) (sym c.as_slice.ensures.value) c.in-Said.ensures.said)
