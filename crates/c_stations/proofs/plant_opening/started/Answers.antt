use Rattle.std.proofs.Common.{◌≡◌, ◌+◌, length, vec_len, vec_capacity, ap, sym, subst, ◌∙◌, rules}
use Rattle.txn_set.specs.Set.{Set, IsCompiled}
use Rattle.set_admission.specs.Bounds.{MeetsAdmission}
use Rattle.shared_plant.specs.Seats.{PlantFacts}
use Rattle.c_stations.proofs.Handing.{first_station}
use Rattle.c_stations.proofs.plant_opening.started.Goals as goal

pub invariant_of-result : goal.invariant_of-result
invariant_of-result c =
    let admitted : c.admitted.result.now ≡ c.args.core.board.set = c.admitted.ensures ∙ c.requires.new.2 in
    let room : vec_capacity c.in_ok-spare.spare ≡ 64 = search rules in
    (first_station c.args.core.board.set c.in-Ok.plant c.in_ok-plant-in-Ok.plant.value c.in-Ok.others.items c.pop.new.self.items c.pop.result c.unwrap-seat.result c.args.core.board.journal.first c.in_ok-spare.spare.items (vec_capacity c.in_ok-spare.spare) (length c.txns-txns.result.now) (length c.items-items.result.now)
    c.in_ok-plant-in-Ok.ensures.ok c.in-Ok.ensures.plant.0 c.requires.new.1 c.in-Ok.ensures.seats c.pop.ensures.items c.unwrap-seat.ensures (subst IsCompiled admitted c.is_admitted.ensures.compiled) (subst MeetsAdmission admitted c.is_admitted.ensures.admitted)
    c.in_ok-spare.ensures.items room (ap length c.txns-txns.ensures ∙ ap (λ (z : Set). length z.txns) c.set.ensures) (ap length c.items-items.ensures ∙ ap (λ (z : Set). length z.items) c.set-2.ensures)).0

pub returns-in_ok-plant-in-Ok : goal.returns-in_ok-plant-in-Ok
returns-in_ok-plant-in-Ok c =
    let admitted : c.admitted.result.now ≡ c.args.core.board.set = c.admitted.ensures ∙ c.requires.new.2 in
    let room : vec_capacity c.in_ok-spare.spare ≡ 64 = search rules in
    let first = first_station c.args.core.board.set c.in-Ok.plant c.in_ok-plant-in-Ok.plant.value c.in-Ok.others.items c.pop.new.self.items c.pop.result c.unwrap-seat.result c.args.core.board.journal.first c.in_ok-spare.spare.items (vec_capacity c.in_ok-spare.spare) (length c.txns-txns.result.now) (length c.items-items.result.now)
    c.in_ok-plant-in-Ok.ensures.ok c.in-Ok.ensures.plant.0 c.requires.new.1 c.in-Ok.ensures.seats c.pop.ensures.items c.unwrap-seat.ensures (subst IsCompiled admitted c.is_admitted.ensures.compiled) (subst MeetsAdmission admitted c.is_admitted.ensures.admitted)
    c.in_ok-spare.ensures.items room (ap length c.txns-txns.ensures ∙ ap (λ (z : Set). length z.txns) c.set.ensures) (ap length c.items-items.ensures ∙ ap (λ (z : Set). length z.items) c.set-2.ensures) in
    let same : c.in_ok-plant-in-Ok.plant.value ≡ c.in-Ok.plant = c.in_ok-plant-in-Ok.ensures.ok in
    let p = c.in-Ok.ensures.plant in
    let set_is : c.in_ok-plant-in-Ok.plant.value.set ≡ c.args.core.board.set = ap (λ (z : PlantFacts). z.set) same ∙ p.0 in
    let long : vec_len c.pop.new.self ≡ length c.pop.new.self.items = search rules in record {
      set_is = set_is;
      room_is = ap (λ (z : PlantFacts). z.room) same ∙ p.1;
      start = ap (λ (z : PlantFacts). z.start) same ∙ p.2;
      seats = ap (λ (z : PlantFacts). z.seats) same ∙ (p.3 ∙ sym (ap (λ (z : Set). length z.txns + 1) set_is));
      operator = first.1;
      left = long ∙ first.2;
    }
