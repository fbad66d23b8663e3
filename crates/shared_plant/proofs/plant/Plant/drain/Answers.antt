use Rattle.std.proofs.Common.{◌+◌, ◌-◌, refl, sym, ap, subst, ◌∙◌, vec_len, vec_capacity}
use Rattle.shared_plant.specs.Seats.{SeatFacts, IsOf}
use Rattle.shared_plant.specs.Answers.{missed_once, Drained}
use Rattle.shared_plant.proofs.Answering.{busy_of}
use Rattle.shared_plant.proofs.Laters.{missed_none, missed_again}
use Rattle.shared_plant.proofs.plant.Plant.drain.Goals as goal

pub loop-init : goal.loop-init
loop-init g c = (tt, tt, (0, missed_none c.args.seat.now), refl)

pub try_drain-requires : goal.try_drain-requires
try_drain-requires g c =
    let is = c.loop.invariant.2.1 in
    record { plant = subst (IsOf c.args.self.now) (sym is) c.requires.plant; operator = ap (λ (s : SeatFacts). s.tx) is ∙ c.requires.operator }

pub returns-in-Said-clause-drained : goal.returns-in-Said-clause-drained
returns-in-Said-clause-drained g c =
    let i = c.loop.invariant in
    let count = c.in-Said.count in let now = c.try_drain.new.into.items in let seat = c.try_drain.new.seat in
    let from = subst (λ v. Drained c.args.self.now c.args.most (vec_capacity v - vec_len v) v.items now count c.loop.seat seat) i.3 c.in-Said.ensures.said in
    record { misses = i.2.0; drained = subst (λ (s : SeatFacts). Drained c.args.self.now c.args.most (vec_capacity c.args.into.now - vec_len c.args.into.now) c.args.into.now.items now count s seat) i.2.1 from }

pub returns-in-Said-clause-places : goal.returns-in-Said-clause-places
returns-in-Said-clause-places g c = c.try_drain.ensures.places ∙ ap (λ v. vec_capacity v) c.loop.invariant.3

pub loop-preserved : goal.loop-preserved
loop-preserved g c =
    let i = c.loop.invariant in
    let busy = c.try_drain.ensures.busy (busy_of c.try_drain.result (λ x e. c.in_default.not-Said x e)) in
    (tt, tt, (i.2.0 + 1, busy.0 ∙ (ap missed_once i.2.1 ∙ missed_again _ i.2.0)), busy.1 ∙ i.3)
