use Rattle.std.proofs.Common.{◌≡◌, ℕ, ◌+◌, ◌<◌, ◌≤◌, List, [], ◌∷◌, ◌++◌, length, set, ap, sym, ◌∙◌, subst, refl, arith}
use Rattle.std.proofs.lemmas.List.{length-map}
use Rattle.std.specs.List.{All}
use Rattle.release_calendar.specs.declared.planned.Planned.{Planned}
use Rattle.release_calendar.specs.Agenda.{Agenda, IsPlanned, earliest, plans_of}
use Rattle.release_calendar.specs.Queues.{IsCalendar, queue_of, queued, release_of}
use Rattle.release_calendar.proofs.Releases.{agenda, early, plan_keeps, planned_is}
use Rattle.release_calendar.proofs.calendar.Calendar.note.Goals as goal

pub put-requires-clause-rising : goal.put-requires-clause-rising
put-requires-clause-rising c =
    subst (λ (p : Planned). All (λ r. r.tick ≤ p.tick) (queue_of c.self.inside.planned.queues p.tx)) (sym c.of.ensures)
    (early c.self.inside.periods.items c.self.inside.plans.items c.self.inside.planned.queues c.self.inside.planned.room c.args.tx.0 c.args.tick c.self.invariant (subst (λ (a : Agenda). earliest a c.args.tx.0 ≤ c.args.tick) (sym c.self.view_is) c.requires.early))

pub invariant_of-self : goal.invariant_of-self
invariant_of-self c =
    let known : c.args.tx.0 < length c.self.inside.periods.items = subst (λ (a : Agenda). c.args.tx.0 < length a.periods) (sym c.self.view_is) c.requires.tx in
    let fits : length (queued c.self.inside.planned.queues) < c.self.inside.planned.room = (let r = subst (λ (a : Agenda). length a.planned < a.room) (sym c.self.view_is) c.requires.room in omega (arith, r, length-map (queued c.self.inside.planned.queues) release_of)) in
    let soon = early c.self.inside.periods.items c.self.inside.plans.items c.self.inside.planned.queues c.self.inside.planned.room c.args.tx.0 c.args.tick c.self.invariant (subst (λ (a : Agenda). earliest a c.args.tx.0 ≤ c.args.tick) (sym c.self.view_is) c.requires.early) in
    let now : c.put.new.self.queues ≡ set c.self.inside.planned.queues c.args.tx.0 (queue_of c.self.inside.planned.queues c.args.tx.0 ++ record { tick = c.args.tick; tx = c.args.tx.0; serial = c.args.serial } ∷ []) =
    c.put.ensures.queues ∙ ap (λ (p : Planned). set c.self.inside.planned.queues p.tx (queue_of c.self.inside.planned.queues p.tx ++ p ∷ [])) c.of.ensures in
    subst (λ (r : ℕ). IsCalendar (agenda c.self.inside.periods.items (set c.self.inside.plans.items c.args.tx.0 (record { number = c.args.serial + 1; last = c.args.tick })) c.put.new.self.queues r) c.put.new.self.queues) (sym c.put.ensures.room)
    (subst (λ (qs : List (List Planned)). IsCalendar (agenda c.self.inside.periods.items (set c.self.inside.plans.items c.args.tx.0 (record { number = c.args.serial + 1; last = c.args.tick })) qs c.self.inside.planned.room) qs) (sym now)
    (plan_keeps c.self.inside.periods.items c.self.inside.plans.items (set c.self.inside.plans.items c.args.tx.0 (record { number = c.args.serial + 1; last = c.args.tick })) c.self.inside.planned.queues c.self.inside.planned.room c.args.tx.0 c.args.tick c.args.serial (record { tick = c.args.tick; tx = c.args.tx.0; serial = c.args.serial }) c.self.invariant known fits soon refl c.requires.tick refl))

pub returns : goal.returns
returns c =
    let known : c.args.tx.0 < length c.self.inside.periods.items = subst (λ (a : Agenda). c.args.tx.0 < length a.periods) (sym c.self.view_is) c.requires.tx in
    let now : c.put.new.self.queues ≡ set c.self.inside.planned.queues c.args.tx.0 (queue_of c.self.inside.planned.queues c.args.tx.0 ++ record { tick = c.args.tick; tx = c.args.tx.0; serial = c.args.serial } ∷ []) =
    c.put.ensures.queues ∙ ap (λ (p : Planned). set c.self.inside.planned.queues p.tx (queue_of c.self.inside.planned.queues p.tx ++ p ∷ [])) c.of.ensures in
    subst (λ (a : Agenda). IsPlanned a (agenda c.self.inside.periods.items (set c.self.inside.plans.items c.args.tx.0 (record { number = c.args.serial + 1; last = c.args.tick })) c.put.new.self.queues c.put.new.self.room) c.args.tx.0 c.args.tick) c.self.view_is
    (subst (λ (r : ℕ). IsPlanned (agenda c.self.inside.periods.items c.self.inside.plans.items c.self.inside.planned.queues c.self.inside.planned.room) (agenda c.self.inside.periods.items (set c.self.inside.plans.items c.args.tx.0 (record { number = c.args.serial + 1; last = c.args.tick })) c.put.new.self.queues r) c.args.tx.0 c.args.tick) (sym c.put.ensures.room)
    (subst (λ (qs : List (List Planned)). IsPlanned (agenda c.self.inside.periods.items c.self.inside.plans.items c.self.inside.planned.queues c.self.inside.planned.room) (agenda c.self.inside.periods.items (set c.self.inside.plans.items c.args.tx.0 (record { number = c.args.serial + 1; last = c.args.tick })) qs c.self.inside.planned.room) c.args.tx.0 c.args.tick) (sym now)
    (planned_is c.self.inside.periods.items c.self.inside.plans.items c.self.inside.planned.queues c.self.inside.planned.room c.args.tx.0 c.args.serial c.args.tick (subst (λ (a : Agenda). c.args.serial ≡ (plans_of a c.args.tx.0).number) (sym c.self.view_is) c.requires.serial) (omega (arith, known, c.self.invariant.each)))))
