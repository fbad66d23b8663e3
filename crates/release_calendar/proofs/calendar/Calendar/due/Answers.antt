use Rattle.std.proofs.Common.{ℕ, List, sym, subst}
use Rattle.std.specs.List.Sorted.{IsPermutation}
use Rattle.rt_base.specs.declared.ids.JobId.{JobId}
use Rattle.release_calendar.specs.Agenda.{Agenda, Holds, IsDue, job_of, without}
use Rattle.release_calendar.specs.Queues.{IsCalendar, releases}
use Rattle.release_calendar.specs.declared.planned.Planned.{Planned}
use Rattle.release_calendar.proofs.Releases.{agenda, is_due, is_left, due_keeps}
use Rattle.release_calendar.proofs.calendar.Calendar.due.Goals as goal

pub invariant_of-self : goal.invariant_of-self
invariant_of-self c =
    let p = c.in-Some.ensures in
    subst (λ (r : ℕ). IsCalendar (agenda c.self.inside.periods.items c.self.inside.plans.items c.take.new.self.queues r) c.take.new.self.queues) (sym c.take.ensures.room)
    (subst (λ (qs : List (List Planned)). IsCalendar (agenda c.self.inside.periods.items c.self.inside.plans.items qs c.self.inside.planned.room) qs) (sym c.take.ensures.queues)
    (due_keeps c.self.inside.periods.items c.self.inside.plans.items c.self.inside.planned.queues c.self.inside.planned.room c.in-Some.place.tx c.in-Some.place.index c.take.result c.self.invariant p.known p.within (c.take.ensures.value c.take.result)))

pub returns-in-Some-clause-due : goal.returns-in-Some-clause-due
returns-in-Some-clause-due c planned held =
    subst (λ (j : JobId). IsDue c.args.tick planned j) (sym c.job.ensures)
    (is_due c.self.inside.planned.queues c.args.tick c.in-Some.place.tx c.in-Some.place.index c.take.result planned c.in-Some.ensures (c.take.ensures.value c.take.result) c.take.ensures.own (subst (λ (a : Agenda). Holds a planned) (sym c.self.view_is) held))

pub returns-in-Some-clause-left : goal.returns-in-Some-clause-left
returns-in-Some-clause-left c planned held =
    subst (λ (j : JobId). IsPermutation (without (record { job = j; tick = c.args.tick }) planned) (releases c.take.new.self.queues)) (sym c.job.ensures)
    (subst (λ (qs : List (List Planned)). IsPermutation (without (record { job = job_of c.take.result; tick = c.args.tick }) planned) (releases qs)) (sym c.take.ensures.queues)
    (is_left c.self.inside.planned.queues c.args.tick c.in-Some.place.tx c.in-Some.place.index c.take.result planned c.in-Some.ensures (c.take.ensures.value c.take.result) (subst (λ (a : Agenda). Holds a planned) (sym c.self.view_is) held)))
