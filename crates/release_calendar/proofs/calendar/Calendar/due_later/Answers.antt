use Rattle.std.proofs.Common.{ℕ, List, sym, subst}
use Rattle.std.specs.List.Sorted.{IsPermutation}
use Rattle.rt_base.specs.declared.ids.JobId.{JobId}
use Rattle.release_calendar.specs.Agenda.{Agenda, Holds, IsDue, job_of, without}
use Rattle.release_calendar.specs.Queues.{IsCalendar, releases}
use Rattle.release_calendar.specs.declared.planned.Planned.{Planned}
use Rattle.release_calendar.proofs.Releases.{agenda, nothing_due, is_due, is_left, due_keeps}
use Rattle.release_calendar.proofs.calendar.Calendar.due_later.Goals as goal

pub returns-in_err-place-clause-due : goal.returns-in_err-place-clause-due
returns-in_err-place-clause-due c planned held =
    rw c.from_residual.ensures (nothing_due c.self.inside.planned.queues c.args.tick planned c.in_err-place.ensures (subst (λ (a : Agenda). Holds a planned) (sym c.self.view_is) held))

pub invariant_of-self : goal.invariant_of-self
invariant_of-self c =
    let p = c.in_ok-place.ensures in
    subst (λ (r : ℕ). IsCalendar (agenda c.self.inside.periods.items c.self.inside.plans.items c.take.new.self.queues r) c.take.new.self.queues) (sym c.take.ensures.room)
    (subst (λ (qs : List (List Planned)). IsCalendar (agenda c.self.inside.periods.items c.self.inside.plans.items qs c.self.inside.planned.room) qs) (sym c.take.ensures.queues)
    (due_keeps c.self.inside.periods.items c.self.inside.plans.items c.self.inside.planned.queues c.self.inside.planned.room c.in_ok-place.place.tx c.in_ok-place.place.index c.take.result c.self.invariant p.known p.within (c.take.ensures.value c.take.result)))

pub returns-clause-due : goal.returns-clause-due
returns-clause-due c planned held =
    subst (λ (j : JobId). IsDue c.args.tick planned j) (sym c.job.ensures)
    (is_due c.self.inside.planned.queues c.args.tick c.in_ok-place.place.tx c.in_ok-place.place.index c.take.result planned c.in_ok-place.ensures (c.take.ensures.value c.take.result) c.take.ensures.own (subst (λ (a : Agenda). Holds a planned) (sym c.self.view_is) held))

pub returns-clause-left : goal.returns-clause-left
returns-clause-left c planned held =
    subst (λ (j : JobId). IsPermutation (without (record { job = j; tick = c.args.tick }) planned) (releases c.take.new.self.queues)) (sym c.job.ensures)
    (subst (λ (qs : List (List Planned)). IsPermutation (without (record { job = job_of c.take.result; tick = c.args.tick }) planned) (releases qs)) (sym c.take.ensures.queues)
    (is_left c.self.inside.planned.queues c.args.tick c.in_ok-place.place.tx c.in_ok-place.place.index c.take.result planned c.in_ok-place.ensures (c.take.ensures.value c.take.result) (subst (λ (a : Agenda). Holds a planned) (sym c.self.view_is) held)))
