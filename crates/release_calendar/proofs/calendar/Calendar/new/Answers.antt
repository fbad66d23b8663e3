use Rattle.std.proofs.Common.{◌≡◌, List, [], length, replicate, ap, ◌∙◌, arith}
use Rattle.release_calendar.specs.Agenda.{no_plans}
use Rattle.release_calendar.specs.declared.planned.Planned.{Planned}
use Rattle.release_calendar.proofs.Releases.{new_calendar, none_released}
use Rattle.release_calendar.proofs.calendar.Calendar.new.Goals as goal

pub invariant_of-result : goal.invariant_of-result
invariant_of-result c =
    let all : c.loop.counter ≡ length c.args.periods.items = omega (arith, c.loop-test.false, c.loop.auto.counter-end, c.len-end.ensures, c.args.periods.ok) in
    let each : c.len.result ≡ length c.args.periods.items = omega (arith, c.len.ensures, c.args.periods.ok) in
    new_calendar c.args.periods.items c.loop.plans.items c.in_ok-planned.planned.queues c.in_ok-planned.planned.room c.requires (c.loop.invariant ∙ ap (λ n. replicate n no_plans) all) (c.in_ok-planned.ensures.queues ∙ ap (λ n. replicate {A = List Planned} n []) each)

pub returns-clause-planned : goal.returns-clause-planned
returns-clause-planned c = none_released c.in_ok-planned.planned.queues c.len.result c.in_ok-planned.ensures.queues
