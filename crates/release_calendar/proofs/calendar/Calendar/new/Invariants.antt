use Rattle.std.proofs.Common.{◌≡◌, replicate}
use Rattle.release_calendar.specs.Agenda.{no_plans}
use Rattle.release_calendar.proofs.calendar.Calendar.new.Given as goal

abbrev pub invariant-loop : goal.invariant-loop
invariant-loop l = l.plans.items ≡ replicate l.counter no_plans
