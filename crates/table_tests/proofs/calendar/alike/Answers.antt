use Rattle.std.proofs.Common.{◌≡◌, ap, ◌∙◌}
use Rattle.release_calendar.specs.Agenda.{Agenda}
use Rattle.table_tests.proofs.calendar.alike.Goals as goal
use Rattle.table_tests.proofs.calendar.alike.Goals.{in-0, in-1+in-Ok-Ok, in-1+in-Err-Err, in-1+in_default-2, in-1+in_default-2-2, in-2, in_default}

periods : {a b : Agenda} → a ≡ b → a.periods ≡ b.periods
periods same = ap (λ (a : Agenda). a.periods) same

pub returns-then-same : goal.returns-then-same
returns-then-same c =
    elim c.match-random_range.branch [
      | in-0 w ↦ periods w.calendar-is ∙ w.plan.ensures.periods
      | in-1+in-Ok-Ok w ↦ periods w.calendar-is ∙ w.plan_next.ensures.periods
      | in-1+in-Err-Err w ↦ periods w.calendar-is ∙ w.plan_next.ensures.periods
      | in-1+in_default-2 w ↦ periods w.calendar-is ∙ w.plan_next.ensures.periods
      | in-1+in_default-2-2 w ↦ periods w.calendar-is ∙ w.plan_next.ensures.periods
      | in-2 w ↦ periods w.calendar-is ∙ w.due.ensures.rest.periods
      | in_default w ↦ periods w.calendar-is ∙ w.due-in_default.ensures.rest.periods
    ]

pub returns-else-same : goal.returns-else-same
returns-else-same c =
    elim c.match-random_range.branch [
      | in-0 w ↦ periods w.calendar-is ∙ w.plan.ensures.periods
      | in-1+in-Ok-Ok w ↦ periods w.calendar-is ∙ w.plan_next.ensures.periods
      | in-1+in-Err-Err w ↦ periods w.calendar-is ∙ w.plan_next.ensures.periods
      | in-1+in_default-2 w ↦ periods w.calendar-is ∙ w.plan_next.ensures.periods
      | in-1+in_default-2-2 w ↦ periods w.calendar-is ∙ w.plan_next.ensures.periods
      | in-2 w ↦ periods w.calendar-is ∙ w.due.ensures.rest.periods
      | in_default w ↦ periods w.calendar-is ∙ w.due-in_default.ensures.rest.periods
    ]
