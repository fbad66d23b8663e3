use Rattle.std.proofs.Common.{sym, subst, ◌∙◌}
use Rattle.release_calendar.specs.Agenda.{Agenda, Holds}
use Rattle.release_calendar.proofs.Releases.{how_many}
use Rattle.release_calendar.proofs.calendar.Calendar.waiting.Goals as goal

pub returns : goal.returns
returns c planned held = c.waiting.ensures ∙ sym (how_many c.self.inside.planned.queues planned (subst (λ (a : Agenda). Holds a planned) (sym c.self.view_is) held))
