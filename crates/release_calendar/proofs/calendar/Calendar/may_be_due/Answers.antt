use Rattle.std.proofs.Common.{sym, subst}
use Rattle.release_calendar.specs.Agenda.{Agenda, Holds}
use Rattle.release_calendar.proofs.Releases.{nothing_due}
use Rattle.release_calendar.proofs.calendar.Calendar.may_be_due.Goals as goal

pub returns : goal.returns
returns c planned held out = nothing_due c.self.inside.planned.queues c.args.tick planned (c.may_have.ensures out) (subst (λ (a : Agenda). Holds a planned) (sym c.self.view_is) held)
