use Rattle.std.proofs.Common.{length}
use Rattle.core_tables.proofs.Arrivals.{Releasing}
use Rattle.core_tables.proofs.arrive.release.Given as goal

abbrev pub invariant-loop-calendar : goal.invariant-loop-calendar
invariant-loop-calendar l = Releasing l.tick l.initial.pending l.pending l.initial.calendar l.calendar

abbrev pub decreases-loop-calendar : goal.decreases-loop-calendar
decreases-loop-calendar l = length l.calendar.planned
