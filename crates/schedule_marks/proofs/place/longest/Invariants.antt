use Rattle.std.proofs.Common.{◌≡◌, max, drop}
use Rattle.schedule_marks.specs.Places.{longest}
use Rattle.schedule_marks.proofs.place.longest.Given as goal

abbrev pub invariant-loop-name : goal.invariant-loop-name
invariant-loop-name l = max l.longest (longest (drop l.name-index l.names)) ≡ longest l.names
