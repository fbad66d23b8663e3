use Rattle.std.proofs.Common.{◌≡◌}
use Rattle.job_rows.proofs.Fronts.{FollowsUpTo}
use Rattle.job_rows.proofs.upkeep.JobRows.push_all.Given as goal

abbrev pub invariant-loop-entry : goal.invariant-loop-entry
invariant-loop-entry l = record {
  room : l.self.room ≡ l.initial.self.room;
  follows : FollowsUpTo l.initial.self l.self l.entries l.entry-index;
}
