use Rattle.std.proofs.Common.{◌≡◌, drop}
use Rattle.serial_replay.specs.Spans.{end_in, AreEarly}
use Rattle.serial_replay.proofs.one_job.end_of.Given as goal

abbrev pub invariant-loop-entry : goal.invariant-loop-entry
invariant-loop-entry l = record {
  same : end_in (drop l.entry-index l.entries) l.job l.deadline ≡ end_in l.entries l.job l.deadline;
  early : AreEarly (drop l.entry-index l.entries);
}
