use Rattle.std.proofs.Common.{◌≡◌, drop, get_or}
use Rattle.serial_replay.specs.Spans.{ticks_of, release_in}
use Rattle.serial_replay.proofs.one_job.release_of.Given as goal

abbrev pub invariant-loop-entry : goal.invariant-loop-entry
invariant-loop-entry l = get_or (ticks_of (drop l.entry-index l.entries) l.job.tx.0) l.left 0 ≡ release_in l.entries l.job
