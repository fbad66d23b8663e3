use Rattle.std.proofs.Common.{◌≡◌, ◌+◌, ◌≤◌, drop, length, slice_get}
use Rattle.std.specs.List.{filter_map}
use Rattle.step_journal.specs.Timing.{delayer_in}
use Rattle.serial_replay.specs.Spans.{or_first}
use Rattle.serial_replay.proofs.one_job.between.Given as goal

abbrev pub invariant-loop-entry : goal.invariant-loop-entry
invariant-loop-entry l = record {
  by : or_first l.by (slice_get (filter_map (delayer_in l.set l.job (record { from = l.from; to = l.to })) (drop l.entry-index l.entries)) 0) ≡ slice_get (filter_map (delayer_in l.set l.job (record { from = l.from; to = l.to })) l.entries) 0;
  ticks : l.ticks + length (filter_map (delayer_in l.set l.job (record { from = l.from; to = l.to })) (drop l.entry-index l.entries)) ≡ length (filter_map (delayer_in l.set l.job (record { from = l.from; to = l.to })) l.entries);
  few : l.ticks ≤ l.entry-index;
}
