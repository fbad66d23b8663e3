use Rattle.std.proofs.Common.{◌≡◌, ◌≤◌, take, length}
use Rattle.step_journal.specs.History.{state_of}
use Rattle.run_report.proofs.counts.last_instant.Given as goal

abbrev pub invariant-loop-left : goal.invariant-loop-left
invariant-loop-left l = record {
  within : l.left ≤ length l.entries;
  now : (state_of l.set (take l.left l.entries)).now ≡ (state_of l.set l.entries).now;
}

abbrev pub decreases-loop-left : goal.decreases-loop-left
decreases-loop-left l = l.left
