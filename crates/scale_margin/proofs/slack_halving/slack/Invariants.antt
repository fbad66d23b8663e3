use Rattle.std.proofs.Common.{◌+◌, ◌^◌, ◌≤◌}
use Rattle.scale_margin.specs.Slacks.{IsBetween}
use Rattle.scale_margin.proofs.slack_halving.slack.Given as goal

abbrev pub invariant-loop-bit : goal.invariant-loop-bit
invariant-loop-bit g l = record {
  found : IsBetween l.set-2 l.tx.0 (2 ^ l.bit) l.found;
  looks : l.steps + l.bit ≤ l.initial.steps + 14;
}
