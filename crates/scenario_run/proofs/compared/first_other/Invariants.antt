use Rattle.std.proofs.Common.{◌≡◌, ◌≤◌, take, length}
use Rattle.scenario_run.proofs.compared.first_other.Given as goal

abbrev pub invariant-loop-i : goal.invariant-loop-i
invariant-loop-i l = record {
  within : l.i ≤ length l.history;
  same : take l.i l.there ≡ take l.i l.history;
}
