use Rattle.std.proofs.Common.{◌≡◌, ◌+◌, ◌-◌, ◌^◌, ◌<◌, min, drop}
use Rattle.step_script.specs.Releases.{total_jobs}
use Rattle.scenario_reader.proofs.plans.total_jobs.Given as goal

abbrev pub invariant-loop-one : goal.invariant-loop-one
invariant-loop-one l = record {
  same : min (l.total + total_jobs (drop l.one-index l.releases)) (2 ^ 64 - 1) ≡ min (total_jobs l.releases) (2 ^ 64 - 1);
  fits : l.total < 2 ^ 64;
}
