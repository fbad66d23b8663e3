use Rattle.std.proofs.Common.{◌≡◌, ◌+◌, drop}
use Rattle.std.specs.List.{sum}
use Rattle.scenario_run.proofs.ticks.count_eager_jobs.Given as goal

abbrev pub invariant-loop-jobs : goal.invariant-loop-jobs
invariant-loop-jobs l = l.count + sum (drop l.jobs-index l.eager_jobs) ≡ sum l.eager_jobs
