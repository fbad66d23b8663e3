use Rattle.std.proofs.Common.{◌≡◌, ◌++◌, drop, map}
use Rattle.step_script.specs.Releases.{eager_of}
use Rattle.scenario_run.proofs.ticks.eager_jobs_of_all.Given as goal

abbrev pub invariant-loop-list : goal.invariant-loop-list
invariant-loop-list l = l.eager_jobs.items ++ map eager_of (drop l.list-index l.releases) ≡ map eager_of l.releases
