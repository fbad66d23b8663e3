use Rattle.std.proofs.Common.{◌≡◌, ◌+◌, drop}
use Rattle.step_script.specs.Releases.{eager_jobs}
use Rattle.scenario_reader.proofs.plans.eager_jobs.Given as goal

abbrev pub invariant-loop-one : goal.invariant-loop-one
invariant-loop-one l = l.total + eager_jobs (drop l.one-index l.releases) ≡ eager_jobs l.releases
