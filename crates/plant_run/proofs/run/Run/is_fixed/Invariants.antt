use Rattle.std.proofs.Common.{◌≡◌, ℕ, ◌<◌}
use Rattle.plant_run.specs.Runs.{eager_jobs_at}
use Rattle.plant_run.proofs.run.Run.is_fixed.Given as goal

abbrev pub invariant-loop-jobs : goal.invariant-loop-jobs
invariant-loop-jobs g l = (tx : ℕ) → tx < l.jobs-index → eager_jobs_at l.self.eager_jobs.now tx ≡ 0
