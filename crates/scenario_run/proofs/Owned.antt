-- How many jobs each transaction plans itself.
use Rattle.std.proofs.Common.{◌≡◌, ℕ, List, [], length, map, sym, ap, ◌∙◌}
use mathlib.Core.Path.{fun_ext}
use Rattle.std.specs.List.{sum}
use Rattle.std.proofs.Math.ListN.{get_or-map}
use Rattle.txn_set.specs.Set.{Set}
use Rattle.law_histories.proofs.Sums.{sum_below, sum_places}
use Rattle.step_script.specs.declared.releases.Releases.TheVariants.{At}
use Rattle.step_script.specs.Releases.{eager_of}
use Rattle.step_script.specs.Shown.{Shown}
use Rattle.law_runs.specs.Plannable.{total_eager_jobs, eager_jobs_of}
use Rattle.law_runs.proofs.Plans.{own_sum, listed_sum}
use Rattle.plant_run.specs.Runs.{eager_jobs_at}

-- those of the releases are the scenario's
pub own_is : (s : Shown) (eager_jobs : List ℕ) → eager_jobs ≡ map eager_of s.releases → eager_jobs_at eager_jobs ≡ eager_jobs_of s
own_is s eager_jobs e = fun_ext (λ tx. ap (λ (l : List ℕ). eager_jobs_at l tx) e ∙ get_or-map eager_of s.releases tx (At []))

-- all of them
pub eager_total : (set : Set) (eager_jobs : List ℕ) → length eager_jobs ≡ length set.txns → total_eager_jobs set (eager_jobs_at eager_jobs) ≡ sum eager_jobs
eager_total set eager_jobs same =
    own_sum (eager_jobs_at eager_jobs) (length set.txns)
    ∙ (ap (sum_below (eager_jobs_at eager_jobs)) (sym same) ∙ (sum_places (λ (k : ℕ). k) eager_jobs 0 ∙ listed_sum (λ (k : ℕ). k) eager_jobs))
