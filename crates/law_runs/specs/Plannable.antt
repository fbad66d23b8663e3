-- When the jobs that eager transactions plan themselves can all be planned.
use Rattle.std.specs.Prelude.{ℕ, ◌+◌, ◌*◌, ◌^◌, ◌≤◌, map, length}
use Rattle.std.specs.List.{sum, range_with_len}
use Rattle.txn_set.specs.Set.{Set}
use Rattle.law_histories.specs.Counting.{greatest_planned, greatest_period}
use Rattle.law_histories.specs.Sim.{Workload, plans}
use Rattle.step_script.specs.Shown.{Shown}
use Rattle.step_script.specs.Releases.{eager_of, releases_of}

-- how many jobs the transactions of a set plan themselves
abbrev pub total_eager_jobs : Set → (ℕ → ℕ) → ℕ
total_eager_jobs set eager_jobs = sum (map eager_jobs (range_with_len 0 (length set.txns)))

-- All jobs are few. And those that are planned after the last of the releases are planned in time, even where each comes
-- the greatest period of all transactions after the one before.
pub record ArePlannable (w : Workload) (eager_jobs : ℕ → ℕ) : Type 0 where
  pub few : length (plans w) + total_eager_jobs w.set eager_jobs ≤ 65536
  pub near : greatest_planned (plans w) + total_eager_jobs w.set eager_jobs * greatest_period w.set ≤ 2 ^ 40

-- how many jobs a scenario's transaction plans itself
abbrev pub eager_jobs_of : Shown → ℕ → ℕ
eager_jobs_of s tx = eager_of (releases_of s.releases tx)
