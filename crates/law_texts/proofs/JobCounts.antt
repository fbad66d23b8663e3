-- How many jobs the run of a scenario has.
use Rattle.std.proofs.Common.{◌≡◌, ◌≢◌, ℕ, suc, ◌+◌, ◌<◌, ◌≤◌, ◌^◌, ◌==◌, Bool, cond, List, [], ◌∷◌, map, length, get_or, refl, sym, ap, ◌∙◌, inl, inr, arith, length-append}
use Rattle.std.specs.List.{filter}
use Rattle.std.proofs.lemmas.Bool.{cases_lt, eq-eqb, ne_eqb}
use Rattle.std.proofs.lemmas.List.{length-map, get_or_past}
use Rattle.rt_base.specs.declared.release.Plans.{Plans}
use Rattle.txn_set.specs.Set.{Set, IsCompiled}
use Rattle.step_journal.specs.declared.entry.Entry.{Entry}
use Rattle.step_journal.specs.declared.entry.EndedJob.{EndedJob}
use Rattle.step_journal.specs.State.{pending}
use Rattle.step_journal.specs.LockRule.{in_falling_priority}
use Rattle.step_journal.specs.History.{IsLegal, state_of}
use Rattle.law_histories.specs.Counting.{plan_count}
use Rattle.law_histories.proofs.Sums.{sum_below, sum_le, sum_moved, sum_of, sum_places}
use Rattle.law_histories.proofs.CountingAll.{entries_few, time_bounded}
use Rattle.law_histories.proofs.Members.{In}
use Rattle.law_histories.proofs.Never.{legal_sound}
use Rattle.law_histories.proofs.SerialAll.{legal_serial}
use Rattle.job_rows.specs.Rows.{ended_row, pending_row, job_rows}
use Rattle.law_runs.specs.Histories.{IsRunOf}
use Rattle.step_script.specs.Shown.{Shown, set_of}
use Rattle.step_script.specs.Scenarios.{IsScenario}
use Rattle.step_script.specs.declared.releases.Releases.{Releases}
use Rattle.step_script.specs.declared.releases.Releases.TheVariants.{At}
use Rattle.step_script.specs.Releases.{jobs_of, releases_of, total_jobs}
use Rattle.law_runs.specs.Runs.{workload_of}
use Rattle.law_runs.specs.Plannable.{eager_jobs_of}
use Rattle.law_runs.proofs.Scenario.{jobs_of_each}

-- ---- a list by a number of its elements

abbrev share : {A : Type 0} → (A → ℕ) → List A → ℕ → ℕ
share f xs n = length (filter (λ x. f x == n) xs)

share_here : {A : Type 0} (f : A → ℕ) (x : A) (xs : List A) → share f (x ∷ xs) (f x) ≡ suc (share f xs (f x))
share_here f x xs = ap (λ (b : Bool). length (cond b (x ∷ filter (λ y. f y == f x) xs) (filter (λ y. f y == f x) xs))) (eq-eqb (f x) (f x) refl)

share_other : {A : Type 0} (f : A → ℕ) (x : A) (xs : List A) (n : ℕ) → n ≢ f x → share f (x ∷ xs) n ≡ share f xs n
share_other f x xs n ne =
    ap (λ (b : Bool). length (cond b (x ∷ filter (λ y. f y == n) xs) (filter (λ y. f y == n) xs))) (ne_eqb (f x) n (λ same. ne (sym same)))

-- the list is as long as its shares together
all_shares : {A : Type 0} (f : A → ℕ) (n : ℕ) (xs : List A) → ((x : A) → In x xs → f x < n)
    → length xs ≤ sum_below (share f xs) n
all_shares f n [] h = omega arith
all_shares f n (x ∷ xs) h =
    omega (
      arith,
      sum_moved (share f xs) (share f (x ∷ xs)) (f x) n (h x (inl refl)) (λ m ne. share_other f x xs m ne),
      share_here f x xs,
      all_shares f n xs (λ y i. h y (inr i)),
    )

-- a transaction of which jobs were planned has a place among the plans
planned_in_set : (plans : List Plans) (tx serial : ℕ) → serial < (get_or plans tx (record { number = 0; last = 0 })).number
    → tx < length plans
planned_in_set plans tx serial lt = elim (cases_lt tx (length plans)) [
  | inl inside ↦ inside
  | inr past ↦ absurd (omega (arith, lt, ap (λ (p : Plans). p.number) (get_or_past plans tx (record { number = 0; last = 0 }) past)))
]

pub count_in_set : (set : Set) (entries : List Entry) (tx serial : ℕ) → IsCompiled set → IsLegal set entries
    → serial < plan_count entries tx → tx < length set.txns
count_in_set set entries tx serial ok legal lt =
    omega (
      arith,
      planned_in_set (state_of set entries).plans tx serial (omega (arith, lt, (time_bounded set entries ok legal).plans tx)),
      (legal_sound set entries ok legal).calendar.plans_count,
    )

-- no more jobs ended than were planned
ended_most : (set : Set) (entries : List Entry) → IsCompiled set → IsLegal set entries
    → length (state_of set entries).ended ≤ sum_below (plan_count entries) (length set.txns)
ended_most set entries ok legal =
    let ended : List EndedJob = (state_of set entries).ended in
    let counted = entries_few set entries ok legal in
    let sound = legal_sound set entries ok legal in
    let all : length ended ≤ sum_below (share (λ (e : EndedJob). e.job.tx.0) ended) (length set.txns) =
    all_shares (λ (e : EndedJob). e.job.tx.0) (length set.txns) ended (λ e i.
    omega (arith, planned_in_set (state_of set entries).plans e.job.tx.0 e.job.serial ((legal_serial set entries ok legal).done e i), sound.calendar.plans_count)) in
    omega (arith, all, sum_le (share (λ (e : EndedJob). e.job.tx.0) ended) (plan_count entries) (length set.txns) (λ n lt. counted.ended n))

-- ---- the jobs of a scenario

jobs_together : (rs : List Releases) → sum_of jobs_of rs ≡ total_jobs rs
jobs_together [] = refl
jobs_together (r ∷ rs) = ap (λ (n : ℕ). jobs_of r + n) (jobs_together rs)

module _ (s : Shown) (history : List Entry) (is : IsScenario s) (ok : IsCompiled (set_of s)) (run : IsRunOf (workload_of s) (eager_jobs_of s) history) where
  planned_in : (n : ℕ) → n < length s.txns → plan_count history n ≡ jobs_of (releases_of s.releases n)
  planned_in n lt = run.jobs n lt ∙ jobs_of_each s n is

  pub all_planned : sum_below (plan_count history) (length s.txns) ≤ 2 ^ 16
  all_planned =
      let jobs : ℕ → ℕ = λ n. jobs_of (releases_of s.releases n) in
      let count : sum_below jobs (length s.releases) ≡ total_jobs s.releases =
      sum_places jobs_of s.releases (At []) ∙ jobs_together s.releases in
      omega (
        arith,
        sum_le (plan_count history) jobs (length s.txns) (λ n lt. omega (arith, planned_in n lt)),
        ap (sum_below jobs) is.released,
        count,
        is.few_jobs,
      )

  ended_all : length (job_rows (set_of s) history) ≡ length (state_of (set_of s) history).ended
  ended_all =
      let ended : List EndedJob = (state_of (set_of s) history).ended in
      omega (
        arith,
        length-append (map (ended_row (set_of s) history) ended) (map (pending_row (set_of s) history) (in_falling_priority (set_of s) (pending (state_of (set_of s) history).rows))),
        length-map ended (ended_row (set_of s) history),
        ap (λ rows. length (map (pending_row (set_of s) history) (in_falling_priority (set_of s) rows))) run.none_pending,
      )

  pub few_jobs : length (job_rows (set_of s) history) ≤ 2 ^ 16
  few_jobs = omega (arith, ended_all, ended_most (set_of s) history ok run.so_far.legal, all_planned)
