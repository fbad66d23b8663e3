-- The workload of a scenario: how many jobs it has, when the last of its releases is, and which are eager.
use Rattle.std.proofs.Common.{◌≡◌, ℕ, zero, suc, ◌+◌, ◌*◌, ◌^◌, ◌<◌, ◌≤◌, Bool, false, ◌||◌, max, List, [], ◌∷◌, ◌++◌, length, map, get_or, refl, ap, ◌∙◌, arith, length-append}
use Rattle.std.proofs.lemmas.List.{length-map}
use Rattle.std.proofs.lemmas.List.FromFn.{length-map-range_with_len}
use Rattle.std.specs.List.{list_any}
use Rattle.rt_base.specs.declared.ids.TxId.{TxId}
use Rattle.txn_set.specs.declared.decl.TxnDecl.{TxnDecl}
use Rattle.txn_set.specs.Set.{periodic_release}
use Rattle.txn_set.specs.Ceilings.{greatest}
use Rattle.step_journal.specs.declared.entry.Entry.{Entry}
use Rattle.step_journal.specs.declared.entry.Entry.TheVariants.{Planned}
use Rattle.law_histories.specs.Counting.{greatest_planned, greatest_period}
use Rattle.law_histories.proofs.Sums.{sum_below, sum_of, sum_places}
use Rattle.law_histories.specs.Sim.{plans_from}
use Rattle.step_script.specs.declared.releases.Releases.{Releases}
use Rattle.step_script.specs.declared.releases.Releases.TheVariants.{At, Jobs, Eager}
use Rattle.step_script.specs.Shown.{Shown, set_of}
use Rattle.step_script.specs.Releases.{jobs_of, is_eager, eager_of, ticks_of, total_jobs, eager_jobs, fixed_ticks}
use Rattle.step_script.specs.Scenarios.{IsScenario}
use Rattle.law_runs.specs.Plannable.{total_eager_jobs, eager_jobs_of}
use Rattle.law_runs.specs.EagerLaws.{ScenarioIsPlannable, EagerHaveNoReleases, AllJobsAre, NoneEager}
use Rattle.law_runs.proofs.Plans.{own_sum}

-- jobs

jobs_are : (t : TxnDecl) (r : Releases) → length (ticks_of t r) + eager_of r ≡ jobs_of r
jobs_are t (At ticks) = omega arith
jobs_are t (Jobs n) = omega (arith, length-map-range_with_len (λ k. periodic_release t k) 0 n)
jobs_are t (Eager n) = omega arith

all_jobs : (k : ℕ) (ts : List TxnDecl) (rs : List Releases) → length rs ≡ length ts → length (plans_from k (fixed_ticks ts rs)) + eager_jobs rs ≡ total_jobs rs
all_jobs k [] [] same = omega arith
all_jobs k [] (r ∷ rs) same = absurd (omega (arith, same))
all_jobs k (t ∷ ts) [] same = absurd (omega (arith, same))
all_jobs k (t ∷ ts) (r ∷ rs) same =
    omega (
      arith,
      length-append (map (Planned (record { 0 = k })) (ticks_of t r)) (plans_from (k + 1) (fixed_ticks ts rs)),
      length-map (ticks_of t r) (Planned (record { 0 = k })),
      jobs_are t r,
      all_jobs (k + 1) ts rs (omega (arith, same)),
    )

eager_sum : (rs : List Releases) → sum_of eager_of rs ≡ eager_jobs rs
eager_sum [] = refl
eager_sum (r ∷ rs) = ap (λ (n : ℕ). eager_of r + n) (eager_sum rs)

own_eager : (s : Shown) → IsScenario s → total_eager_jobs (set_of s) (eager_jobs_of s) ≡ eager_jobs s.releases
own_eager s is =
    own_sum (eager_jobs_of s) (length s.txns)
    ∙ (ap (sum_below (eager_jobs_of s)) (let same = is.released in omega (arith, same)) ∙ (sum_places eager_of s.releases (At []) ∙ eager_sum s.releases))

-- the last release

top_append : (xs ys : List Entry) → greatest_planned (xs ++ ys) ≡ max (greatest_planned xs) (greatest_planned ys)
top_append [] ys = omega arith
top_append (x ∷ xs) ys = omega (arith, top_append xs ys)

top_ticks : (tx : TxId) (ticks : List ℕ) → greatest_planned (map (Planned tx) ticks) ≡ greatest ticks
top_ticks tx [] = refl
top_ticks tx (tick ∷ ticks) = ap (max tick) (top_ticks tx ticks)

top_plans : (k : ℕ) (releases : List (List ℕ)) → greatest_planned (plans_from k releases) ≡ greatest (map greatest releases)
top_plans k [] = refl
top_plans k (ticks ∷ rest) =
    omega (arith, top_append (map (Planned (record { 0 = k })) ticks) (plans_from (k + 1) rest), top_ticks (record { 0 = k }) ticks, top_plans (k + 1) rest)

pub plannable : ScenarioIsPlannable
plannable = λ s is.
    let own = own_eager s is in
    let jobs = is.few_jobs in
    let eager : greatest (map greatest (fixed_ticks s.txns s.releases)) + eager_jobs s.releases * greatest_period (set_of s) ≤ 2 ^ 40 = is.eager in
    let times : total_eager_jobs (set_of s) (eager_jobs_of s) * greatest_period (set_of s) ≡ eager_jobs s.releases * greatest_period (set_of s) = ap (λ (k : ℕ). k * greatest_period (set_of s)) own in
    record {
      few = omega (arith, all_jobs 0 s.txns s.releases is.released, own, jobs);
      near = omega (arith, top_plans 0 (fixed_ticks s.txns s.releases), times, eager);
    }

-- eager or not

no_ticks_at : (t : TxnDecl) (r : Releases) → 0 < eager_of r → ticks_of t r ≡ []
no_ticks_at t (At ticks) lt = absurd (omega (arith, lt))
no_ticks_at t (Jobs n) lt = absurd (omega (arith, lt))
no_ticks_at t (Eager n) lt = refl

no_ticks : (ts : List TxnDecl) (rs : List Releases) (tx : ℕ) → 0 < eager_of (get_or rs tx (At [])) → get_or (fixed_ticks ts rs) tx [] ≡ []
no_ticks [] rs tx lt = refl
no_ticks (t ∷ ts) [] tx lt = refl
no_ticks (t ∷ ts) (r ∷ rs) zero lt = no_ticks_at t r lt
no_ticks (t ∷ ts) (r ∷ rs) (suc tx) lt = no_ticks ts rs tx lt

pub eager_alone : EagerHaveNoReleases
eager_alone = λ s tx lt. no_ticks s.txns s.releases tx lt

pub jobs_there : (ts : List TxnDecl) (rs : List Releases) (tx : ℕ) → length rs ≡ length ts
    → length (get_or (fixed_ticks ts rs) tx []) + eager_of (get_or rs tx (At [])) ≡ jobs_of (get_or rs tx (At []))
jobs_there [] [] tx same = omega arith
jobs_there [] (r ∷ rs) tx same = absurd (omega (arith, same))
jobs_there (t ∷ ts) [] tx same = absurd (omega (arith, same))
jobs_there (t ∷ ts) (r ∷ rs) zero same = jobs_are t r
jobs_there (t ∷ ts) (r ∷ rs) (suc tx) same = jobs_there ts rs tx (omega (arith, same))

pub jobs_of_each : AllJobsAre
jobs_of_each = λ s tx is. jobs_there s.txns s.releases tx is.released

none_at : (r : Releases) (rest : Bool) → (is_eager r || rest) ≡ false → (eager_of r ≡ 0) × (rest ≡ false)
none_at (Eager n) rest h = absurd cc
none_at other rest h = (refl, h)

none : (rs : List Releases) (tx : ℕ) → list_any is_eager rs ≡ false → eager_of (get_or rs tx (At [])) ≡ 0
none [] tx h = refl
none (r ∷ rs) zero h = (none_at r (list_any is_eager rs) h).0
none (r ∷ rs) (suc tx) h = none rs tx (none_at r (list_any is_eager rs) h).1

pub none_eager : NoneEager
none_eager = λ s h tx. none s.releases tx h
