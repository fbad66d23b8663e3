-- Where no transaction plans jobs itself: a run on a plant is the one run of the workload.
use Rattle.std.proofs.Common.{◌≡◌, ℕ, ◌+◌, ◌*◌, map, ◌∷◌, arith, length-append, List, [], ◌++◌, length, take, drop, refl, sym, ap, subst, ◌∙◌, append_assoc}
use Rattle.std.proofs.lemmas.List.{take-append-drop, length-map}
use Rattle.std.proofs.lemmas.List.Sums.{sum-map, sum_by-cons}
use Rattle.std.specs.List.{sum, range_with_len}
use Rattle.std.proofs.Math.Seq.{take-append_seam}
use Rattle.txn_set.specs.Set.{IsCompiled}
use Rattle.step_journal.specs.declared.entry.Entry.{Entry}
use Rattle.step_journal.specs.declared.entry.Entry.TheVariants.{Planned}
use Rattle.law_histories.specs.Counting.{greatest_period}
use Rattle.law_histories.proofs.CountingAll.{time_bounded}
use Rattle.law_histories.specs.Sim.{Workload, plans, plans_from}
use Rattle.sim_run.proofs.Planning.{releases_legal}
use Rattle.law_runs.specs.Plannable.{total_eager_jobs}
use Rattle.sim_run.specs.Workloads.{IsObedient}
use Rattle.sim_run.specs.Runs.{IsWhole, IsStopped}
use Rattle.sim_run.proofs.Exist.{histories_go_on}
use Rattle.sim_run.proofs.Whole.{way_stopped}
use Rattle.law_runs.proofs.Fixed.{fixed_sim, fixed_under_way}
use Rattle.plant_run.specs.Runs.{FixedArePlannable, IsWholeRun, IsStoppedRun, IsShortRun, IsCutShort}

-- what is to be planned

sum_none : (eager_jobs : ℕ → ℕ) → ((tx : ℕ) → eager_jobs tx ≡ 0) → (txs : List ℕ) → sum (map eager_jobs txs) ≡ 0
sum_none eager_jobs none [] = refl
sum_none eager_jobs none (tx ∷ txs) =
    omega (arith, sum-map eager_jobs (tx ∷ txs), sum_by-cons eager_jobs tx txs, sum-map eager_jobs txs, none tx, sum_none eager_jobs none txs)

plans_long : (k : ℕ) (releases : List (List ℕ)) → length (plans_from k releases) ≡ sum (map (λ (l : List ℕ). length l) releases)
plans_long k [] = refl
plans_long k (ticks ∷ rest) =
    let long = λ (l : List ℕ). length l in
    omega (arith, sum-map long (ticks ∷ rest), sum_by-cons long ticks rest, sum-map long rest, length-append (map (Planned (record { 0 = k })) ticks) (plans_from (k + 1) rest), length-map ticks (Planned (record { 0 = k })), plans_long (k + 1) rest)

pub fixed_plannable : FixedArePlannable
fixed_plannable = λ w eager_jobs ok accepted none.
    let jobs : total_eager_jobs w.set eager_jobs ≡ 0 = sum_none eager_jobs none (range_with_len 0 (length w.set.txns)) in
    let timed = time_bounded w.set (plans w) ok (releases_legal w.set w.releases accepted) in
    let times : total_eager_jobs w.set eager_jobs * greatest_period w.set ≡ 0 = ap (λ (k : ℕ). k * greatest_period w.set) jobs ∙ omega arith in
    record {
      few = omega (arith, plans_long 0 w.releases, jobs, accepted.few);
      near = omega (arith, timed.planned, times);
    }

-- runs

pub whole_is_sim : (w : Workload) (eager_jobs : ℕ → ℕ) (stands got got' : List Entry → Type 0) → ((tx : ℕ) → eager_jobs tx ≡ 0) → IsWholeRun w eager_jobs stands got got' → IsWhole w stands got got'
whole_is_sim w eager_jobs stands got got' none r = record { history = r.history; sim = fixed_sim w eager_jobs r.history none r.run; stood = r.stood; grown = r.grown }

pub stopped_is_sim : (w : Workload) (eager_jobs : ℕ → ℕ) (got got' lost' : List Entry → Type 0) → IsCompiled w.set → IsObedient w → ((tx : ℕ) → eager_jobs tx ≡ 0)
    → IsStoppedRun w eager_jobs got got' lost' → IsStopped w got got' lost'
stopped_is_sim w eager_jobs got got' lost' ok obeys none r =
    let after : List Entry = drop r.passed r.history in
    way_stopped w w.set got got' lost' r.history refl ok r.so_far.legal obeys (fixed_under_way w eager_jobs r.history none r.so_far) (record {
      passed = take r.passed r.history;
      piece = take r.missed after;
      left = drop r.missed after;
      parts = sym (append_assoc (take r.passed r.history) (take r.missed after) (drop r.missed after)
          ∙ (ap (λ (l : List Entry). take r.passed r.history ++ l) (take-append-drop r.missed after) ∙ take-append-drop r.passed r.history));
      grown = r.grown;
      is_lost = r.is_lost;
    })

pub short_is_sim : (w : Workload) (eager_jobs : ℕ → ℕ) (got got' lost' : List Entry → Type 0) → IsCompiled w.set → IsObedient w → ((tx : ℕ) → eager_jobs tx ≡ 0)
    → IsShortRun w eager_jobs got got' lost' → IsCutShort w got got' lost'
short_is_sim w eager_jobs got got' lost' ok obeys none r =
    let passed : List Entry = take r.passed r.history in let after : List Entry = drop r.passed r.history in
    let h = histories_go_on w r.history ok obeys r.so_far.legal (fixed_under_way w eager_jobs r.history none r.so_far) in
    let parts : h.history ≡ passed ++ (after ++ h.rest) =
    h.begins ∙ (ap (λ (l : List Entry). l ++ h.rest) (sym (take-append-drop r.passed r.history)) ∙ append_assoc passed after h.rest) in
    let front : take (length passed) h.history ≡ passed = ap (take (length passed)) parts ∙ take-append_seam passed (after ++ h.rest) in
    record {
      history = h.history;
      sim = h.sim;
      passed = length passed;
      grown = λ history g. subst (λ (l : List Entry). got' (history ++ l)) (sym front) (r.grown history g);
      none_lost = r.none_lost;
    }
