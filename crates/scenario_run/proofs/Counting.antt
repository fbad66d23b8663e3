-- How many plans a run has: its releases, and the jobs that transactions plan themselves.
use Rattle.std.proofs.Common.{◌≡◌, ℕ, zero, suc, ◌+◌, List, [], ◌∷◌, map, length, refl, sym, ap, ◌∙◌, arith}
use Rattle.std.proofs.lemmas.List.Sums.{sum-map}
use Rattle.std.specs.List.{sum}
use Rattle.txn_set.specs.Set.{Set}
use Rattle.step_journal.specs.declared.entry.Entry.{Entry}
use Rattle.step_journal.specs.declared.entry.Entry.TheVariants.{Planned, Step, Blocked, Idle}
use Rattle.step_journal.specs.State.{State}
use Rattle.step_journal.specs.History.{state_after, IsLegalFrom}
use Rattle.law_histories.specs.Counting.{plan_count}
use Rattle.law_histories.proofs.Sums.{sum_below, sum_same, sum_moved, sum_zero, sum_places}
use Rattle.law_histories.specs.Sim.{Workload}
use Rattle.sim_run.specs.Workloads.{ticks_of}
use Rattle.job_rows.specs.Upkeep.{planned_jobs}
use Rattle.law_runs.specs.Histories.{IsRunOf}
use Rattle.law_runs.specs.Plannable.{total_eager_jobs}
use Rattle.law_runs.proofs.Near.{plan_here, plan_there, plan_may}
use Rattle.law_runs.proofs.Plans.{own_sum, listed_sum}

-- all plans, by transaction

planned_from : (set : Set) (s : State) (es : List Entry) → IsLegalFrom set s es → planned_jobs es ≡ sum_below (plan_count es) (length set.txns)
planned_from set s [] h = sym (sum_zero (plan_count []) (length set.txns) (λ k lt. refl))
planned_from set s (Planned tx tick ∷ es) h =
    let may = plan_may set s tx tick h.0 in
    let moved = sum_moved (plan_count es) (plan_count (Planned tx tick ∷ es)) tx.0 (length set.txns) may.in_set (λ m ne. omega (arith, plan_there tx tick m ne)) in
    omega (arith, planned_from set (state_after set s (Planned tx tick)) es h.1, moved, plan_here tx tick tx.0 refl)
planned_from set s (Step job op outcome over tick ∷ es) h =
    planned_from set (state_after set s (Step job op outcome over tick)) es h.1 ∙ sym (sum_same (plan_count es) (plan_count (Step job op outcome over tick ∷ es)) (length set.txns) (λ k lt. omega arith))
planned_from set s (Blocked job op by ceiling tick ∷ es) h =
    planned_from set (state_after set s (Blocked job op by ceiling tick)) es h.1 ∙ sym (sum_same (plan_count es) (plan_count (Blocked job op by ceiling tick ∷ es)) (length set.txns) (λ k lt. omega arith))
planned_from set s (Idle from to ∷ es) h =
    planned_from set (state_after set s (Idle from to)) es h.1 ∙ sym (sum_same (plan_count es) (plan_count (Idle from to ∷ es)) (length set.txns) (λ k lt. omega arith))

-- all releases, by transaction

sum_both : (f g : ℕ → ℕ) (n : ℕ) → sum_below (λ k. f k + g k) n ≡ sum_below f n + sum_below g n
sum_both f g zero = refl
sum_both f g (suc n) = omega (arith, sum_both f g n)

pub planned_run : (w : Workload) (eager_jobs : ℕ → ℕ) (history : List Entry) → length w.releases ≡ length w.set.txns → IsRunOf w eager_jobs history
    → planned_jobs history ≡ sum (map length w.releases) + total_eager_jobs w.set eager_jobs
planned_run w eager_jobs history each r =
    let n = length w.set.txns in
    let by_tx : sum_below (plan_count history) n ≡ sum_below (λ tx. length (ticks_of w.releases tx) + eager_jobs tx) n =
    sum_same (λ tx. length (ticks_of w.releases tx) + eager_jobs tx) (plan_count history) n r.jobs in
    let both : sum_below (λ tx. length (ticks_of w.releases tx) + eager_jobs tx) n ≡ sum_below (λ tx. length (ticks_of w.releases tx)) n + sum_below eager_jobs n =
    sum_both (λ tx. length (ticks_of w.releases tx)) eager_jobs n in
    let released : sum_below (λ tx. length (ticks_of w.releases tx)) n ≡ sum (map length w.releases) =
    ap (sum_below (λ tx. length (ticks_of w.releases tx))) (sym each) ∙ (sum_places length w.releases [] ∙ (listed_sum length w.releases ∙ sym (sum-map length w.releases))) in
    omega (arith, planned_from w.set _ history r.so_far.legal, by_tx, both, released, own_sum eager_jobs n)
