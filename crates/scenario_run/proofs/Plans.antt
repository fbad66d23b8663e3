-- The plans of a run: as many as the releases of its workload.
use Rattle.std.proofs.Common.{◌≡◌, ℕ, suc, ◌+◌, List, [], ◌∷◌, ◌++◌, map, length, Option, None, Some, refl, sym, ap, ◌∙◌, arith}
use Rattle.std.specs.List.{sum, fold}
use Rattle.rt_base.specs.declared.ids.TxId.{TxId}
use Rattle.rt_base.specs.declared.release.Release.{Release}
use Rattle.step_journal.specs.declared.entry.Entry.{Entry}
use Rattle.step_journal.specs.declared.entry.Entry.TheVariants.{Planned, Step, Blocked, Idle}
use Rattle.step_journal.specs.State.{State, Row}
use Rattle.step_journal.specs.Step.{plan}
use Rattle.step_journal.specs.Running.{running}
use Rattle.step_journal.specs.History.{state_of}
use Rattle.law_histories.specs.Sim.{Workload, IsSim, IsFixed, plans, plans_from, event_in, event_for}
use Rattle.job_rows.specs.Upkeep.{planned_jobs}
use Rattle.job_rows.proofs.Fronts.{planned_both as planned_append}

planned_each : (tx : TxId) (ticks : List ℕ) → planned_jobs (map (Planned tx) ticks) ≡ length ticks
planned_each tx [] = refl
planned_each tx (t ∷ ts) = ap suc (planned_each tx ts)

-- a sum from a number on
sum_from : (n : ℕ) (xs : List ℕ) → fold (λ a b. a + b) n xs ≡ n + fold (λ a b. a + b) 0 xs
sum_from n [] = omega arith
sum_from n (x ∷ xs) = omega (arith, sum_from (n + x) xs, sum_from (0 + x) xs)

sum_more : (x : ℕ) (xs : List ℕ) → sum (x ∷ xs) ≡ x + sum xs
sum_more x xs = sum_from (0 + x) xs ∙ omega arith

planned_plans : (tx : ℕ) (releases : List (List ℕ)) → planned_jobs (plans_from tx releases) ≡ sum (map length releases)
planned_plans tx [] = refl
planned_plans tx (ticks ∷ rest) =
    planned_append (map (Planned (record { 0 = tx })) ticks) (plans_from (tx + 1) rest)
    ∙ (ap (λ (n : ℕ). n + planned_jobs (plans_from (tx + 1) rest)) (planned_each (record { 0 = tx }) ticks)
    ∙ (ap (λ (n : ℕ). length ticks + n) (planned_plans (tx + 1) rest) ∙ sym (sum_more (length ticks) (map length rest))))

-- no state fixes a plan
none_in : (tx tick : ℕ) (planned : List Release) → ¬ (event_in planned ≡ Some (plan tx tick))
none_in tx tick [] h = absurd cc
none_in tx tick (r ∷ rs) h = absurd cc

no_plan : (w : Workload) (before : List Entry) (s : State) (o : Option Row) (tx tick : ℕ) → ¬ (event_for w before s o ≡ Some (plan tx tick))
no_plan w before s None tx tick h = none_in tx tick s.planned h
no_plan w before s (Some row) tx tick h = absurd cc

planned_fixed : (w : Workload) (before rest : List Entry) → IsFixed w before rest → planned_jobs rest ≡ 0
planned_fixed w before [] h = refl
planned_fixed w before (Planned tx tick ∷ rest) h = absurd (no_plan w before (state_of w.set before) (running w.set (state_of w.set before).rows) tx.0 tick h.0)
planned_fixed w before (Step job op outcome over tick ∷ rest) h = planned_fixed w (before ++ Step job op outcome over tick ∷ []) rest h.1
planned_fixed w before (Blocked job op by ceiling tick ∷ rest) h = planned_fixed w (before ++ Blocked job op by ceiling tick ∷ []) rest h.1
planned_fixed w before (Idle from to ∷ rest) h = planned_fixed w (before ++ Idle from to ∷ []) rest h.1

pub planned_sim : (w : Workload) (history : List Entry) → IsSim w history → planned_jobs history ≡ sum (map length w.releases)
planned_sim w history h =
    let all : planned_jobs history ≡ planned_jobs (plans w) + planned_jobs h.rest = ap planned_jobs h.begins ∙ planned_append (plans w) h.rest in
    let first : planned_jobs (plans w) ≡ sum (map length w.releases) = planned_plans 0 w.releases in
    let rest : planned_jobs h.rest ≡ 0 = planned_fixed w (plans w) h.rest h.fixed in
    omega (arith, all, first, rest)
