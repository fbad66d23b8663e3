-- The jobs that eager transactions plan themselves come at most the greatest period of all after one another: by
-- induction on the entries that come after the plans of all releases.
use Rattle.std.proofs.Common.{◌≡◌, ◌≢◌, ℕ, ◌+◌, ◌*◌, ◌<◌, ◌≤◌, Bool, true, false, cond, List, [], ◌∷◌, ◌++◌, length, Some, refl, ap, sym, ◌∙◌, subst, inl, inr, arith, append_assoc, append-nil, add-mul}
use Rattle.std.proofs.lemmas.Bool.{cases_eq, eq-eqb, ne_eqb}
use Rattle.rt_base.specs.declared.ids.TxId.{TxId}
use Rattle.txn_set.specs.Set.{Set, IsCompiled}
use Rattle.step_journal.specs.declared.entry.Entry.{Entry}
use Rattle.step_journal.specs.declared.entry.Entry.TheVariants.{Planned, Step, Blocked, Idle}
use Rattle.step_journal.specs.State.{State}
use Rattle.step_journal.specs.Step.{given, plans_of, may_plan, with_plan, step}
use Rattle.step_journal.specs.History.{entry_given, IsLegalEntry, IsLegal, state_of}
use Rattle.law_histories.proofs.Histories.{MayPlan, may_plan_is}
use Rattle.board.specs.Answers.{next_tick_for}
use Rattle.law_histories.specs.Counting.{plans_in, plan_count, tick_in, greatest_planned, greatest_period, IsTimed}
use Rattle.law_histories.proofs.Sums.{sum_below, sum_same, sum_moved}
use Rattle.law_histories.proofs.Rooms.{IsNoPlan, count_more, planned_more}
use Rattle.law_histories.proofs.Counts.{period_le}
use Rattle.law_histories.proofs.CountingAll.{time_bounded}
use Rattle.law_histories.specs.Sim.{Workload, plans}
use Rattle.sim_run.proofs.Histories.{legal_parts, state_next}
use Rattle.txn_threads.specs.Plans.{plan_number}
use Rattle.sim_run.proofs.Planning.{earliest_le}
use Rattle.law_runs.specs.Histories.{IsLater, IsRunSoFar}
use Rattle.law_runs.proofs.Waiting.{entry_planned, few_planned}

-- what is known by the entries after the plans of all releases
pub record IsNear (w : Workload) (eager_jobs : ℕ → ℕ) (done : List Entry) : Type 0 where
  pub top : greatest_planned (plans w ++ done) ≤ greatest_planned (plans w) + sum_below (plan_count done) (length w.set.txns) * greatest_period w.set
  pub jobs : (n : ℕ) → plan_count done n ≤ eager_jobs n
  pub waiting : length (state_of w.set (plans w ++ done)).planned ≤ length (plans w) + sum_below (plan_count done) (length w.set.txns)

near_first : (w : Workload) (eager_jobs : ℕ → ℕ) → IsNear w eager_jobs []
near_first w eager_jobs = record {
  top = omega (arith, ap greatest_planned (append-nil (plans w)));
  jobs = λ n. omega arith;
  waiting = omega (arith, few_planned w.set (plans w ++ []), ap (λ (l : List Entry). length l) (append-nil (plans w)));
}

-- what one more entry adds, where it is so many plans
pub record IsMore (w : Workload) (eager_jobs : ℕ → ℕ) (done : List Entry) (e : Entry) (d : ℕ) : Type 0 where
  pub tick : tick_in e ≤ greatest_planned (plans w ++ done) + d * greatest_period w.set
  pub count : sum_below (plan_count (done ++ e ∷ [])) (length w.set.txns) ≡ sum_below (plan_count done) (length w.set.txns) + d
  pub jobs : (n : ℕ) → plan_count done n + plans_in n e ≤ eager_jobs n
  pub number : plan_number e ≡ d

near_next : (w : Workload) (eager_jobs : ℕ → ℕ) (done : List Entry) (e : Entry) (d : ℕ) → IsNear w eager_jobs done → IsMore w eager_jobs done e d → IsNear w eager_jobs (done ++ e ∷ [])
near_next w eager_jobs done e d h a =
    let assoc : (plans w ++ done) ++ e ∷ [] ≡ plans w ++ (done ++ e ∷ []) = append_assoc (plans w) done (e ∷ []) in
    let times : sum_below (plan_count (done ++ e ∷ [])) (length w.set.txns) * greatest_period w.set ≡ sum_below (plan_count done) (length w.set.txns) * greatest_period w.set + d * greatest_period w.set =
    ap (λ (k : ℕ). k * greatest_period w.set) a.count ∙ add-mul (sum_below (plan_count done) (length w.set.txns)) d (greatest_period w.set) in
    record {
      top = omega (arith, ap greatest_planned assoc, planned_more (plans w ++ done) e, h.top, a.tick, times);
      jobs = λ n. omega (arith, count_more done e n, a.jobs n);
      waiting = omega (
        arith,
        ap (λ (l : List Entry). length (state_of w.set l).planned) assoc,
        ap (λ (s : State). length s.planned) (state_next w.set (plans w ++ done) e),
        entry_planned w.set (state_of w.set (plans w ++ done)) e,
        a.number,
        h.waiting,
        a.count,
      );
    }

-- an entry that is no plan
no_plan_more : (w : Workload) (eager_jobs : ℕ → ℕ) (done : List Entry) (e : Entry) → IsNear w eager_jobs done → IsNoPlan w.set e → plan_number e ≡ 0 → IsMore w eager_jobs done e 0
no_plan_more w eager_jobs done e h no_plan none = record {
  tick = omega (arith, no_plan.tick);
  count = omega (arith, sum_same (plan_count done) (plan_count (done ++ e ∷ [])) (length w.set.txns) (λ k lt. omega (arith, count_more done e k, no_plan.count k)));
  jobs = λ n. omega (arith, no_plan.count n, h.jobs n);
  number = none;
}

-- a plan
pub plan_here : (tx : TxId) (tick n : ℕ) → n ≡ tx.0 → plans_in n (Planned tx tick) ≡ 1
plan_here tx tick n e = ap {B = ℕ} (λ (b : Bool). cond b 1 0) (eq-eqb n tx.0 e)

pub plan_there : (tx : TxId) (tick n : ℕ) → n ≢ tx.0 → plans_in n (Planned tx tick) ≡ 0
plan_there tx tick n ne = ap {B = ℕ} (λ (b : Bool). cond b 1 0) (ne_eqb n tx.0 ne)

pub plan_more : (w : Workload) (eager_jobs : ℕ → ℕ) (done : List Entry) (tx : TxId) (tick : ℕ) → IsNear w eager_jobs done → tx.0 < length w.set.txns → plan_count done tx.0 < eager_jobs tx.0
    → tick ≤ greatest_planned (plans w ++ done) + greatest_period w.set → IsMore w eager_jobs done (Planned tx tick) 1
plan_more w eager_jobs done tx tick h lt left soon =
    let e : Entry = Planned tx tick in
    let moved = sum_moved (plan_count done) (plan_count (done ++ e ∷ [])) tx.0 (length w.set.txns) lt (λ m ne. omega (arith, count_more done e m, plan_there tx tick m ne)) in
    record {
      tick = omega (arith, soon);
      count = omega (arith, moved, count_more done e tx.0, plan_here tx tick tx.0 refl);
      jobs = λ n. elim (cases_eq n tx.0) [
        | inl is ↦ omega (arith, plan_here tx tick n is, ap (plan_count done) is, ap eager_jobs is, left)
        | inr ne ↦ omega (arith, plan_there tx tick n ne, h.jobs n)
      ];
      number = refl;
    }

given_may : (b : Bool) (p : Entry × State) (e : Entry) → entry_given (given b p) ≡ Some e → b ≡ true
given_may true p e h = refl
given_may false p e h = absurd cc

-- a legal plan is of a transaction of the set
pub plan_may : (set : Set) (s : State) (tx : TxId) (tick : ℕ) → IsLegalEntry set s (Planned tx tick) → MayPlan set s tx.0 tick
unfolding step
plan_may set s tx tick legal = may_plan_is set s tx.0 tick (given_may (may_plan set s tx.0 tick) (Planned (record { 0 = tx.0 }) tick, with_plan s tx.0 tick) (Planned tx tick) legal)

earliest_at : (last period : ℕ) (b : Bool) → cond b 0 (last + period) ≤ last + period
earliest_at last period true = omega arith
earliest_at last period false = omega arith

-- the tick of plan_next is at most the greatest period after all plans
pub next_near : (set : Set) (es : List Entry) (tx : ℕ) → IsTimed set es → tx < length set.txns
    → next_tick_for set (state_of set es) tx ≤ greatest_planned es + greatest_period set
next_near set es tx t lt = omega (arith, t.now, earliest_le set tx (plans_of (state_of set es) tx), t.last tx, period_le set tx lt)

entry_near : (w : Workload) (eager_jobs : ℕ → ℕ) (done : List Entry) (e : Entry) → IsCompiled w.set → IsNear w eager_jobs done → IsLegal w.set (plans w ++ done)
    → IsLegalEntry w.set (state_of w.set (plans w ++ done)) e → IsLater w eager_jobs done e → IsNear w eager_jobs (done ++ e ∷ [])
entry_near w eager_jobs done (Planned tx tick) ok h legal next later =
    let may = plan_may w.set (state_of w.set (plans w ++ done)) tx tick next in
    let lt = may.in_set in
    let left = later.left in
    let is = later.tick_is in
    let soon = next_near w.set (plans w ++ done) tx.0 (time_bounded w.set (plans w ++ done) ok legal) lt in
    near_next w eager_jobs done (Planned tx tick) 1 h (plan_more w eager_jobs done tx tick h lt left (omega (arith, is, soon)))
entry_near w eager_jobs done (Step job op outcome over tick) ok h legal next later =
    let none : IsNoPlan w.set (Step job op outcome over tick) = record { room = refl; count = λ n. refl; tick = refl } in
    near_next w eager_jobs done (Step job op outcome over tick) 0 h (no_plan_more w eager_jobs done (Step job op outcome over tick) h none refl)
entry_near w eager_jobs done (Blocked job op by ceiling tick) ok h legal next later =
    let none : IsNoPlan w.set (Blocked job op by ceiling tick) = record { room = refl; count = λ n. refl; tick = refl } in
    near_next w eager_jobs done (Blocked job op by ceiling tick) 0 h (no_plan_more w eager_jobs done (Blocked job op by ceiling tick) h none refl)
entry_near w eager_jobs done (Idle from to) ok h legal next later =
    let none : IsNoPlan w.set (Idle from to) = record { room = refl; count = λ n. refl; tick = refl } in
    near_next w eager_jobs done (Idle from to) 0 h (no_plan_more w eager_jobs done (Idle from to) h none refl)

all_near : (w : Workload) (eager_jobs : ℕ → ℕ) (done rest : List Entry) → IsCompiled w.set → IsLegal w.set ((plans w ++ done) ++ rest)
    → ((more after : List Entry) (e : Entry) → rest ≡ more ++ e ∷ after → IsLater w eager_jobs (done ++ more) e) → IsNear w eager_jobs done → IsNear w eager_jobs (done ++ rest)
all_near w eager_jobs done [] ok legal later h = subst (IsNear w eager_jobs) (sym (append-nil done)) h
all_near w eager_jobs done (e ∷ rest) ok legal later h =
    let parts = legal_parts w.set (plans w ++ done) e rest legal in
    let here : IsLater w eager_jobs done e = subst (λ (l : List Entry). IsLater w eager_jobs l e) (append-nil done) (later [] rest e refl) in
    let next = entry_near w eager_jobs done e ok h parts.0 parts.1 here in
    let split : (plans w ++ done) ++ e ∷ rest ≡ (plans w ++ (done ++ e ∷ [])) ++ rest =
    sym (append_assoc (plans w ++ done) (e ∷ []) rest) ∙ ap (λ (l : List Entry). l ++ rest) (append_assoc (plans w) done (e ∷ [])) in
    let whole = all_near w eager_jobs (done ++ e ∷ []) rest ok (subst (IsLegal w.set) split legal)
    (λ more after x is. subst (λ (l : List Entry). IsLater w eager_jobs l x) (sym (append_assoc done (e ∷ []) more)) (later (e ∷ more) after x (ap (λ (l : List Entry). e ∷ l) is))) next in
    subst (IsNear w eager_jobs) (append_assoc done (e ∷ []) rest) whole

pub run_near : (w : Workload) (eager_jobs : ℕ → ℕ) (history : List Entry) → IsCompiled w.set → (r : IsRunSoFar w eager_jobs history) → IsNear w eager_jobs r.rest
run_near w eager_jobs history ok r =
    let legal : IsLegal w.set (plans w ++ r.rest) = subst (IsLegal w.set) r.begins r.legal in
    all_near w eager_jobs [] r.rest ok (subst (λ (l : List Entry). IsLegal w.set (l ++ r.rest)) (sym (append-nil (plans w))) legal) r.later (near_first w eager_jobs)
