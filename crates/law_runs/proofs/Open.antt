-- The next job of a transaction that has jobs left is planned: it does not come too late, and there is a place and a
-- serial for it.
use Rattle.std.proofs.Common.{◌≡◌, ℕ, ◌+◌, ◌*◌, ◌-◌, ◌^◌, ◌<◌, ◌≤◌, Bool, true, false, cond, List, [], ◌∷◌, ◌++◌, length, Option, Some, None, Ok, Err, refl, ap, sym, ◌∙◌, subst, arith, add-mul, one-mul, mul-le-mul_right}
use Rattle.std.proofs.lemmas.Bool.{le-ltb, lt-leb}
use Rattle.std.specs.Prelude.{nat_lt, nat_le}
use Rattle.rt_base.specs.declared.ids.JobId.{JobId}
use Rattle.rt_base.specs.declared.release.PlanRefused.{PlanRefused}
use Rattle.rt_base.specs.declared.release.PlanRefused.TheVariants.{Past, TooSoon, TooFar, CalendarFull, NoSerial, Full}
use Rattle.rt_base.specs.Planning.{last_tick, most_serials, calendar_refusal}
use Rattle.txn_set.specs.Set.{Set, IsCompiled}
use Rattle.step_journal.specs.declared.entry.Entry.{Entry}
use Rattle.step_journal.specs.declared.entry.Entry.TheVariants.{Planned}
use Rattle.step_journal.specs.Step.{plans_of, earliest, next_job}
use Rattle.step_journal.specs.History.{IsLegal, state_of}
use Rattle.board.specs.Answers.{most_planned, unless_refused, at_tick, next_tick_for}
use Rattle.board.specs.Histories.{plan_next_answer}
use Rattle.law_histories.specs.Counting.{plan_count, greatest_period}
use Rattle.law_histories.proofs.Sums.{sum_below, sum_le, sum_member}
use Rattle.law_histories.proofs.Rooms.{count_more}
use Rattle.law_histories.proofs.CountingAll.{time_bounded}
use Rattle.law_histories.specs.Sim.{Workload, plans}
use Rattle.txn_threads.specs.Rounds.{IsCause}
use Rattle.law_runs.proofs.Counts.{count_append, count_plans}
use Rattle.law_runs.specs.Plannable.{total_eager_jobs, ArePlannable}
use Rattle.law_runs.specs.EagerLaws.{HasJobsLeft, NextIsPlanned, NextIsGiven}
use Rattle.law_runs.proofs.Near.{IsNear, plan_more, next_near, run_near}
use Rattle.law_runs.proofs.Plans.{own_sum, count_few}

-- what a plan for the next tick needs
pub record IsOpen (set : Set) (es : List Entry) (tx : ℕ) : Type 0 where
  pub near : next_tick_for set (state_of set es) tx ≤ 2 ^ 40
  pub calendar : length (state_of set es).planned < 65536
  pub serials : (plans_of (state_of set es) tx).number < 2 ^ 32 - 1

next_open : (w : Workload) (eager_jobs : ℕ → ℕ) (history : List Entry) (tx : ℕ) → IsCompiled w.set → ArePlannable w eager_jobs → HasJobsLeft w eager_jobs history tx → IsOpen w.set history tx
next_open w eager_jobs history tx ok few j =
    let r = j.run in
    let rest : List Entry = r.rest in
    let lt : tx < length w.set.txns = j.in_set in
    let left = j.left in
    let h : IsNear w eager_jobs rest = run_near w eager_jobs history ok r in
    let legal : IsLegal w.set (plans w ++ rest) = subst (IsLegal w.set) r.begins r.legal in
    let timed = time_bounded w.set (plans w ++ rest) ok legal in
    let counted : plan_count history tx ≡ plan_count (plans w) tx + plan_count rest tx = ap (λ (l : List Entry). plan_count l tx) r.begins ∙ count_append (plans w) rest tx in
    let mine : plan_count rest tx < eager_jobs tx = omega (arith, left, counted, count_plans w tx) in
    let e : Entry = Planned (record { 0 = tx }) 0 in
    let more = plan_more w eager_jobs rest (record { 0 = tx }) 0 h lt mine (omega arith) in
    let below : sum_below (plan_count (rest ++ e ∷ [])) (length w.set.txns) ≤ sum_below eager_jobs (length w.set.txns) =
    sum_le (plan_count (rest ++ e ∷ [])) eager_jobs (length w.set.txns) (λ n in_set. omega (arith, count_more rest e n, more.jobs n)) in
    let all : sum_below (plan_count rest) (length w.set.txns) + 1 ≤ total_eager_jobs w.set eager_jobs = omega (arith, more.count, below, own_sum eager_jobs (length w.set.txns)) in
    let times : sum_below (plan_count rest) (length w.set.txns) * greatest_period w.set + greatest_period w.set ≤ total_eager_jobs w.set eager_jobs * greatest_period w.set =
    omega (arith, add-mul (sum_below (plan_count rest) (length w.set.txns)) 1 (greatest_period w.set), one-mul (greatest_period w.set), mul-le-mul_right (greatest_period w.set) all) in
    let member = sum_member (plan_count rest) tx (length w.set.txns) lt in
    let open_there : IsOpen w.set (plans w ++ rest) tx = record {
      near = omega (arith, next_near w.set (plans w ++ rest) tx timed lt, h.top, times, few.near);
      calendar = omega (arith, h.waiting, all, few.few);
      serials = omega (arith, timed.plans tx, count_append (plans w) rest tx, count_few (plans w) tx, member, all, few.few);
    } in
    subst (λ (l : List Entry). IsOpen w.set l tx) (sym r.begins) open_there

-- the calendar's tests all pass

fall : {A : Type 0} (b : Bool) (x y : A) → b ≡ false → cond b x y ≡ y
fall true x y e = absurd cc
fall false x y e = refl

none_refused : (b1 b2 b3 b4 b5 : Bool) (e1 e2 e3 e4 e5 : PlanRefused) → b1 ≡ false → b2 ≡ false → b3 ≡ false → b4 ≡ false → b5 ≡ false
    → cond b1 (Some e1) (cond b2 (Some e2) (cond b3 (Some e3) (cond b4 (Some e4) (cond b5 (Some e5) None)))) ≡ None
none_refused b1 b2 b3 b4 b5 e1 e2 e3 e4 e5 h1 h2 h3 h4 h5 =
    fall b1 (Some e1) (cond b2 (Some e2) (cond b3 (Some e3) (cond b4 (Some e4) (cond b5 (Some e5) None)))) h1
    ∙ (fall b2 (Some e2) (cond b3 (Some e3) (cond b4 (Some e4) (cond b5 (Some e5) None))) h2
    ∙ (fall b3 (Some e3) (cond b4 (Some e4) (cond b5 (Some e5) None)) h3
    ∙ (fall b4 (Some e4) (cond b5 (Some e5) None) h4 ∙ fall b5 (Some e5) None h5)))

calendar_open : (tick now earliest waiting places number : ℕ) → now ≤ tick → earliest ≤ tick → tick ≤ last_tick → waiting < places → number < most_serials
    → calendar_refusal tick now earliest waiting places number ≡ None
calendar_open tick now earliest waiting places number a b c d e =
    none_refused (nat_lt tick now) (nat_lt tick earliest) (nat_lt last_tick tick) (nat_le places waiting) (nat_le most_serials number)
    (Past now) (TooSoon earliest) (TooFar last_tick) (CalendarFull places) (NoSerial most_serials)
    (le-ltb tick now a) (le-ltb tick earliest b) (le-ltb last_tick tick c) (lt-leb places waiting d) (lt-leb most_serials number e)

-- so the answer is the job, or that there is no room
open_answer : (set : Set) (es : List Entry) (tx kept room : ℕ) → IsOpen set es tx
    → plan_next_answer set es kept room tx ≡ at_tick (next_tick_for set (state_of set es) tx) (cond (nat_le room kept) (Err (Full room)) (Ok (next_job (state_of set es) tx)))
open_answer set es tx kept room o =
    ap (λ (r : Option PlanRefused). at_tick (next_tick_for set (state_of set es) tx) (unless_refused r (cond (nat_le room kept) (Err (Full room)) (Ok (next_job (state_of set es) tx)))))
    (calendar_open (next_tick_for set (state_of set es) tx) (state_of set es).now (earliest set tx (plans_of (state_of set es) tx)) (length (state_of set es).planned) most_planned (plans_of (state_of set es) tx).number
    (omega arith) (omega arith) o.near o.calendar o.serials)

no_cause_at : (job : JobId) (tick room : ℕ) (e : PlanRefused) (b : Bool) → Err e ≡ at_tick tick (cond b (Err (Full room)) (Ok job)) → IsCause e → ⊥
no_cause_at job tick room e true h cause = let is : e ≡ Full room = cc in subst IsCause is cause
no_cause_at job tick room e false h cause = absurd cc

pub next_planned : NextIsPlanned
next_planned = λ w eager_jobs history tx kept room e ok few j answer cause.
    no_cause_at (next_job (state_of w.set history) tx) (next_tick_for w.set (state_of w.set history) tx) room e (nat_le room kept)
    (answer ∙ open_answer w.set history tx kept room (next_open w eager_jobs history tx ok few j)) cause

pub next_given : NextIsGiven
next_given = λ w eager_jobs history tx kept room ok few j lt.
    open_answer w.set history tx kept room (next_open w eager_jobs history tx ok few j)
    ∙ ap (λ (b : Bool). at_tick (next_tick_for w.set (state_of w.set history) tx) (cond b (Err (Full room)) (Ok (next_job (state_of w.set history) tx)))) (lt-leb room kept (omega (arith, lt)))
