-- Along a closed plant's history: which of a seat's entries came before a place, what they told its jobs, and how many
-- plans they are.
use Rattle.std.proofs.Common.{◌≡◌, ℕ, ◌+◌, ◌<◌, ◌≤◌, Bool, cond, List, [], ◌∷◌, ◌++◌, length, None, Some, refl, ap, sym, ◌∙◌, subst, inl, inr, arith, append_assoc, append-nil, length-append}
use mathlib.Core.Option.{some, some-injective}
use lib.ListN.{get_elem?}
use Rattle.std.proofs.lemmas.Bool.{cases_eq, eq-eqb}
use Rattle.std.specs.List.{cons_option}
use Rattle.rt_base.specs.declared.ids.TxId.{TxId}
use Rattle.rt_base.specs.declared.ids.JobId.{JobId}
use Rattle.rt_base.specs.declared.operation.Op.{Op}
use Rattle.rt_base.specs.declared.operation.Outcome.{Outcome}
use Rattle.txn_set.specs.Set.{Set}
use Rattle.step_journal.specs.declared.entry.Entry.{Entry}
use Rattle.step_journal.specs.declared.entry.Entry.TheVariants.{Planned}
use Rattle.step_journal.specs.Serial.{outcome_in, outcomes_of}
use Rattle.law_histories.specs.Counting.{plans_in, plan_count}
use Rattle.law_histories.proofs.Rooms.{count_more}
use Rattle.law_histories.proofs.Alone.{outcomes_more_in}
use Rattle.turn_cell.specs.Turn.{times}
use Rattle.turn_cell.proofs.Sums.{times-append}
use Rattle.turn_cell.proofs.Lists.{at_after}
use Rattle.shared_plant.specs.Seats.{SeatFacts}
use Rattle.txn_threads.specs.Scripts.{own_outcomes, IsAsked, AreAsked}
use Rattle.txn_threads.specs.Plans.{plan_number, IsPlanned, ArePlanned}
use Rattle.txn_threads.specs.Plans.{plans_in as own_plans}
use Rattle.txn_threads.proofs.Scripting.{outcomes_snoc}
use Rattle.txn_threads.proofs.Planning.{plans_append}
use Rattle.txn_threads.specs.Rising.{AreRising}
use Rattle.law_histories.specs.Sim.{Workload, plans}
use Rattle.sim_run.specs.Calls.{job_of}
use Rattle.sim_run.proofs.Runs.{follows_first}
use Rattle.law_runs.proofs.Places.{at_middle, bit_other, rise_up, rise_first, rise_next}
use Rattle.law_runs.proofs.Owners.{IsForeign, Lies, foreign_at}

-- the entry of a list with what is before it

pub asked_at : (gives : ℕ → List Outcome → Op) (tx : TxId) (before xs : List (ℕ × Entry)) (p : ℕ × Entry) (ys : List (ℕ × Entry)) → AreAsked gives tx before (xs ++ p ∷ ys)
    → IsAsked gives tx (before ++ xs) p.1
asked_at gives tx before [] p ys h = subst (λ (l : List (ℕ × Entry)). IsAsked gives tx l p.1) (sym (append-nil before)) h.0
asked_at gives tx before (x ∷ xs) p ys h =
    subst (λ (l : List (ℕ × Entry)). IsAsked gives tx l p.1) (append_assoc before (x ∷ []) xs) (asked_at gives tx (before ++ x ∷ []) xs p ys h.1)

pub planned_at : (set : Set) (seen : List Entry) (tx : TxId) (eager : Bool) (jobs n : ℕ) (xs : List (ℕ × Entry)) (p : ℕ × Entry) (ys : List (ℕ × Entry)) → ArePlanned set seen tx eager jobs n (xs ++ p ∷ ys)
    → IsPlanned set seen tx eager jobs (n + own_plans xs) p.0 p.1
planned_at set seen tx eager jobs n [] p ys h =
    let same : n ≡ n + 0 = omega arith in subst (λ (k : ℕ). IsPlanned set seen tx eager jobs k p.0 p.1) same h.0
planned_at set seen tx eager jobs n (x ∷ xs) p ys h =
    let same : n + plan_number x.1 + own_plans xs ≡ n + (plan_number x.1 + own_plans xs) = omega arith in
    subst (λ (k : ℕ). IsPlanned set seen tx eager jobs k p.0 p.1) same (planned_at set seen tx eager jobs (n + plan_number x.1) xs p ys h.1)

-- a plan of one's own is counted once
own_plan : (set : Set) (seen : List Entry) (tx : TxId) (eager : Bool) (jobs n place : ℕ) (e : Entry) → IsPlanned set seen tx eager jobs n place e → plans_in tx.0 e ≡ plan_number e
own_plan set seen tx eager jobs n place (Planned by tick) h = ap {B = ℕ} (λ (b : Bool). cond b 1 0) (eq-eqb tx.0 by.0 (sym (ap (λ (t : TxId). t.0) h.own)))
own_plan set seen tx eager jobs n place other h = refl

-- no job took a step in the plans
no_outcomes : (w : Workload) (job : JobId) → outcomes_of (plans w) job ≡ []
no_outcomes w job =
    let none = follows_first (λ serial outcomes. outcomes ≡ []) w.set w.releases job.tx.0 0 refl refl in
    elim (cases_eq job.serial 0) [
      | inl e ↦ subst (λ (n : ℕ). outcomes_of (plans w) (job_of job.tx.0 n) ≡ []) (sym e) none.told
      | inr ne ↦ none.later job.serial (omega (arith, ne))
    ]

-- the seat's entries before a place, and those from it on
pub record Reached (w : Workload) (s : SeatFacts) (tx : TxId) (end : ℕ) (before : List Entry) : Type 0 where
  pub past : List (ℕ × Entry)
  pub left : List (ℕ × Entry)
  pub parts : s.mine ≡ past ++ left
  pub rises : AreRising (length before) end left
  pub low : (n : ℕ) → length before ≤ n → times n past ≡ 0
  pub told : (job : JobId) → job.tx ≡ tx → outcomes_of before job ≡ own_outcomes past job
  pub planned : plan_count before tx.0 ≡ plan_count (plans w) tx.0 + own_plans past

module _ (w : Workload) (eager_jobs : ℕ → ℕ) (seats : List SeatFacts) (history : List Entry) (f : Lies w eager_jobs seats history) (k : ℕ) (s : SeatFacts) (tx : TxId) (at : get_elem? seats k ≡ some s) (is : s.tx ≡ Some tx) where
  -- beyond an entry of another seat
  past_foreign : (before : List Entry) (e : Entry) (r : Reached w s tx (length history) before) → IsForeign tx e → AreRising (length before + 1) (length history) r.left
      → Reached w s tx (length history) (before ++ e ∷ [])
  past_foreign before e r h rises = record {
    past = r.past;
    left = r.left;
    parts = r.parts;
    rises = subst (λ (n : ℕ). AreRising n (length history) r.left) (sym (length-append before (e ∷ []))) rises;
    low = λ n le. r.low n (omega (arith, le, length-append before (e ∷ [])));
    told = λ job own_job. outcomes_more_in before e job None (h.outcome job own_job) ∙ (append-nil (outcomes_of before job) ∙ r.told job own_job);
    planned = omega (arith, count_more before e tx.0, h.plan, r.planned);
  }

  -- beyond an entry of its own
  past_own : (before : List Entry) (e : Entry) (r : Reached w s tx (length history) before) (others : List (ℕ × Entry)) → r.left ≡ (length before, e) ∷ others
      → Reached w s tx (length history) (before ++ e ∷ [])
  past_own before e r others first =
      let p : ℕ × Entry = (length before, e) in
      let parts : s.mine ≡ r.past ++ p ∷ others = r.parts ∙ ap (λ (l : List (ℕ × Entry)). r.past ++ l) first in
      let plan = (f.each k s at).0.planned tx is in
      let counted : plans_in tx.0 e ≡ plan_number e = own_plan w.set s.seen tx plan.eager plan.jobs (0 + own_plans r.past) (length before) e
      (planned_at w.set s.seen tx plan.eager plan.jobs 0 r.past p others (subst (ArePlanned w.set s.seen tx plan.eager plan.jobs 0) parts plan.plans)) in
      let rises : AreRising (length before) (length history) (p ∷ others) = subst (λ (l : List (ℕ × Entry)). AreRising (length before) (length history) l) first r.rises in
      record {
        past = r.past ++ p ∷ [];
        left = others;
        parts = parts ∙ sym (append_assoc r.past (p ∷ []) others);
        rises = subst (λ (n : ℕ). AreRising n (length history) others) (sym (length-append before (e ∷ []))) rises.1;
        low = λ n le. omega (arith, times-append n r.past (p ∷ []), r.low n (omega (arith, le, length-append before (e ∷ []))), bit_other n (length before) (λ q. omega (arith, q, le, length-append before (e ∷ []))));
        told = λ job own_job.
            outcomes_more_in before e job (outcome_in job e) refl
            ∙ (ap (λ (l : List Outcome). l ++ cons_option (outcome_in job e) []) (r.told job own_job)
            ∙ sym (outcomes_snoc r.past p job (outcome_in job e) refl));
        planned = omega (arith, count_more before e tx.0, counted, r.planned, plans_append r.past (p ∷ []));
      }

  -- where the seat has the entry at a place, it is the first of those from the place on
  pub own_first : (before after : List Entry) (e : Entry) → history ≡ before ++ e ∷ after → (r : Reached w s tx (length history) before) → 0 < times (length before) r.left
      → (others : List (ℕ × Entry)) × (r.left ≡ (length before, e) ∷ others)
  own_first before after e parts r lt =
      let i = rise_first r.left (length before) (length history) r.rises lt in
      let there = at_after r.past r.left 0 (length before, i.entry) (ap (λ (l : List (ℕ × Entry)). get_elem? l 0) i.is) in
      let mine : get_elem? s.mine there.0 ≡ some (length before, i.entry) = ap (λ (l : List (ℕ × Entry)). get_elem? l there.0) r.parts ∙ there.1 in
      let stands : get_elem? history (length before) ≡ some i.entry = (f.each k s at).2 there.0 (length before, i.entry) mine in
      let same : i.entry ≡ e = some-injective i.entry e (sym stands ∙ (ap (λ (l : List Entry). get_elem? l (length before)) parts ∙ at_middle before e after)) in
      (i.others, i.is ∙ ap (λ (x : Entry). (length before, x) ∷ i.others) same)

  -- one entry further
  further : (before after : List Entry) (e : Entry) → history ≡ before ++ e ∷ after → length (plans w) ≤ length before → Reached w s tx (length history) before → Reached w s tx (length history) (before ++ e ∷ [])
  further before after e parts from r = elim (cases_eq (times (length before) r.left) 0) [
    | inl none ↦ (let zero_here : times (length before) s.mine ≡ 0 = omega (arith, ap (times (length before)) r.parts, times-append (length before) r.past r.left, r.low (length before) (omega arith), none) in
        past_foreign before e r (foreign_at w eager_jobs seats history f k s tx before after e at is parts from zero_here) (rise_next r.left (length before) (length history) r.rises none (omega (arith, ap (λ (l : List Entry). length l) parts, length-append before (e ∷ after)))))
    | inr ne ↦ (let i = own_first before after e parts r (omega (arith, ne)) in past_own before e r i.0 i.1)
  ]

  walk_from : (before more after : List Entry) → history ≡ before ++ more ++ after → length (plans w) ≤ length before → Reached w s tx (length history) before
      → Reached w s tx (length history) (before ++ more)
  walk_from before [] after parts from r = subst (Reached w s tx (length history)) (sym (append-nil before)) r
  walk_from before (e ∷ more) after parts from r =
      let next = further before (more ++ after) e (parts ∙ append_assoc before (e ∷ more) after) from r in
      let rest = walk_from (before ++ e ∷ []) more after (parts ∙ ap (λ (l : List Entry). l ++ after) (sym (append_assoc before (e ∷ []) more))) (omega (arith, from, length-append before (e ∷ []))) next in
      subst (Reached w s tx (length history)) (append_assoc before (e ∷ []) more) rest

  first : Reached w s tx (length history) (plans w)
  first =
      let run = (f.each k s at).0 in
      let seen = (f.each k s at).1 in
      record {
        past = [];
        left = s.mine;
        parts = refl;
        rises = rise_up s.mine (length (plans w)) (length s.seen) (length history) run.rising (omega (arith, ap (λ (l : List Entry). length l) seen.1, length-append s.seen seen.0));
        low = λ n le. refl;
        told = λ job own_job. no_outcomes w job;
        planned = omega arith;
      }

  -- at any place from the plans on
  pub walk : (more after : List Entry) → history ≡ plans w ++ more ++ after → Reached w s tx (length history) (plans w ++ more)
  walk more after parts = walk_from (plans w) more after parts (omega arith) first
