-- The whole run: its plans, its workers, and the entries that are left at the end.
use Rattle.std.proofs.Common.{◌≡◌, ℕ, ◌<◌, ◌^◌, ◌++◌, List, [], ◌∷◌, length, take, All, sym, ap, subst, ◌∙◌, arith, append_assoc, append-nil}
use Rattle.std.proofs.lemmas.List.Sums.{get_or-le-sum_by, sum-map}
use Rattle.std.proofs.Math.Seq.{take-append_seam}
use Rattle.txn_set.specs.Set.{Set}
use Rattle.step_journal.specs.declared.entry.Entry.{Entry}
use Rattle.step_journal.specs.History.{IsLegal}
use Rattle.board.specs.Histories.{IsHistory}
use Rattle.law_histories.specs.Sim.{Body, Workload, plans, plans_from}
use Rattle.sim_run.specs.Workloads.{workload, AreAccepted}
use Rattle.sim_run.specs.Handed.{CanAppend, CanTake, IsHanded, IsCut}
use Rattle.sim_run.proofs.Runs.{begins, nothing_kept}
use Rattle.sim_run.proofs.Handing.{cut_at, take_rest, take_all, handed_then, cut_then}
use Rattle.law_runs.specs.Histories.{IsRunSoFar, IsRunOf}
use Rattle.plant_run.specs.Works.{HasWorked, WasCut, CanGoOn}
use Rattle.plant_run.specs.Runs.{IsWholeRun, IsStoppedRun, IsShortRun}

pub few_ticks : (set : Set) (releases : List (List ℕ)) → AreAccepted set releases → All (λ (ticks : List ℕ). length ticks < 2 ^ 32) releases
few_ticks set releases a i d lt =
    let top : 65536 < 2 ^ 32 = omega arith in
    let one = get_or-le-sum_by (λ (ticks : List ℕ). length ticks) releases i d lt in
    let all = sum-map (λ (ticks : List ℕ). length ticks) releases in
    omega (arith, top, one, all, a.few)

-- what comes after the plans too
handed_rest : (got got' : List Entry → Type 0) (entries left rest : List Entry) → IsHanded got got' entries left → IsHanded got got' (entries ++ rest) (left ++ rest)
handed_rest got got' entries left rest h = record {
  passed = h.passed;
  parts = ap (λ (l : List Entry). l ++ rest) h.parts ∙ append_assoc h.passed left rest;
  grown = h.grown;
}

-- what a new board handed on of the plans
pub plans_handed : (set : Set) (room first : ℕ) (before plans kept : List Entry) (got got' : List Entry → Type 0) → IsHistory set room first before [] → IsHanded got got' (before ++ plans) kept → IsHanded got got' plans kept
plans_handed set room first before plans kept got got' is h = subst (λ (l : List Entry). IsHanded got got' (l ++ plans) kept) (nothing_kept set room first before is) h

-- the plans of all releases alone are a run so far

no_entry : {X : Type 0} (more after : List X) (e : X) → [] ≡ more ++ e ∷ after → ⊥
no_entry [] after e is = cc
no_entry (x ∷ more) after e is = cc

pub plans_so_far : (w : Workload) (eager_jobs : ℕ → ℕ) → IsLegal w.set (plans w) → IsRunSoFar w eager_jobs (plans w)
plans_so_far w eager_jobs legal = record {
  legal = legal;
  script_run = (begins w).script_run;
  rest = [];
  begins = sym (append-nil (plans w));
  later = λ more after e is. absurd (no_entry more after e is);
}

-- where a growth was refused

pub cut_before : (w : Workload) (eager_jobs : ℕ → ℕ) (got lost : List Entry → Type 0) → IsLegal w.set (plans w) → lost [] → IsShortRun w eager_jobs got got lost
cut_before w eager_jobs got lost legal none =
    record { history = plans w; so_far = plans_so_far w eager_jobs legal; passed = 0; grown = λ had g. subst got (sym (append-nil had)) g; none_lost = none }

pub cut_short : (w : Workload) (eager_jobs : ℕ → ℕ) (got got' lost' : List Entry → Type 0) (kept : List Entry) → IsLegal w.set (plans w)
    → IsHanded got got' (plans w) kept → lost' [] → IsShortRun w eager_jobs got got' lost'
cut_short w eager_jobs got got' lost' kept legal h none =
    let front : take (length h.passed) (plans w) ≡ h.passed = ap (take (length h.passed)) h.parts ∙ take-append_seam h.passed kept in
    record {
      history = plans w;
      so_far = plans_so_far w eager_jobs legal;
      passed = length h.passed;
      grown = λ had g. subst (λ (l : List Entry). got' (had ++ l)) (sym front) (h.grown had g);
      none_lost = none;
    }

-- where the out stopped
pub cut_run : (w : Workload) (eager_jobs : ℕ → ℕ) (got got' lost' : List Entry → Type 0) (history : List Entry) → IsRunSoFar w eager_jobs history → IsCut got got' lost' history → IsStoppedRun w eager_jobs got got' lost'
cut_run w eager_jobs got got' lost' history so_far k =
    let c = cut_at history k in record { history = history; so_far = so_far; passed = c.passed; missed = c.missed; grown = c.grown; is_lost = c.is_lost }

-- where all was handed on
whole_run : (w : Workload) (eager_jobs : ℕ → ℕ) (stands got got' : List Entry → Type 0) (history : List Entry) → IsRunOf w eager_jobs history → stands history → IsHanded got got' history [] → IsWholeRun w eager_jobs stands got got'
whole_run w eager_jobs stands got got' history run stood h = record {
  history = history;
  run = run;
  stood = stood;
  grown = λ s g. subst (λ (l : List Entry). got' (s ++ l)) (sym (h.parts ∙ append-nil h.passed)) (h.grown s g);
}

module _ (set set' : Set) (bodies : List Body) (releases : List (List ℕ)) (eager_jobs : ℕ → ℕ) (es : set' ≡ set) where
  -- what the out can take after the plans
  pub can_go_on : (got good got' good' : List Entry → Type 0) (kept : List Entry) → ((history : List Entry) → IsLegal set history → CanTake got good history)
      → ((s : List Entry) → good s → good' s) → IsHanded got got' (plans_from 0 releases) kept → CanGoOn (workload set' bodies releases) got' good' kept
  can_go_on got good got' good' kept can same h = λ rest legal.
      take_rest got good got' good' (plans_from 0 releases ++ rest) (kept ++ rest) same (handed_rest got got' (plans_from 0 releases) kept rest h)
      (can (plans_from 0 releases ++ rest) (subst (λ (q : Set). IsLegal q (plans_from 0 releases ++ rest)) es legal))

  -- where the out stopped while the workers ran
  pub stopped_at_work : (got got' got'' lost'' : List Entry → Type 0) (kept : List Entry)
      → IsHanded got got' (plans_from 0 releases) kept → WasCut (workload set' bodies releases) eager_jobs got' got'' lost'' kept → IsStoppedRun (workload set bodies releases) eager_jobs got got'' lost''
  stopped_at_work got got' got'' lost'' kept h c =
      let history : List Entry = plans_from 0 releases ++ c.rest in
      cut_run (workload set bodies releases) eager_jobs got got'' lost'' history (subst (λ (q : Set). IsRunSoFar (workload q bodies releases) eager_jobs history) es c.so_far)
      (cut_then got got' got'' lost'' history (kept ++ c.rest) (handed_rest got got' (plans_from 0 releases) kept c.rest h) c.cut)

  -- after the workers
  handed_all : (stands got got' got'' : List Entry → Type 0) (kept left : List Entry) → IsHanded got got' (plans_from 0 releases) kept
      → (a : HasWorked (workload set' bodies releases) eager_jobs stands got' got'' kept left) → IsHanded got got'' (plans_from 0 releases ++ a.rest) left
  handed_all stands got got' got'' kept left h a = handed_then got got' got'' (plans_from 0 releases ++ a.rest) (kept ++ a.rest) left (handed_rest got got' (plans_from 0 releases) kept a.rest h) a.handed

  pub can_append_left : (stands got good got' got'' good'' : List Entry → Type 0) (kept left : List Entry) → ((history : List Entry) → IsLegal set history → CanTake got good history)
      → ((s : List Entry) → good s → good'' s) → IsHanded got got' (plans_from 0 releases) kept → HasWorked (workload set' bodies releases) eager_jobs stands got' got'' kept left → CanAppend got'' good'' left
  can_append_left stands got good got' got'' good'' kept left can same h a =
      let history : List Entry = plans_from 0 releases ++ a.rest in
      take_all got'' good'' left (take_rest got good got'' good'' history left same (handed_all stands got got' got'' kept left h a) (can history (subst (λ (q : Set). IsLegal q history) es a.run.so_far.legal)))

  pub stopped_at_end : (stands got got' got'' got''' lost''' : List Entry → Type 0) (kept left : List Entry)
      → IsHanded got got' (plans_from 0 releases) kept → HasWorked (workload set' bodies releases) eager_jobs stands got' got'' kept left → IsCut got'' got''' lost''' left
      → IsStoppedRun (workload set bodies releases) eager_jobs got got''' lost'''
  stopped_at_end stands got got' got'' got''' lost''' kept left h a c =
      let history : List Entry = plans_from 0 releases ++ a.rest in
      cut_run (workload set bodies releases) eager_jobs got got''' lost''' history (subst (λ (q : Set). IsRunSoFar (workload q bodies releases) eager_jobs history) es a.run.so_far)
      (cut_then got got'' got''' lost''' history left (handed_all stands got got' got'' kept left h a) c)

  pub ended_whole : (stands stands' got got' got'' got''' : List Entry → Type 0) (kept left : List Entry) → ((history : List Entry) → stands history → stands' history)
      → IsHanded got got' (plans_from 0 releases) kept → HasWorked (workload set' bodies releases) eager_jobs stands got' got'' kept left → IsHanded got'' got''' left []
      → IsWholeRun (workload set bodies releases) eager_jobs stands' got got'''
  ended_whole stands stands' got got' got'' got''' kept left same h a last =
      let history : List Entry = plans_from 0 releases ++ a.rest in
      whole_run (workload set bodies releases) eager_jobs stands' got got''' history (subst (λ (q : Set). IsRunOf (workload q bodies releases) eager_jobs history) es a.run) (same history a.stood)
      (handed_then got got'' got''' history left [] (handed_all stands got got' got'' kept left h a) last)
