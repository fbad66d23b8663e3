-- A run under way: how it begins, goes on by a call, fits into the room, and ends.
use Rattle.std.proofs.Common.{◌≡◌, ◌≢◌, ◌⊎◌, ℕ, zero, suc, ◌+◌, ◌<◌, ◌≤◌, Bool, true, false, cond, List, [], ◌∷◌, ◌++◌, length, map, Option, None, Some, get_or, refl, ap, sym, ◌∙◌, subst, inl, inr, arith, append_assoc}
use Rattle.std.proofs.lemmas.List.{append-nil}
use Rattle.std.proofs.lemmas.Bool.{eq-eqb, ne_eqb}
use Rattle.std.specs.Option.{option_map}
use Rattle.rt_base.specs.declared.ids.TxId.{TxId}
use Rattle.rt_base.specs.declared.ids.JobId.{JobId}
use Rattle.rt_base.specs.declared.operation.Op.{Op}
use Rattle.rt_base.specs.declared.operation.Outcome.{Outcome}
use Rattle.rt_base.specs.declared.release.Release.{Release}
use Rattle.txn_set.specs.Set.{Set, IsCompiled}
use Rattle.step_journal.specs.declared.entry.Entry.{Entry}
use Rattle.step_journal.specs.declared.entry.Entry.TheVariants.{Planned, Step, Blocked, Idle}
use Rattle.step_journal.specs.State.{State, Row, pending}
use Rattle.step_journal.specs.Running.{running}
use Rattle.step_journal.specs.Instant.{arrived}
use Rattle.step_journal.specs.Step.{Event, plan, ask, idle, may_ask, next_tick, idled, step}
use Rattle.step_journal.specs.History.{event_of, entry_given, IsLegalEntry, IsLegal, state_of}
use Rattle.step_journal.specs.Serial.{outcomes_of}
use Rattle.board.specs.Histories.{IsHistory}
use Rattle.law_histories.specs.Counting.{plans_in, plan_count, room_of_jobs}
use Rattle.law_histories.proofs.CountingAll.{entries_few}
use Rattle.law_histories.proofs.Never.{never_stuck}
use Rattle.law_histories.specs.Sim.{Body, Workload, IsAsked, IsScriptRun, IsFixed, IsSim, plans, plans_from, next_event, event_for, event_in, op_asked}
use Rattle.sim_run.specs.Workloads.{ticks_of, workload, ObeysAt}
use Rattle.sim_run.specs.Calls.{IsFollowing, IsUnderWay, IsCalled, job_of}
use Rattle.sim_run.proofs.Asks.{job_of_same, asked_entry, asked_legal}
use Rattle.sim_run.proofs.Behind.{behind_zero}

-- plans alone

abbrev IsPlan : Entry → Type 0
IsPlan (Planned tx tick) = Unit {0}
IsPlan other = ⊥

abbrev ArePlans : List Entry → Type 0
ArePlans [] = Unit {0}
ArePlans (e ∷ es) = IsPlan e × ArePlans es

plans_append : (tx : TxId) (ticks : List ℕ) (es : List Entry) → ArePlans es → ArePlans (map (Planned tx) ticks ++ es)
plans_append tx [] es h = h
plans_append tx (tick ∷ ticks) es h = (tt, plans_append tx ticks es h)

all_plans : (tx : ℕ) (releases : List (List ℕ)) → ArePlans (plans_from tx releases)
all_plans tx [] = tt
all_plans tx (ticks ∷ rest) = plans_append (record { 0 = tx }) ticks (plans_from (tx + 1) rest) (all_plans (tx + 1) rest)

plan_asked : (w : Workload) (before : List Entry) (e : Entry) → IsPlan e → IsAsked w before e
plan_asked w before (Planned tx tick) h = tt
plan_asked w before other h = absurd h

no_split : (before : List Entry) (e : Entry) (after : List Entry) → [] ≡ before ++ e ∷ after → ⊥
no_split [] e after h = cc
no_split before e after h = cc

plan_at : (es before : List Entry) (e : Entry) (after : List Entry) → es ≡ before ++ e ∷ after → ArePlans es → IsPlan e
plan_at (x ∷ xs) [] e after h all = let same : x ≡ e = cc in subst IsPlan same all.0
plan_at (x ∷ xs) (b ∷ bs) e after h all = let rest : xs ≡ bs ++ e ∷ after = cc in plan_at xs bs e after rest all.1
plan_at [] before e after h all = absurd (no_split before e after h)

plans_run : (w : Workload) → IsScriptRun w (plans w)
plans_run w = λ before after e h. plan_asked w before e (plan_at (plans w) before e after h (all_plans 0 w.releases))

no_outcomes : (es : List Entry) (job : JobId) → ArePlans es → outcomes_of es job ≡ []
no_outcomes [] job h = refl
no_outcomes (Planned tx tick ∷ es) job h = no_outcomes es job h.1
no_outcomes (other ∷ es) job h = absurd h.0

-- how a run begins

pub nothing_kept : (set : Set) (room first : ℕ) (kept : List Entry) → IsHistory set room first kept [] → kept ≡ []
nothing_kept set room first [] is = refl
nothing_kept set room first (e ∷ es) is = absurd (let c : first + length (e ∷ es) ≡ 0 = is.counted in omega arith)

pub begins : (w : Workload) → IsUnderWay w (plans w)
begins w = record { script_run = plans_run w; rest = []; begins = sym (append-nil (plans w)); fixed = tt }

pub follows_first : (stands : ℕ → List Outcome → Type 0) (set : Set) (releases : List (List ℕ)) (tx serial : ℕ)
    → serial ≡ 0 → stands 0 []
    → IsFollowing stands set (plans_from 0 releases) tx serial
follows_first stands set releases tx serial first begun =
    let out : (k : ℕ) → outcomes_of (plans_from 0 releases) (job_of tx k) ≡ [] = λ k. no_outcomes (plans_from 0 releases) (job_of tx k) (all_plans 0 releases) in
    subst (IsFollowing stands set (plans_from 0 releases) tx) (sym first) (record {
      told = subst (stands 0) (sym (out 0)) begun;
      later = λ k lt. out k;
      reached = behind_zero (state_of set (plans_from 0 releases)) tx;
    })

-- how a run goes on

split_last : (history : List Entry) (e : Entry) (before : List Entry) (x : Entry) (after : List Entry)
    → history ++ e ∷ [] ≡ before ++ x ∷ after
    → ((history ≡ before) × (e ≡ x)) ⊎ ((rest : List Entry) × (history ≡ before ++ x ∷ rest))
split_last [] e [] x after h = inl (refl, cc)
split_last [] e (b ∷ []) x after h = absurd cc
split_last [] e (b ∷ c ∷ bs) x after h = absurd cc
split_last (s ∷ ss) e [] x after h = let same : s ≡ x = cc in inr (ss, ap (λ (y : Entry). y ∷ ss) same)
split_last (s ∷ ss) e (b ∷ bs) x after h =
    let head : s ≡ b = cc in
    let tail : ss ++ e ∷ [] ≡ bs ++ x ∷ after = cc in
    elim (split_last ss e bs x after tail) [
      | inl last ↦ inl (ap (λ (y : Entry). y ∷ ss) head ∙ ap (λ (l : List Entry). b ∷ l) last.0, last.1)
      | inr more ↦ inr (more.0, ap (λ (y : Entry). y ∷ ss) head ∙ ap (λ (l : List Entry). b ∷ l) more.1)
    ]

script_more : (w : Workload) (history : List Entry) (e : Entry) → IsScriptRun w history → IsAsked w history e
    → IsScriptRun w (history ++ e ∷ [])
script_more w history e run asked = λ before after x h. elim (split_last history e before x after h) [
  | inl last ↦ subst (IsAsked w before) last.1 (subst (λ (l : List Entry). IsAsked w l e) last.0 asked)
  | inr more ↦ run before more.0 x more.1
]

fixed_more : (w : Workload) (before rest : List Entry) (e : Entry) → IsFixed w before rest
    → next_event w (before ++ rest) ≡ Some (event_of e) → IsFixed w before (rest ++ e ∷ [])
fixed_more w before [] e h next = (ap (next_event w) (sym (append-nil before)) ∙ next, tt)
fixed_more w before (x ∷ rest) e h next = (h.0, fixed_more w (before ++ x ∷ []) rest e h.1 (ap (next_event w) (append_assoc before (x ∷ []) rest) ∙ next))

asked_at : (w : Workload) (history : List Entry) (s : State) (o : Option Row) (job : JobId) (op : Op)
    → event_for w history s o ≡ Some (ask job op) → op ≡ op_asked w history job
asked_at w history s (Some row) job op h = let same : row.job ≡ job = cc in let is : op_asked w history row.job ≡ op = cc in sym is ∙ ap (op_asked w history) same
asked_at w history s None job op h = none_asked s.planned h where
  none_asked : (planned : List Release) → event_in planned ≡ Some (ask job op) → op ≡ op_asked w history job
  none_asked [] h = absurd cc
  none_asked (r ∷ rs) h = absurd cc

entry_asked : (w : Workload) (history : List Entry) (e : Entry) → next_event w history ≡ Some (event_of e)
    → IsAsked w history e
entry_asked w history (Step job op outcome over tick) h = asked_at w history (state_of w.set history) (running w.set (state_of w.set history).rows) job op h
entry_asked w history (Blocked job op by ceiling tick) h = asked_at w history (state_of w.set history) (running w.set (state_of w.set history).rows) job op h
entry_asked w history other h = tt

pub goes_on : (w : Workload) (history after : List Entry) (e : Entry) → IsUnderWay w history
    → next_event w history ≡ Some (event_of e) → after ≡ history ++ e ∷ [] → IsUnderWay w after
goes_on w history after e u next is = record {
  script_run = subst (IsScriptRun w) (sym is) (script_more w history e u.script_run (entry_asked w history e next));
  rest = u.rest ++ e ∷ [];
  begins = is ∙ (ap (λ (l : List Entry). l ++ e ∷ []) u.begins ∙ append_assoc (plans w) u.rest (e ∷ []));
  fixed = fixed_more w (plans w) u.rest e u.fixed (ap (next_event w) (sym u.begins) ∙ next);
}

-- a call of a workload with other releases is one of this
pub goes_by : (w : Workload) (set : Set) (bodies bodies' : List Body) (releases : List (List ℕ))
    (history after : List Entry) (result : Bool) → w ≡ workload set bodies releases → bodies' ≡ bodies → result ≡ true
    → (set' : Set) → set' ≡ set → IsCalled (workload set' bodies' []) history result after → IsUnderWay w history
    → IsUnderWay w after
goes_by w set bodies bodies' releases history after result is same went set' sets called u =
    let t : IsCalled (workload set bodies []) history true after = subst (λ (b : Bool). IsCalled (workload set bodies []) history b after) went
    (subst (λ (l : List Body). IsCalled (workload set l []) history result after) same (subst (λ (q : Set). IsCalled (workload q bodies' []) history result after) sets called)) in
    let next : next_event (workload set bodies releases) history ≡ Some (event_of t.2.0) = t.1 ∙ ap Some (sym t.2.1) in
    goes_on w history after t.2.0 u (ap (λ (v : Workload). next_event v history) is ∙ next) t.2.2

-- the room

pub count_append : (xs ys : List Entry) (n : ℕ) → plan_count (xs ++ ys) n ≡ plan_count xs n + plan_count ys n
count_append [] ys n = omega arith
count_append (x ∷ xs) ys n = omega (arith, count_append xs ys n)

count_here : (tx : ℕ) (ticks : List ℕ) → plan_count (map (Planned (record { 0 = tx })) ticks) tx ≡ length ticks
count_here tx [] = refl
count_here tx (tick ∷ ticks) = omega (arith, ap {B = ℕ} (λ (b : Bool). cond b 1 0) (eq-eqb tx tx refl), count_here tx ticks)

count_there : (tx n : ℕ) (ticks : List ℕ) → n ≢ tx → plan_count (map (Planned (record { 0 = tx })) ticks) n ≡ 0
count_there tx n [] ne = refl
count_there tx n (tick ∷ ticks) ne = omega (arith, ap {B = ℕ} (λ (b : Bool). cond b 1 0) (ne_eqb n tx ne), count_there tx n ticks ne)

count_before : (tx n : ℕ) (releases : List (List ℕ)) → n < tx → plan_count (plans_from tx releases) n ≡ 0
count_before tx n [] lt = refl
count_before tx n (ticks ∷ rest) lt =
    omega (arith, count_append (map (Planned (record { 0 = tx })) ticks) (plans_from (tx + 1) rest) n, count_there tx n ticks (λ e. omega (arith, e, lt)), count_before (tx + 1) n rest (omega (arith, lt)))

count_from : (tx n k : ℕ) (releases : List (List ℕ)) → n ≡ tx + k
    → plan_count (plans_from tx releases) n ≡ length (get_or releases k [])
count_from tx n k [] e = refl
count_from tx n zero (ticks ∷ rest) e =
    let same : n ≡ tx = omega (arith, e) in
    let here : plan_count (map (Planned (record { 0 = tx })) ticks) n ≡ length ticks = ap (plan_count (map (Planned (record { 0 = tx })) ticks)) same ∙ count_here tx ticks in
    omega (arith, count_append (map (Planned (record { 0 = tx })) ticks) (plans_from (tx + 1) rest) n, here, count_before (tx + 1) n rest (omega (arith, same)))
count_from tx n (suc k) (ticks ∷ rest) e =
    omega (arith, count_append (map (Planned (record { 0 = tx })) ticks) (plans_from (tx + 1) rest) n, count_there tx n ticks (λ same. omega (arith, e, same)), count_from (tx + 1) n k rest (omega (arith, e)))

pub count_plans : (w : Workload) (n : ℕ) → plan_count (plans w) n ≡ length (ticks_of w.releases n)
count_plans w n = count_from 0 n n w.releases (omega arith)

-- an entry of a fixed event is no plan
no_plan_at : (w : Workload) (history : List Entry) (s : State) (o : Option Row) (tx tick : ℕ)
    → event_for w history s o ≡ Some (plan tx tick) → ⊥
no_plan_at w history s (Some row) tx tick h = cc
no_plan_at w history s None tx tick h = none_planned s.planned h where
  none_planned : (planned : List Release) → event_in planned ≡ Some (plan tx tick) → ⊥
  none_planned [] h = cc
  none_planned (r ∷ rs) h = cc

no_plan : (w : Workload) (history : List Entry) (e : Entry) (n : ℕ) → next_event w history ≡ Some (event_of e)
    → plans_in n e ≡ 0
no_plan w history (Planned tx tick) n h = absurd (no_plan_at w history (state_of w.set history) (running w.set (state_of w.set history).rows) tx.0 tick h)
no_plan w history other n h = refl

pub count_fixed : (w : Workload) (before rest : List Entry) (n : ℕ) → IsFixed w before rest → plan_count rest n ≡ 0
count_fixed w before [] n h = refl
count_fixed w before (e ∷ rest) n h = omega (arith, no_plan w before e n h.0, count_fixed w (before ++ e ∷ []) rest n h.1)

way_count : (w : Workload) (history : List Entry) (n : ℕ) → IsUnderWay w history
    → plan_count history n ≡ length (ticks_of w.releases n)
way_count w history n u =
    ap (λ (l : List Entry). plan_count l n) u.begins
    ∙ omega (arith, count_append (plans w) u.rest n, count_fixed w (plans w) u.rest n u.fixed, count_plans w n)

pub way_fits : (w : Workload) (history : List Entry) → IsCompiled w.set → IsLegal w.set history → IsUnderWay w history
    → length history ≤ room_of_jobs w.set.txns (λ n. length (ticks_of w.releases n))
way_fits w history ok legal u = (entries_few w.set history ok legal).jobs (λ n. length (ticks_of w.releases n)) (λ n lt. omega (arith, way_count w history n u))

-- the event that the state fixes has an entry

pub record HasEntry (set : Set) (history : List Entry) (event : Event) : Type 0 where
  pub entry : Entry
  pub is : event_of entry ≡ event
  pub legal : IsLegalEntry set (state_of set history) entry

idle_some : (set : Set) (history : List Entry) (planned : List Release) (o : Option ℕ)
    → pending (state_of set history).rows ≡ [] → (state_of set history).planned ≡ planned → next_tick planned ≡ o → o ≢ None
    → HasEntry set history idle
unfolding step
idle_some set history planned None none is e ne = absurd (ne refl)
idle_some set history planned (Some t) none is e ne = record {
  entry = Idle (state_of set history).now t;
  is = refl;
  legal = ap (λ (rows : List Row). entry_given (idled set (state_of set history) rows)) none
      ∙ ap (λ (o : Option ℕ). entry_given (option_map (λ u. (Idle (state_of set history).now u, arrived set u (state_of set history))) o)) (ap next_tick is ∙ e);
}

some_event : (a b : Event) → Some a ≡ Some b → a ≡ b
some_event a b e = cc

idle_entry_for : (set : Set) (history : List Entry) (planned : List Release) (event : Event)
    → pending (state_of set history).rows ≡ [] → (state_of set history).planned ≡ planned → event_in planned ≡ Some event
    → HasEntry set history event
idle_entry_for set history [] event none is h = absurd cc
idle_entry_for set history (r ∷ rs) event none is h = subst (HasEntry set history) (some_event idle event h) (idle_some set history (r ∷ rs) (next_tick (r ∷ rs)) none is refl (λ e. cc))

pub entry_for : (w : Workload) (history : List Entry) (o : Option Row) (event : Event) → IsCompiled w.set
    → IsLegal w.set history → ObeysAt w history → running w.set (state_of w.set history).rows ≡ o
    → event_for w history (state_of w.set history) o ≡ Some event → HasEntry w.set history event
entry_for w history (Some row) event ok legal obeys runs h =
    let op : Op = op_asked w history row.job in
    let a = asked_entry w.set history row.job op (ap (option_map (λ (r : Row). r.job)) runs) (λ x is.
    ap (λ (j : JobId). may_ask w.set x (op_asked w history j)) (job_of_same row x (sym runs ∙ is)) ∙ obeys x is) in
    subst (HasEntry w.set history) (some_event (ask row.job op) event h) (record { entry = a.entry; is = a.event; legal = asked_legal w.set (state_of w.set history) row.job op a })
entry_for w history None event ok legal obeys runs h = idle_entry_for w.set history (state_of w.set history).planned event ((never_stuck w.set history ok legal).runs runs) refl h

-- how a run ends
pub ended : (set set' : Set) (bodies bodies' : List Body) (releases : List (List ℕ)) (history after : List Entry)
    (result : Bool) → set' ≡ set → result ≡ false → IsLegal set' history
    → IsCalled (workload set' bodies' []) history result after → IsUnderWay (workload set bodies releases) history
    → IsSim (workload set bodies releases) after
ended set set' bodies bodies' releases history after result es over legal called u =
    let t : IsCalled (workload set' bodies' []) history false after = subst (λ (b : Bool). IsCalled (workload set' bodies' []) history b after) over called in
    subst (IsSim (workload set bodies releases)) (sym t.0) (record {
      legal = subst (λ (q : Set). IsLegal q history) es legal;
      script_run = u.script_run;
      rest = u.rest;
      begins = u.begins;
      fixed = u.fixed;
      none_pending = subst (λ (q : Set). pending (state_of q history).rows ≡ []) es t.1;
      none_planned = subst (λ (q : Set). (state_of q history).planned ≡ []) es t.2;
    })
