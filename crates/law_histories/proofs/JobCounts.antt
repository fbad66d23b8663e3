-- In every legal history a job takes at most its steps and is refused at most once: a pending row counts its steps,
-- and a job with no row, planned or over, takes none.
use Rattle.std.proofs.Common.{◌≡◌, ◌≢◌, ℕ, ◌+◌, ◌<◌, ◌≤◌, ◌==◌, Bool, true, false, cond, ◌||◌, List, [], ◌∷◌, ◌++◌, length, Option, None, Some, refl, ap, sym, ◌∙◌, subst, inl, inr, arith, append_assoc, length-append}
use Rattle.std.proofs.lemmas.List.{append-nil}
use Rattle.std.proofs.lemmas.Bool.{cases_Bool, eq-eqb, and_from}
use Rattle.std.specs.Option.{option_map, option_and_then}
use Rattle.std.specs.List.{fold, filter}
use Rattle.rt_base.specs.declared.ids.JobId.{JobId}
use Rattle.rt_base.specs.declared.operation.Op.{Op}
use Rattle.rt_base.specs.declared.operation.End.{End}
use Rattle.step_journal.specs.declared.entry.Entry.{Entry}
use Rattle.step_journal.specs.declared.entry.Entry.TheVariants.{Planned, Step, Blocked, Idle}
use Rattle.txn_set.specs.Set.{Set, txn_of, IsCompiled}
use Rattle.item_model.specs.Work.{outcome_of}
use Rattle.step_journal.specs.State.{State, Row, new_row, pending, same_job, opening}
use Rattle.rt_base.specs.declared.release.Release.{Release}
use Rattle.step_journal.specs.LockRule.{Above, refusal, needs_lock, in_falling_priority}
use Rattle.step_journal.specs.Running.{running, of_job}
use Rattle.step_journal.specs.Instant.{with_row, with_end, with_late, is_due, with_cancellations, with_releases, arrived}
use Rattle.step_journal.specs.Step.{Event, plan, ask, idle, given, may_plan, next_job, with_plan, may_ask, lock_refusal, row_after, end_by, settled, after_effect, with_step, end_of, with_wait, answered, asked, next_tick, idled, step}
use Rattle.step_journal.specs.History.{event_of, state_given, entry_given, state_after, states_after, IsLegalFrom, IsLegal, state_of}
use Rattle.step_journal.specs.Serial.{op_in, ops_of}
use Rattle.law_histories.proofs.Members.{In}
use Rattle.law_histories.proofs.Invariant.{IsPending, Runs, running_is, refusal_is, in_range, written, same_job_is}
use Rattle.law_histories.proofs.Events.{refused_facts, refused_too}
use Rattle.law_histories.proofs.Ends.{left}
use Rattle.law_histories.proofs.Calendar.{Sound, named_from, late_rows, after_cancelled, due, after_due, came_at}
use Rattle.law_histories.proofs.Histories.{settled_sound, idle_early, may_plan_is}
use Rattle.law_histories.proofs.Never.{refused_after, refused_all, step_goes, entry_goes, opening_sound, nothing_at, refusal_at}
use Rattle.law_histories.proofs.Alone.{ops_more}
use Rattle.law_histories.proofs.Serials.{Serial}
use Rattle.law_histories.proofs.SerialAll.{step_carries, entry_carries, opening_serial}
use Rattle.law_histories.proofs.DelayAll.{left_like, Delay, Like, step_slows, entry_slows, opening_delay}
use Rattle.law_histories.specs.Counting.{refusals_in, refusal_count}
use Rattle.law_histories.proofs.Totals.{steps_of}

abbrev taken : List Entry → JobId → ℕ
taken es job = length (ops_of es job)

-- the rows of a state count the steps of their jobs
abbrev AreUsed : List Entry → List (Option Row) → Type 0
AreUsed es rows = (x : Row) → IsPending rows x → length (ops_of es x.job) ≡ x.used

-- what is planned took no step
abbrev AreNew : List Entry → List Release → Type 0
AreNew es planned = (q : Release) → In q planned → ops_of es q.job ≡ []

pub record Jobs (set : Set) (refused : JobId → Bool) (es : List Entry) (rows : List (Option Row)) : Type 0 where
  pub used : (x : Row) → IsPending rows x → length (ops_of es x.job) ≡ x.used
  pub steps : (j : JobId) → length (ops_of es j) ≤ (txn_of set j.tx.0).steps
  pub refusals : (j : JobId) → refusal_count es j ≡ cond (refused j) 1 0

-- one more entry

refusals_more : (es : List Entry) (e : Entry) (j : JobId) → refusal_count (es ++ e ∷ []) j ≡ refusal_count es j + refusals_in j e
refusals_more [] e j = omega arith
refusals_more (x ∷ es) e j = omega (arith, refusals_more es e j)

no_step : (es : List Entry) (e : Entry) (j : JobId) → op_in j e ≡ None → ops_of (es ++ e ∷ []) j ≡ ops_of es j
no_step es e j none = ops_more es e j None none ∙ append-nil (ops_of es j)

quiet_jobs : (set : Set) (refused : JobId → Bool) (es : List Entry) (e : Entry) (rows : List (Option Row)) → ((j : JobId) → op_in j e ≡ None) → ((j : JobId) → refusals_in j e ≡ 0) → Jobs set refused es rows → Jobs set refused (es ++ e ∷ []) rows
quiet_jobs set refused es e rows noop calm h = record {
  used = λ x i. ap (λ (l : List Op). length l) (no_step es e x.job (noop x.job)) ∙ h.used x i;
  steps = λ j. omega (arith, h.steps j, ap (λ (l : List Op). length l) (no_step es e j (noop j)));
  refusals = λ j. omega (arith, refusals_more es e j, calm j, h.refusals j);
}

-- to arrive at a tick

pub late_like : (t : ℕ) (gone : List Row) (s : State) (y : Row) → IsPending (fold (with_late t) s gone).rows y → Like s.rows y
unfolding with_end
late_like t [] s y h = record { was = y; here = h; job = refl; release = refl; used = refl; work = refl }
late_like t (g ∷ gone) s y h =
    let l = late_like t gone (with_late t s g) y h in
    let m = left_like s.rows g.job l.was l.here in
    record { was = m.was; here = m.here; job = l.job ∙ m.job; release = l.release ∙ m.release; used = l.used ∙ m.used; work = l.work ∙ m.work }

arrived_used : (set : Set) (refused : JobId → Bool) (t : ℕ) (s : State) (ok : IsCompiled set) (sound : Sound set refused t s) (es : List Entry) → AreNew es s.planned → AreUsed es s.rows → AreUsed es (arrived set t s).rows
unfolding arrived with_releases with_cancellations after_cancelled due late_rows
arrived_used set refused t s ok sound es new used y h = elim ((after_due set refused t s ok sound).each y h) [
  | inl b ↦ (let l = late_like t (in_falling_priority set (filter (is_due set t) (pending s.rows))) (record s { now = t }) y b in
      ap (λ (j : JobId). length (ops_of es j)) l.job ∙ (used l.was l.here ∙ sym l.used))
  | inr c ↦ (let at = came_at set refused t s ok sound y c in
      ap (λ (q : Row). length (ops_of es q.job)) c.is ∙ (ap (λ (l : List Op). length l) (new c.release at.0) ∙ sym (ap (λ (q : Row). q.used) c.is)))
]

arrived_jobs : (set : Set) (refused : JobId → Bool) (t : ℕ) (s : State) (ok : IsCompiled set) (sound : Sound set refused t s) (es : List Entry) → AreNew es s.planned → Jobs set refused es s.rows → Jobs set refused es (arrived set t s).rows
arrived_jobs set refused t s ok sound es new h = record { used = arrived_used set refused t s ok sound es new h.used; steps = h.steps; refusals = h.refusals }

-- the effect of a granted step

module _ (set : Set) (refused : JobId → Bool) (s : State) (x : Row) (op : Op) (es : List Entry) (e : Entry) (here : IsPending s.rows x) (short : x.used < steps_of set x)
    (is : (j : JobId) → op_in j e ≡ cond (same_job x.job j) (Some op) None) (calm : (j : JobId) → refusals_in j e ≡ 0) (h : Jobs set refused es s.rows) where
  taken_at : (j : JobId) (b : Bool) → same_job x.job j ≡ b → length (ops_of (es ++ e ∷ []) j) ≡ length (ops_of es j) + cond b 1 0
  taken_at j true t = ap (λ (l : List Op). length l) (ops_more es e j (Some op) (is j ∙ ap (λ (b : Bool). cond b (Some op) None) t)) ∙ length-append (ops_of es j) (op ∷ [])
  taken_at j false t = ap (λ (l : List Op). length l) (no_step es e j (is j ∙ ap (λ (b : Bool). cond b (Some op) None) t)) ∙ plus_none (length (ops_of es j)) where
    plus_none : (n : ℕ) → n ≡ n + 0
    plus_none n = omega arith

  other_job : (j : JobId) → j.tx.0 ≢ x.job.tx.0 → same_job x.job j ≡ false
  other_job j ne = elim (cases_Bool (same_job x.job j)) [ inl t ↦ absurd (ne (sym (ap (λ (k : JobId). k.tx.0) (same_job_is _ _ t)))) | inr f ↦ f ]

  pub other_taken : (j : JobId) → same_job x.job j ≡ false → ops_of (es ++ e ∷ []) j ≡ ops_of es j
  other_taken j f = no_step es e j (is j ∙ ap (λ (b : Bool). cond b (Some op) None) f)

  -- the running job took one step more
  own_taken : length (ops_of (es ++ e ∷ []) x.job) ≡ x.used + 1
  own_taken = elim (cases_Bool (same_job x.job x.job)) [
    | inl t ↦ omega (arith, taken_at x.job true t, h.used x here)
    | inr f ↦ absurd (let t : same_job x.job x.job ≡ true = self x.job in cc)
  ] where
    self : (j : JobId) → same_job j j ≡ true
    self j = and_from _ _ (eq-eqb j.tx.0 j.tx.0 refl) (eq-eqb j.serial j.serial refl)

  steps_all : (j : JobId) → length (ops_of (es ++ e ∷ []) j) ≤ (txn_of set j.tx.0).steps
  steps_all j = elim (cases_Bool (same_job x.job j)) [
    | inl t ↦ (let k : x.job ≡ j = same_job_is _ _ t in omega (arith, own_taken, short, ap (λ (i : JobId). length (ops_of (es ++ e ∷ []) i)) k, ap (λ (i : JobId). (txn_of set i.tx.0).steps) k))
    | inr f ↦ omega (arith, h.steps j, ap (λ (l : List Op). length l) (other_taken j f))
  ]

  refusals_all : (j : JobId) → refusal_count (es ++ e ∷ []) j ≡ cond (refused j) 1 0
  refusals_all j = omega (arith, refusals_more es e j, calm j, h.refusals j)

  pub settled_jobs : (o : Option End) → Jobs set refused (es ++ e ∷ []) (settled set (row_after s x op) (s.now + 1) o s).rows
  unfolding with_end
  settled_jobs None = record {
    used = λ y i. elim (written s.rows x.job.tx.0 (row_after s x op) y (in_range s.rows _ x here) refl i) [
      | inl q ↦ omega (arith, own_taken, ap (λ (r : Row). length (ops_of (es ++ e ∷ []) r.job)) q, ap (λ (r : Row). r.used) q)
      | inr o ↦ ap (λ (l : List Op). length l) (other_taken y.job (other_job y.job o.0)) ∙ h.used y o.1
    ];
    steps = steps_all;
    refusals = refusals_all;
  }
  settled_jobs (Some end) = record {
    used = λ y i. let l = left s.rows x.job y i in
        let k : y.job ≡ l.was.job = ap (λ (r : Row). r.job) l.is in
        ap (λ (j : JobId). length (ops_of (es ++ e ∷ []) j)) k ∙ (ap (λ (o : List Op). length o) (other_taken l.was.job (other_job l.was.job l.other)) ∙ (h.used l.was l.here ∙ sym (ap (λ (r : Row). r.used) l.is)));
    steps = steps_all;
    refusals = refusals_all;
  }

  pub settled_planned : (o : Option End) → (settled set (row_after s x op) (s.now + 1) o s).planned ≡ s.planned
  unfolding with_end
  settled_planned None = refl
  settled_planned (Some end) = refl

-- a refusal

refused_at : (a b : Bool) (c : ℕ) → c ≡ cond a 1 0 → (b ≡ true → a ≡ false) → c + cond b 1 0 ≡ cond (a || b) 1 0
refused_at true true c e h = absurd (let f : true ≡ false = h refl in cc)
refused_at true false c e h = omega (arith, e)
refused_at false true c e h = omega (arith, e)
refused_at false false c e h = omega (arith, e)

wait_jobs : (set : Set) (refused : JobId → Bool) (s : State) (x : Row) (on : JobId) (es : List Entry) (e : Entry) → IsPending s.rows x → refused x.job ≡ false → ((j : JobId) → op_in j e ≡ None) → ((j : JobId) → refusals_in j e ≡ cond (same_job j x.job) 1 0) → Jobs set refused es s.rows
    → Jobs set (refused_too refused x.job) (es ++ e ∷ []) (with_wait s x on).rows
unfolding with_wait
wait_jobs set refused s x on es e here first noop one h = record {
  used = λ y i. ap (λ (l : List Op). length l) (no_step es e y.job (noop y.job)) ∙ elim (written s.rows x.job.tx.0 (record x { waits_on = Some on }) y (in_range s.rows _ x here) refl i) [
    | inl q ↦ ap (λ (r : Row). length (ops_of es r.job)) q ∙ (h.used x here ∙ sym (ap (λ (r : Row). r.used) q))
    | inr o ↦ h.used y o.1
  ];
  steps = λ j. omega (arith, h.steps j, ap (λ (l : List Op). length l) (no_step es e j (noop j)));
  refusals = λ j. refusals_more es e j ∙ (ap (λ (n : ℕ). refusal_count es j + n) (one j) ∙ refused_at (refused j) (same_job j x.job) (refusal_count es j) (h.refusals j) (λ t. ap refused (same_job_is j x.job t) ∙ first));
}

-- a plan

plan_jobs_at : (set : Set) (refused : JobId → Bool) (es : List Entry) (s : State) (n tick : ℕ) (b : Bool) → n < length s.rows → ops_of es (next_job s n) ≡ [] → Jobs set refused es s.rows → Jobs set refused es (cond b (with_row tick s.rows (next_job s n)) s.rows)
plan_jobs_at set refused es s n tick false lt new h = h
plan_jobs_at set refused es s n tick true lt new h = record {
  used = λ y i. elim (written s.rows n (new_row (next_job s n) tick) y lt refl i) [
    | inl q ↦ ap (λ (r : Row). length (ops_of es r.job)) q ∙ (ap (λ (l : List Op). length l) new ∙ sym (ap (λ (r : Row). r.used) q))
    | inr o ↦ h.used y o.1
  ];
  steps = h.steps;
  refusals = h.refusals;
}

plan_jobs : (set : Set) (refused : JobId → Bool) (es : List Entry) (s : State) (n tick : ℕ) → n < length s.rows → ops_of es (next_job s n) ≡ [] → Jobs set refused es s.rows → Jobs set refused es (with_plan s n tick).rows
unfolding with_plan
plan_jobs set refused es s n tick lt new h = plan_jobs_at set refused es s n tick (tick == s.now) lt new h

-- the events

abbrev Takes : Set → (JobId → Bool) → List Entry → Option (Entry × State) → Type 0
Takes set refused es None = Unit {0}
Takes set refused es (Some p) = Jobs set (refused_after refused p.0) (es ++ p.0 ∷ []) p.1.rows

takes_given : (set : Set) (refused : JobId → Bool) (es : List Entry) (b : Bool) (p : Entry × State) → (b ≡ true → Takes set refused es (Some p)) → Takes set refused es (given b p)
takes_given set refused es true p h = h refl
takes_given set refused es false p h = tt

module _ (set : Set) (ok : IsCompiled set) (refused : JobId → Bool) (s : State) (sound : Sound set refused (s.now + 1) s) (es : List Entry) (serial : Serial set es s) (delay : Delay set es s.now s) (h : Jobs set refused es s.rows) where
  still_new : (x : Row) (q : Release) → IsPending s.rows x → In q s.planned → same_job x.job q.job ≡ false
  still_new x q here i = elim (cases_Bool (same_job x.job q.job)) [
    | inl t ↦ absurd (let k : x.job ≡ q.job = same_job_is _ _ t in let b = sound.calendar.behind x q here i (ap (λ (j : JobId). j.tx.0) k) in omega (arith, b.1, ap (λ (j : JobId). j.serial) k))
    | inr f ↦ f
  ]

  answered_takes : (x : Row) (op : Op) (o : Option Above) → Runs set s.rows refused x → lock_refusal set s x op ≡ o → Takes set refused es (Some (answered set s x op o))
  unfolding with_step after_effect
  answered_takes x op None run e =
      let over = end_of (with_step set s x op) x.job in
      let entry : Entry = Step x.job op (outcome_of s.items x.work op) over s.now in
      let how = end_by set (row_after s x op) (s.now + 1) op in
      let state : State = settled set (row_after s x op) (s.now + 1) how s in
      let a : Sound set refused (s.now + 1) state = settled_sound set refused (s.now + 1) s x op how ok sound run e in
      let short : x.used < steps_of set x = delay.used x run.here in
      let j : Jobs set refused (es ++ entry ∷ []) state.rows = settled_jobs set refused s x op es entry run.here short (λ k. refl) (λ k. refl) h how in
      let new : AreNew (es ++ entry ∷ []) s.planned = λ q i. other_taken set refused s x op es entry run.here short (λ k. refl) (λ k. refl) h q.job (still_new x q run.here i) ∙ (serial.planned_new q i).ops in
      arrived_jobs set refused (s.now + 1) state ok a (es ++ entry ∷ []) (subst (AreNew (es ++ entry ∷ [])) (sym (settled_planned set refused s x op es entry run.here short (λ k. refl) (λ k. refl) h how)) new) j
  answered_takes x op (Some above) run e =
      let h' : refusal set s.rows x ≡ Some above = refusal_at set s x above (needs_lock x.work op) e in
      let named = named_from set s.rows ok sound.frame in
      let facts = refused_facts set s.rows refused x above named sound.protocol run (refusal_is set s.rows x above named h') in
      wait_jobs set refused s x above.holder es (Blocked x.job op above.holder above.ceiling s.now) run.here facts.first (λ k. refl) (λ k. refl) h

  asked_takes : (job : JobId) (op : Op) (x : Row) (b : Bool) → Runs set s.rows refused x → Takes set refused es (option_and_then (asked set s op) (cond b (Some x) None))
  asked_takes job op x true run = takes_given set refused es (may_ask set x op) (answered set s x op (lock_refusal set s x op)) (λ may. answered_takes x op (lock_refusal set s x op) run refl)
  asked_takes job op x false run = tt

  ask_takes : (job : JobId) (op : Op) (o : Option Row) → running set s.rows ≡ o → Takes set refused es (option_and_then (asked set s op) (option_and_then (of_job job) o))
  ask_takes job op None e = tt
  ask_takes job op (Some x) e = asked_takes job op x (same_job x.job job) (running_is set s.rows refused x (named_from set s.rows ok sound.frame) sound.protocol e)

  idle_at : (o : Option ℕ) → pending s.rows ≡ [] → next_tick s.planned ≡ o → Takes set refused es (option_map (λ t. (Idle s.now t, arrived set t s)) o)
  idle_at None none e = tt
  idle_at (Some t) none e =
      let early = idle_early set refused s t sound none e in
      quiet_jobs set refused es (Idle s.now t) (arrived set t s).rows (λ j. refl) (λ j. refl) (arrived_jobs set refused t s ok early es (λ q i. (serial.planned_new q i).ops) h)

  idle_takes : (rows : List Row) → pending s.rows ≡ rows → Takes set refused es (idled set s rows)
  idle_takes [] e = idle_at (next_tick s.planned) e refl
  idle_takes (r ∷ rows) e = tt

  pub step_takes : (event : Event) → Takes set refused es (step set s event)
  unfolding step
  step_takes (plan n tick) = takes_given set refused es (may_plan set s n tick) (Planned (record { 0 = n }) tick, with_plan s n tick) (λ may.
      let m = may_plan_is set s n tick may in
      quiet_jobs set refused es (Planned (record { 0 = n }) tick) (with_plan s n tick).rows (λ j. refl) (λ j. refl) (plan_jobs set refused es s n tick (omega (arith, m.in_set, sound.frame.count)) (serial.future_new (next_job s n) (omega arith)).ops h))
  step_takes (ask job op) = ask_takes job op (running set s.rows) refl
  step_takes idle = idle_takes (pending s.rows) refl

-- whole histories

entry_takes : (set : Set) (refused : JobId → Bool) (es : List Entry) (s : State) (entry : Entry) (o : Option (Entry × State)) → Takes set refused es o → entry_given o ≡ Some entry → Jobs set (refused_after refused entry) (es ++ entry ∷ []) (state_given s o).rows
entry_takes set refused es s entry None c h = absurd cc
entry_takes set refused es s entry (Some p) c h = let e : p.0 ≡ entry = cc in subst (λ (q : Entry). Jobs set (refused_after refused q) (es ++ q ∷ []) p.1.rows) e c

history_takes : (set : Set) (refused : JobId → Bool) (s : State) (es rest : List Entry) → IsCompiled set → Sound set refused (s.now + 1) s → Serial set es s → Delay set es s.now s → Jobs set refused es s.rows → IsLegalFrom set s rest
    → Jobs set (refused_all refused rest) (es ++ rest) (states_after set s rest).rows
history_takes set refused s es [] ok sound serial delay h legal = subst (λ (l : List Entry). Jobs set refused l s.rows) (sym (append-nil es)) h
history_takes set refused s es (e ∷ rest) ok sound serial delay h legal =
    let next = entry_takes set refused es s e (step set s (event_of e)) (step_takes set ok refused s sound es serial delay h (event_of e)) legal.0 in
    let delay' = entry_slows set es s e (step set s (event_of e)) (step_slows set ok refused s sound es serial delay (event_of e)) legal.0 in
    let serial' = entry_carries set es s e (step set s (event_of e)) (step_carries set ok refused s sound es serial (event_of e)) legal.0 in
    let sound' = entry_goes set refused s e (step set s (event_of e)) (step_goes set ok refused s sound (event_of e)) legal.0 in
    let whole = history_takes set (refused_after refused e) (state_after set s e) (es ++ e ∷ []) rest ok sound'.0 serial' delay' next legal.1 in
    subst (λ (l : List Entry). Jobs set (refused_all (refused_after refused e) rest) l (states_after set (state_after set s e) rest).rows) (append_assoc es (e ∷ []) rest) whole

opening_jobs : (set : Set) → Jobs set (λ _. false) [] (opening set).rows
unfolding opening
opening_jobs set = record { used = λ x i. absurd (nothing_at set.txns x.job.tx.0 x i); steps = λ j. omega arith; refusals = λ j. refl }

pub legal_jobs : (set : Set) (entries : List Entry) → IsCompiled set → IsLegal set entries → Jobs set (refused_all (λ _. false) entries) entries (state_of set entries).rows
legal_jobs set entries ok legal = history_takes set (λ _. false) (opening set) [] entries ok (opening_sound set) (opening_serial set) (opening_delay set) (opening_jobs set) legal

pub at_most_once : (b : Bool) (n : ℕ) → n ≡ cond b 1 0 → n ≤ 1
at_most_once true n e = omega (arith, e)
at_most_once false n e = omega (arith, e)
