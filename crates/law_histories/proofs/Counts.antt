-- Every legal history keeps the two sums, and its time goes at most a period beyond the last planned tick: by
-- induction on the entries. From these follow the bounds by the room and by 2^42.
use Rattle.std.proofs.Common.{◌≡◌, ◌⊎◌, ℕ, zero, suc, ◌+◌, ◌-◌, ◌*◌, ◌^◌, ◌<◌, ◌≤◌, Bool, true, false, cond, List, [], ◌∷◌, ◌++◌, length, map, Option, None, Some, get_or, refl, ap, sym, ◌∙◌, subst, inl, inr, arith, append_assoc, mul-le-mul_right, zero-mul, suc-mul}
use Rattle.std.proofs.lemmas.List.{append-nil}
use Rattle.std.proofs.lemmas.Bool.{cases_lt}
use Rattle.std.specs.List.{All}
use Rattle.std.specs.Option.{option_map, option_and_then}
use Rattle.rt_base.specs.declared.ids.JobId.{JobId}
use Rattle.txn_set.specs.declared.decl.TxnDecl.{TxnDecl}
use Rattle.rt_base.specs.declared.operation.Op.{Op}
use Rattle.step_journal.specs.declared.entry.Entry.{Entry}
use Rattle.step_journal.specs.declared.entry.Entry.TheVariants.{Planned, Step, Blocked, Idle}
use Rattle.txn_set.specs.Set.{Set, no_txn, txn_of, HasGoodTimes, IsCompiled}
use Rattle.txn_set.specs.Ceilings.{greatest}
use Rattle.item_model.specs.Work.{outcome_of}
use Rattle.step_journal.specs.State.{State, Row, pending, same_job, opening}
use Rattle.rt_base.specs.declared.release.Plans.{Plans}
use Rattle.rt_base.specs.declared.release.Release.{Release}
use Rattle.step_journal.specs.LockRule.{Above, refusal, needs_lock}
use Rattle.step_journal.specs.Running.{running, of_job}
use Rattle.step_journal.specs.Instant.{arrived}
use Rattle.step_journal.specs.Step.{Event, plan, ask, idle, given, plans_of, may_plan, with_plan, may_ask, lock_refusal, row_after, end_by, settled, after_effect, with_step, end_of, with_wait, answered, asked, earlier, next_tick, idled, step}
use Rattle.step_journal.specs.History.{event_of, state_given, entry_given, state_after, states_after, IsLegalFrom, IsLegal, state_of}
use Rattle.law_histories.proofs.Members.{In, le_greatest}
use Rattle.law_histories.proofs.Invariant.{IsPending, Runs, running_is, refusal_is, in_range}
use Rattle.law_histories.proofs.Events.{refused_facts, refused_too}
use Rattle.law_histories.proofs.Calendar.{Sound, named_from, deadline_of, deadline_le, period_of}
use Rattle.law_histories.proofs.Histories.{settled_sound, idle_early, arrived_now, may_plan_is, wait_now, plan_now}
use Rattle.law_histories.proofs.Never.{refused_after, refused_all, step_goes, entry_goes, opening_sound, refusal_at}
use Rattle.law_histories.proofs.Conflict.{in_get_or}
use Rattle.law_histories.proofs.Serials.{Serial}
use Rattle.law_histories.proofs.SerialAll.{step_carries, entry_carries, opening_serial}
use Rattle.law_histories.proofs.DelayAll.{Delay, step_slows, entry_slows, opening_delay}
use Rattle.law_histories.specs.Counting.{planned_room, plan_count, room_of_jobs, greatest_planned, greatest_period}
use Rattle.law_histories.proofs.Sums.{sum_below, sum_le, sum_zero, sum_front}
use Rattle.law_histories.proofs.Totals.{total_none}
use Rattle.law_histories.proofs.Rooms.{planned_more, IsNoPlan, entries_left, refusals_left, Rooms, Plannings, Counted, no_plan_planned, no_plan_same, arrived_rooms, arrived_rooms_idle, arrived_plannings, settled_rooms, settled_plans, wait_rooms, plan_rooms, plan_plannings, tick_limit}

abbrev Counts : Set → (JobId → Bool) → List Entry → Option (Entry × State) → Type 0
Counts set refused es None = Unit {0}
Counts set refused es (Some p) = Counted set (refused_after refused p.0) (es ++ p.0 ∷ []) p.1

counts_given : (set : Set) (refused : JobId → Bool) (es : List Entry) (b : Bool) (p : Entry × State) → (b ≡ true → Counts set refused es (Some p)) → Counts set refused es (given b p)
counts_given set refused es true p h = h refl
counts_given set refused es false p h = tt

-- the least planned tick is one of them
next_at : (rs : List Release) (r : Release) (t : ℕ) (o : Option ℕ) → earlier r.tick o ≡ t → ((u : ℕ) → o ≡ Some u → (q : Release) × In q rs × (q.tick ≡ u)) → (q : Release) × ((q ≡ r) ⊎ In q rs) × (q.tick ≡ t)
next_at rs r t None e rest = (r, inl refl, e)
next_at rs r t (Some u) e rest = elim (cases_lt u r.tick) [
  | inl lt ↦ (let q = rest u refl in (q.0, inr q.1, omega (arith, q.2, e)))
  | inr ge ↦ (r, inl refl, omega (arith, e))
]

pub next_in : (rs : List Release) (t : ℕ) → next_tick rs ≡ Some t → (q : Release) × In q rs × (q.tick ≡ t)
next_in [] t e = absurd cc
next_in (r ∷ rs) t e = let w : earlier r.tick (next_tick rs) ≡ t = cc in next_at rs r t (next_tick rs) w (λ u is. next_in rs u is)

pub period_le : (set : Set) (n : ℕ) → n < length set.txns → (txn_of set n).period ≤ greatest_period set
period_le set n lt = le_greatest (λ (t : TxnDecl). t.period) (txn_of set n) set.txns (in_get_or set.txns n no_txn lt)

wait_plans : (s : State) (x : Row) (j : JobId) → (with_wait s x j).plans ≡ s.plans
unfolding with_wait
wait_plans s x j = refl

-- a pending job ends within a period of the last planned tick
step_now : (set : Set) (refused : JobId → Bool) (s : State) (x : Row) (es : List Entry) → IsCompiled set → Sound set refused (s.now + 1) s → IsPending s.rows x → Plannings set es s.plans → s.now + 1 ≤ greatest_planned es + greatest_period set
step_now set refused s x es ok sound here p =
    let lt : x.job.tx.0 < length set.txns = omega (arith, in_range s.rows _ x here, sound.frame.count) in
    let alive : s.now + 1 ≤ x.release + deadline_of set x.job = sound.calendar.alive x here in
    let d : deadline_of set x.job ≤ period_of set x.job = deadline_le set s.rows x ok sound.frame here in
    let m : period_of set x.job ≤ greatest_period set = period_le set x.job.tx.0 lt in
    let r = (sound.calendar.released x here).0 in
    omega (arith, alive, d, m, r, p.last x.job.tx.0)

-- the record of a state whose time is known
counted_at : (set : Set) (refused : JobId → Bool) (es : List Entry) (t : ℕ) (s : State) → Rooms set refused es t s → Plannings set es s.plans → t ≤ greatest_planned es + greatest_period set → s.now ≡ t → Counted set refused es s
counted_at set refused es t s rooms p le now = record { rooms = subst (λ (n : ℕ). Rooms set refused es n s) (sym now) rooms; plannings = p; now = omega arith }

module _ (set : Set) (ok : IsCompiled set) (refused : JobId → Bool) (s : State) (sound : Sound set refused (s.now + 1) s) (es : List Entry) (serial : Serial set es s) (delay : Delay set es s.now s) (h : Counted set refused es s) where
  answered_counts : (x : Row) (op : Op) (o : Option Above) → Runs set s.rows refused x → may_ask set x op ≡ true → lock_refusal set s x op ≡ o → Counts set refused es (Some (answered set s x op o))
  unfolding with_step after_effect
  answered_counts x op None run may e =
      let over = end_of (with_step set s x op) x.job in
      let entry : Entry = Step x.job op (outcome_of s.items x.work op) over s.now in
      let no_plan : IsNoPlan set (Step x.job op (outcome_of s.items x.work op) over s.now) = record { room = refl; count = λ n. refl; tick = refl } in
      let how = end_by set (row_after s x op) (s.now + 1) op in
      let state : State = settled set (row_after s x op) (s.now + 1) how s in
      let a : Sound set refused (s.now + 1) state = settled_sound set refused (s.now + 1) s x op how ok sound run e in
      let r : Rooms set refused (es ++ entry ∷ []) (s.now + 1) state = settled_rooms set refused s x op es entry sound.frame.count run.here (delay.used x run.here) no_plan h.rooms how in
      let p : Plannings set (es ++ entry ∷ []) s.plans = no_plan_same set es entry s.plans no_plan h.plannings in
      let p' : Plannings set (es ++ entry ∷ []) state.plans = subst (Plannings set (es ++ entry ∷ [])) (sym (settled_plans set refused s x op es entry sound.frame.count run.here (delay.used x run.here) no_plan h.rooms how)) p in
      counted_at set refused (es ++ entry ∷ []) (s.now + 1) (arrived set (s.now + 1) state) (arrived_rooms set refused (s.now + 1) state ok a (es ++ entry ∷ []) r) (arrived_plannings set refused (s.now + 1) state ok a (es ++ entry ∷ []) p')
      (step_now set refused s x (es ++ entry ∷ []) ok sound run.here p) (arrived_now set (s.now + 1) state)
  answered_counts x op (Some above) run may e =
      let entry : Entry = Blocked x.job op above.holder above.ceiling s.now in
      let no_plan : IsNoPlan set (Blocked x.job op above.holder above.ceiling s.now) = record { room = refl; count = λ n. refl; tick = refl } in
      let h' : refusal set s.rows x ≡ Some above = refusal_at set s x above (needs_lock x.work op) e in
      let named = named_from set s.rows ok sound.frame in
      let facts = refused_facts set s.rows refused x above named sound.protocol run (refusal_is set s.rows x above named h') in
      counted_at set (refused_too refused x.job) (es ++ entry ∷ []) s.now (with_wait s x above.holder) (wait_rooms set refused s x above.holder es entry sound.frame.count run.here facts.first no_plan h.rooms)
      (subst (Plannings set (es ++ entry ∷ [])) (sym (wait_plans s x above.holder)) (no_plan_same set es entry s.plans no_plan h.plannings))
      (omega (arith, h.now, no_plan_planned set es entry no_plan)) (wait_now s x above.holder)

  asked_counts : (job : JobId) (op : Op) (x : Row) (b : Bool) → Runs set s.rows refused x → Counts set refused es (option_and_then (asked set s op) (cond b (Some x) None))
  asked_counts job op x true run = counts_given set refused es (may_ask set x op) (answered set s x op (lock_refusal set s x op)) (λ may. answered_counts x op (lock_refusal set s x op) run may refl)
  asked_counts job op x false run = tt

  ask_counts : (job : JobId) (op : Op) (o : Option Row) → running set s.rows ≡ o → Counts set refused es (option_and_then (asked set s op) (option_and_then (of_job job) o))
  ask_counts job op None e = tt
  ask_counts job op (Some x) e = asked_counts job op x (same_job x.job job) (running_is set s.rows refused x (named_from set s.rows ok sound.frame) sound.protocol e)

  idle_at : (o : Option ℕ) → pending s.rows ≡ [] → next_tick s.planned ≡ o → Counts set refused es (option_map (λ t. (Idle s.now t, arrived set t s)) o)
  idle_at None none e = tt
  idle_at (Some t) none e =
      let early = idle_early set refused s t sound none e in
      let no_plan : IsNoPlan set (Idle s.now t) = record { room = refl; count = λ n. refl; tick = refl } in
      let q = next_in s.planned t e in
      let after : s.now < t = omega (arith, sound.calendar.future q.0 q.1, q.2) in
      let p = no_plan_same set es (Idle s.now t) s.plans no_plan h.plannings in
      let l = (sound.calendar.planned q.0 q.1).0 in
      counted_at set refused (es ++ Idle s.now t ∷ []) t (arrived set t s) (arrived_rooms_idle set refused t s ok early es (Idle s.now t) s.now q.0 q.1 q.2 after h.rooms no_plan) (arrived_plannings set refused t s ok early (es ++ Idle s.now t ∷ []) p)
      (omega (arith, l, q.2, p.last q.0.job.tx.0)) (arrived_now set t s)

  idle_counts : (rows : List Row) → pending s.rows ≡ rows → Counts set refused es (idled set s rows)
  idle_counts [] e = idle_at (next_tick s.planned) e refl
  idle_counts (r ∷ rows) e = tt

  pub step_counts : (event : Event) → Counts set refused es (step set s event)
  unfolding step
  step_counts (plan n tick) = counts_given set refused es (may_plan set s n tick) (Planned (record { 0 = n }) tick, with_plan s n tick) (λ may.
      let m = may_plan_is set s n tick may in
      counted_at set refused (es ++ Planned (record { 0 = n }) tick ∷ []) s.now (with_plan s n tick) (plan_rooms set refused s n tick es sound m h.rooms) (plan_plannings set refused s n tick es sound m (tick_limit set s n tick may) h.plannings)
      (omega (arith, h.now, planned_more es (Planned (record { 0 = n }) tick))) (plan_now s n tick))
  step_counts (ask job op) = ask_counts job op (running set s.rows) refl
  step_counts idle = idle_counts (pending s.rows) refl

-- whole histories

entry_counts : (set : Set) (refused : JobId → Bool) (es : List Entry) (s : State) (entry : Entry) (o : Option (Entry × State)) → Counts set refused es o → entry_given o ≡ Some entry → Counted set (refused_after refused entry) (es ++ entry ∷ []) (state_given s o)
entry_counts set refused es s entry None c h = absurd cc
entry_counts set refused es s entry (Some p) c h = let e : p.0 ≡ entry = cc in subst (λ (q : Entry). Counted set (refused_after refused q) (es ++ q ∷ []) p.1) e c

history_counts : (set : Set) (refused : JobId → Bool) (s : State) (es rest : List Entry) → IsCompiled set → Sound set refused (s.now + 1) s → Serial set es s → Delay set es s.now s → Counted set refused es s → IsLegalFrom set s rest
    → Counted set (refused_all refused rest) (es ++ rest) (states_after set s rest)
history_counts set refused s es [] ok sound serial delay h legal = subst (λ (l : List Entry). Counted set refused l s) (sym (append-nil es)) h
history_counts set refused s es (e ∷ rest) ok sound serial delay h legal =
    let next = entry_counts set refused es s e (step set s (event_of e)) (step_counts set ok refused s sound es serial delay h (event_of e)) legal.0 in
    let delay' = entry_slows set es s e (step set s (event_of e)) (step_slows set ok refused s sound es serial delay (event_of e)) legal.0 in
    let serial' = entry_carries set es s e (step set s (event_of e)) (step_carries set ok refused s sound es serial (event_of e)) legal.0 in
    let sound' = entry_goes set refused s e (step set s (event_of e)) (step_goes set ok refused s sound (event_of e)) legal.0 in
    let whole = history_counts set (refused_after refused e) (state_after set s e) (es ++ e ∷ []) rest ok sound'.0 serial' delay' next legal.1 in
    subst (λ (l : List Entry). Counted set (refused_all (refused_after refused e) rest) l (states_after set (state_after set s e) rest)) (append_assoc es (e ∷ []) rest) whole

none_at : {A : Type 0} {B : Type 0} (b : B) (xs : List A) (n : ℕ) → get_or (map (λ t. b) xs) n b ≡ b
none_at b [] n = refl
none_at b (x ∷ xs) zero = refl
none_at b (x ∷ xs) (suc n) = none_at b xs n

abbrev pub no_plans : Plans
no_plans = record { number = 0; last = 0 }

opening_counted : (set : Set) → Counted set (λ _. false) [] (opening set)
unfolding opening
opening_counted set =
    let plans : (n : ℕ) → get_or (map (λ t. no_plans) set.txns) n no_plans ≡ no_plans = λ n. none_at no_plans set.txns n in
    record {
      rooms = record {
        room = omega (arith, total_none set (entries_left set (λ _. false)) (map (λ t. None) set.txns) (λ n. ap (entries_left set (λ _. false)) (none_at None set.txns n)));
        pace = omega (arith, total_none set (refusals_left (λ _. false)) (map (λ t. None) set.txns) (λ n. ap (refusals_left (λ _. false)) (none_at None set.txns n)));
      };
      plannings = record {
        by_number = sym (sum_zero (λ n. 0 * ((txn_of set n).steps + 3)) (length set.txns) (λ n lt. zero-mul ((txn_of set n).steps + 3)));
        count = λ n. sym (ap (λ (p : Plans). p.number) (plans n));
        last = λ n. omega (arith, ap (λ (p : Plans). p.last) (plans n));
        few = λ n. omega (arith, ap (λ (p : Plans). p.number) (plans n));
        limit = omega arith;
      };
      now = omega arith;
    }

pub legal_counted : (set : Set) (entries : List Entry) → IsCompiled set → IsLegal set entries → Counted set (refused_all (λ _. false) entries) entries (state_of set entries)
legal_counted set entries ok legal = history_counts set (λ _. false) (opening set) [] entries ok (opening_sound set) (opening_serial set) (opening_delay set) (opening_counted set) legal

-- what follows

pub jobs_room : (ts : List TxnDecl) (jobs : ℕ → ℕ) → sum_below (λ n. jobs n * ((get_or ts n no_txn).steps + 3)) (length ts) ≡ room_of_jobs ts jobs
jobs_room [] jobs = refl
jobs_room (t ∷ ts) jobs = sum_front (λ n. jobs n * ((get_or (t ∷ ts) n no_txn).steps + 3)) (length ts) ∙ ap (λ (m : ℕ). jobs 0 * (t.steps + 3) + m) (jobs_room ts (λ n. jobs (suc n)))

pub within_jobs : (set : Set) (es : List Entry) (plans : List Plans) (jobs : ℕ → ℕ) → Plannings set es plans → ((n : ℕ) → n < length set.txns → plan_count es n ≤ jobs n) → planned_room set es ≤ room_of_jobs set.txns jobs
within_jobs set es plans jobs p h =
    let s = sum_le (λ n. plan_count es n * ((txn_of set n).steps + 3)) (λ n. jobs n * ((txn_of set n).steps + 3)) (length set.txns) (λ n lt. mul-le-mul_right ((txn_of set n).steps + 3) (h n lt)) in
    omega (arith, p.by_number, s, jobs_room set.txns jobs)

sum_bound : (f : ℕ → ℕ) (m n : ℕ) → ((k : ℕ) → f k ≤ m) → sum_below f n ≤ n * m
sum_bound f m zero h = omega arith
sum_bound f m (suc n) h = let e : suc n * m ≡ n * m + m = suc-mul n m in omega (arith, sum_bound f m n h, h n, e)

pub greatest_bound : (ts : List TxnDecl) → All HasGoodTimes ts → greatest (map (λ t. t.period) ts) ≤ 2 ^ 30
greatest_bound [] h = omega arith
greatest_bound (t ∷ ts) h = let p = (h zero t (omega arith)).period.1 in omega (arith, p, greatest_bound ts (λ n d lt. h (suc n) d (omega arith)))

pub below_all : (set : Set) (refused : JobId → Bool) (es : List Entry) (s : State) → IsCompiled set → Counted set refused es s → length es < 2 ^ 42
below_all set refused es s ok c =
    let b = sum_bound (λ n. (plans_of s n).number) (2 ^ 32 - 1) (length set.txns) (λ n. c.plannings.few n) in
    let m : length set.txns * (2 ^ 32 - 1) ≤ 64 * (2 ^ 32 - 1) = mul-le-mul_right (2 ^ 32 - 1) ok.few_txns in
    omega (arith, c.rooms.pace, c.now, c.plannings.limit, greatest_bound set.txns ok.times, b, m)
