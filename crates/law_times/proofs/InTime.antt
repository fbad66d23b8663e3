-- Every legal history keeps the window of a transaction whose response exists, so its jobs end in time: by induction
-- on the entries.
use Rattle.std.proofs.Common.{◌≡◌, ◌≢◌, ℕ, ◌+◌, ◌*◌, ◌<◌, ◌≤◌, ◌==◌, Bool, true, false, cond, List, [], ◌∷◌, ◌++◌, length, map, Option, None, Some, set as with_item, refl, ap, sym, ◌∙◌, subst, inl, inr, arith, get_or-set_same, get_or-set_other, zero-mul}
use Rattle.std.proofs.lemmas.Bool.{cases_eq, cases_lt, eqb-true}
use Rattle.std.specs.Option.{option_map, option_and_then}
use Rattle.rt_base.specs.declared.ids.JobId.{JobId}
use Rattle.rt_base.specs.declared.operation.Op.{Op}
use Rattle.rt_base.specs.declared.operation.Op.TheVariants.{Commit, Quit}
use Rattle.rt_base.specs.declared.operation.End.{End}
use Rattle.rt_base.specs.declared.operation.End.TheVariants as end
use Rattle.step_journal.specs.declared.entry.Entry.{Entry}
use Rattle.step_journal.specs.declared.entry.Entry.TheVariants.{Planned, Step, Idle}
use Rattle.txn_set.specs.Set.{Set, txn_of, IsCompiled}
use Rattle.item_model.specs.Work.{outcome_of, judged, verdict}
use Rattle.item_model.specs.declared.stored.OutsideRead.{OutsideRead}
use Rattle.step_journal.specs.State.{State, Row, pending, same_job, opening}
use Rattle.rt_base.specs.declared.release.Plans.{Plans}
use Rattle.rt_base.specs.declared.release.Release.{Release}
use Rattle.step_journal.specs.LockRule.{Above}
use Rattle.step_journal.specs.Running.{running, of_job}
use Rattle.step_journal.specs.Instant.{with_row, with_end, arrived}
use Rattle.step_journal.specs.Step.{Event, plan, ask, idle, given, plans_of, may_plan, next_job, with_plan, may_ask, lock_refusal, row_after, end_by, settled, after_effect, with_step, end_of, with_wait, answered, asked, next_tick, idled, step}
use Rattle.step_journal.specs.History.{event_of, state_given, entry_given, state_after, states_after, IsLegalFrom, IsLegal, state_of}
use Rattle.law_histories.proofs.Members.{In, in_pending}
use Rattle.law_histories.proofs.Invariant.{IsPending, Runs, running_is, in_range, written}
use Rattle.law_histories.proofs.Holding.{append_in}
use Rattle.law_histories.proofs.Ends.{rows_without, left}
use Rattle.law_histories.proofs.Calendar.{Sound, named_from}
use Rattle.law_histories.proofs.Histories.{settled_sound, idle_early, arrived_now, MayPlan, may_plan_is, wait_now, plan_now}
use Rattle.law_histories.proofs.Never.{refused_after, step_goes, entry_goes, opening_sound, nothing_at}
use Rattle.law_histories.proofs.Conflict.{IsDeclared, row_declared}
use Rattle.law_histories.proofs.Serials.{Serial}
use Rattle.law_histories.proofs.SerialAll.{step_carries, entry_carries, opening_serial}
use Rattle.law_histories.proofs.DelayAll.{Delay, step_slows, settled_delay, entry_slows, opening_delay}
use Rattle.law_times.specs.Response.{HoldsDemand}
use Rattle.law_times.proofs.Load.{todo, pend_written, pend_none}
use Rattle.law_times.proofs.Demand.{level, period_at}
use Rattle.law_times.proofs.Window.{Window, notes_at, fresh_window, window_like, window_noted, window_release}
use Rattle.law_times.proofs.Effect.{step_goes_on, step_ends, blocked_few, effect_window}
use Rattle.law_times.proofs.Arrival.{over_more, Timely, arrived_timely}

-- no step ends a job late

judged_in_time : (r : Option OutsideRead) (p : Option (OutsideRead × OutsideRead)) → judged r p ≢ end.Late
judged_in_time (Some r) p h = cc
judged_in_time None (Some p) h = cc
judged_in_time None None h = cc

verdict_in_time : (set : Set) (x : Row) (t : ℕ) → verdict set.items set.together (txn_of set x.job.tx.0).reads x.work t ≢ end.Late
unfolding verdict
verdict_in_time set x t = judged_in_time _ _

given_in_time : (b : Bool) (e : End) → given b end.Overrun ≡ Some e → e ≢ end.Late
given_in_time true e h late = let is : end.Overrun ≡ e = cc in cc
given_in_time false e h late = absurd cc

end_in_time : (set : Set) (x : Row) (t : ℕ) (op : Op) (e : End) → end_by set x t op ≡ Some e → e ≡ end.Late → ⊥
end_in_time set x t Commit e h late = let is : verdict set.items set.together (txn_of set x.job.tx.0).reads x.work t ≡ e = cc in verdict_in_time set x t (is ∙ late)
end_in_time set x t Quit e h late = let is : end.Quit ≡ e = cc in cc
end_in_time set x t other e h late = given_in_time (x.used == (txn_of set x.job.tx.0).steps) e h late

-- the effect of a granted step

module _ (set : Set) (tx r : ℕ) (ok : IsCompiled set) (holds : HoldsDemand set tx r) (refused : JobId → Bool) (s : State) (sound : Sound set refused (s.now + 1) s) (es es' : List Entry) (serial : Serial set es s) (delay : Delay set es s.now s) (h : Timely set tx r s.now s)
    (x : Row) (op : Op) (run : Runs set s.rows refused x) (may : may_ask set x op ≡ true) where
  own_in_time : x.job.tx.0 ≡ tx → s.now + 1 ≤ x.release + r
  own_in_time own = let since : h.window.start ≤ x.release = h.window.since x run.here (omega (arith, ap (level set) own)) in omega (arith, since, h.window.within)

  goes_declared : (y : Row) → IsPending (with_item s.rows x.job.tx.0 (Some (row_after s x op))) y → IsDeclared set y
  goes_declared y i = elim (written s.rows x.job.tx.0 (row_after s x op) y (in_range s.rows _ x run.here) refl i) [
    | inl e ↦ subst (IsDeclared set) (sym e) (row_declared set s x op (serial.declared x run.here) may)
    | inr o ↦ serial.declared y o.1
  ]

  ends_declared : (y : Row) → IsPending (rows_without s.rows x.job) y → IsDeclared set y
  ends_declared y i = let l = left s.rows x.job y i in let d = serial.declared l.was l.here in subst (IsDeclared set) (sym l.is) (record { reads = d.reads; writes = d.writes })

  pub settled_timely : (o : Option End) → end_by set (row_after s x op) (s.now + 1) op ≡ o → Sound set refused (s.now + 1) (settled set (row_after s x op) (s.now + 1) o s) → Delay set es' (s.now + 1) (settled set (row_after s x op) (s.now + 1) o s)
      → Timely set tx r (s.now + 1) (settled set (row_after s x op) (s.now + 1) o s)
  unfolding with_end
  settled_timely None e after d = record {
    window = effect_window set tx r s.now s.rows (with_item s.rows x.job.tx.0 (Some (row_after s x op))) s.planned s.plans refused x ok holds sound.frame.count (named_from set s.rows ok sound.frame) sound.protocol run (delay.used x run.here) h.window
        (step_goes_on set (level set tx) s.rows x (row_after s x op) sound.frame.count run.here (record { job = refl; release = refl; used = refl }) (delay.used x run.here))
        after.frame.count d.used (blocked_few set (level set tx) (with_item s.rows x.job.tx.0 (Some (row_after s x op))) after.frame.count goes_declared d.quiet) sound.calendar.future;
    over = h.over;
  }
  settled_timely (Some e) is after d = record {
    window = effect_window set tx r s.now s.rows (rows_without s.rows x.job) s.planned s.plans refused x ok holds sound.frame.count (named_from set s.rows ok sound.frame) sound.protocol run (delay.used x run.here) h.window
        (step_ends set (level set tx) s.rows x sound.frame.count run.here (delay.used x run.here))
        after.frame.count d.used (blocked_few set (level set tx) (rows_without s.rows x.job) after.frame.count ends_declared d.quiet) sound.calendar.future;
    over = over_more tx r s.ended (record { job = x.job; release = x.release; end = e; tick = s.now + 1 }) h.over (λ own. (own_in_time own, end_in_time set (row_after s x op) (s.now + 1) op e is));
  }

-- a refused request

wait_timely : (set : Set) (tx r : ℕ) (s : State) (x : Row) (j : JobId) → length s.rows ≡ length set.txns → IsPending s.rows x → Timely set tx r s.now s → Timely set tx r s.now (with_wait s x j)
unfolding with_wait
wait_timely set tx r s x j size here h =
    let lt : x.job.tx.0 < length s.rows = in_range s.rows _ x here in
    let y : Row = record x { waits_on = Some j } in
    let p = pend_written set (level set tx) s.rows x.job.tx.0 (record x { waits_on = Some j }) (omega (arith, lt, size)) lt in
    let was = ap (todo set (level set tx)) here in
    record {
      window = window_like set tx r s.now s.rows (with_item s.rows x.job.tx.0 (Some (record x { waits_on = Some j }))) s.planned s.plans h.window
          (λ z i. elim (written s.rows x.job.tx.0 (record x { waits_on = Some j }) z lt refl i) [
            | inl e ↦ record { was = x; here = here; job = ap (λ (q : Row). q.job) e; release = ap (λ (q : Row). q.release) e; used = ap (λ (q : Row). q.used) e; work = ap (λ (q : Row). q.work) e }
            | inr o ↦ record { was = z; here = o.1; job = refl; release = refl; used = refl; work = refl }
          ])
          (omega (arith, p, was));
      over = h.over;
    }

-- a plan

module _ (set : Set) (tx r : ℕ) (refused : JobId → Bool) (s : State) (n tick : ℕ) (sound : Sound set refused (s.now + 1) s) (may : MayPlan set s n tick) (h : Timely set tx r s.now s) where
  noted : Plans
  noted = record { number = (plans_of s n).number + 1; last = tick }

  next_mark : h.window.start + h.window.count n * period_at set n ≤ tick
  next_mark = elim (cases_lt 0 (h.window.count n)) [
    | inl pos ↦ (let o = h.window.noted n pos in let g : (plans_of s n).last + (txn_of set n).period ≤ tick = may.gap o.0 in omega (arith, o.1, g))
    | inr none ↦ (let e : h.window.count n ≡ 0 = omega arith in let m : h.window.count n * period_at set n ≡ 0 = ap (λ (c : ℕ). c * period_at set n) e ∙ zero-mul (period_at set n) in omega (arith, m, h.window.begun, may.now))
  ]

  here : notes_at (with_item s.plans n noted) n ≡ noted
  here = get_or-set_same s.plans n noted (record { number = 0; last = 0 }) (omega (arith, may.in_set, sound.calendar.plans_count))

  more : (m : ℕ) → 0 < (notes_at s.plans m).number → (0 < (notes_at (with_item s.plans n noted) m).number) × ((notes_at s.plans m).last ≤ (notes_at (with_item s.plans n noted) m).last)
  unfolding noted
  more m pos = elim (cases_eq m n) [
    | inl e ↦ (let was : notes_at s.plans m ≡ notes_at s.plans n = ap (notes_at s.plans) e in
        let at : notes_at (with_item s.plans n noted) m ≡ noted = ap (notes_at (with_item s.plans n noted)) e ∙ here in
        let g : (plans_of s n).last + (txn_of set n).period ≤ tick = may.gap (omega (arith, pos, ap (λ (p : Plans). p.number) was)) in
        (omega (arith, ap (λ (p : Plans). p.number) at), omega (arith, g, ap (λ (p : Plans). p.last) was, ap (λ (p : Plans). p.last) at)))
    | inr ne ↦ (let at : notes_at (with_item s.plans n noted) m ≡ notes_at s.plans m = get_or-set_other s.plans n m noted (record { number = 0; last = 0 }) ne in
        (omega (arith, pos, ap (λ (p : Plans). p.number) at), omega (arith, ap (λ (p : Plans). p.last) at)))
  ]

  later_spaced : (q : Release) → In q (s.planned ++ record { job = next_job s n; tick = tick } ∷ []) → h.window.start + h.window.count q.job.tx.0 * period_at set q.job.tx.0 ≤ q.tick
  later_spaced q i = elim (append_in q s.planned (record { job = next_job s n; tick = tick } ∷ []) i) [
    | inl old ↦ h.window.spaced q old
    | inr new ↦ elim new [
      | inl e ↦ (let m : h.window.count q.job.tx.0 * period_at set q.job.tx.0 ≡ h.window.count n * period_at set n = ap (λ (k : Release). h.window.count k.job.tx.0 * period_at set k.job.tx.0) e in omega (arith, next_mark, m, ap (λ (k : Release). k.tick) e))
      | inr none ↦ absurd none
    ]
  ]

  -- no release of the transaction is planned where the new one is for the present tick
  none_planned : tick ≡ s.now → (q : Release) → In q s.planned → q.job.tx.0 ≡ n → ⊥
  none_planned now q i e =
      let o = sound.calendar.planned q i in
      let same : plans_of s q.job.tx.0 ≡ plans_of s n = ap (plans_of s) e in
      let g : (plans_of s n).last + (txn_of set n).period ≤ tick = may.gap (omega (arith, o.1, ap (λ (p : Plans). p.number) same)) in
      omega (arith, o.0, g, ap (λ (p : Plans). p.last) same, now, sound.calendar.future q i)

  at_once : tick ≡ s.now → Window set tx r s.now (with_row tick s.rows (next_job s n)) s.planned (with_item s.plans n noted)
  unfolding noted
  at_once now =
      let a = window_release set tx r s.now s.rows s.planned s.planned s.plans (with_item s.plans n noted) (next_job s n) h.window may.in_set sound.frame.count (omega (arith, next_mark, now))
      (omega (arith, ap (λ (p : Plans). p.number) here), omega (arith, ap (λ (p : Plans). p.last) here, now)) more
      (λ q i. (i, λ e. absurd (none_planned now q i e))) in
      subst (λ (k : ℕ). Window set tx r s.now (with_row k s.rows (next_job s n)) s.planned (with_item s.plans n noted)) (sym now) a

  plan_at : (b : Bool) → (tick == s.now) ≡ b → Window set tx r s.now (cond b (with_row tick s.rows (next_job s n)) s.rows) (cond b s.planned (s.planned ++ record { job = next_job s n; tick = tick } ∷ [])) (with_item s.plans n noted)
  plan_at true e = at_once (eqb-true _ _ e)
  plan_at false e = window_noted set tx r s.now s.rows s.planned (s.planned ++ record { job = next_job s n; tick = tick } ∷ []) s.plans (with_item s.plans n noted) h.window later_spaced more

  pub plan_timely : Timely set tx r s.now (with_plan s n tick)
  unfolding with_plan noted
  plan_timely = record { window = plan_at (tick == s.now) refl; over = h.over }

-- the events

abbrev pub Times : Set → ℕ → ℕ → Option (Entry × State) → Type 0
Times set tx r None = Unit {0}
Times set tx r (Some p) = Timely set tx r p.1.now p.1

times_given : (set : Set) (tx r : ℕ) (b : Bool) (p : Entry × State) → (b ≡ true → Times set tx r (Some p)) → Times set tx r (given b p)
times_given set tx r true p h = h refl
times_given set tx r false p h = tt

at_now : (set : Set) (tx r t : ℕ) (s : State) → Timely set tx r t (arrived set t s) → Timely set tx r (arrived set t s).now (arrived set t s)
at_now set tx r t s h = subst (λ (n : ℕ). Timely set tx r n (arrived set t s)) (sym (arrived_now set t s)) h

module _ (set : Set) (tx r : ℕ) (ok : IsCompiled set) (holds : HoldsDemand set tx r) (refused : JobId → Bool) (s : State) (sound : Sound set refused (s.now + 1) s) (es : List Entry) (serial : Serial set es s) (delay : Delay set es s.now s) (h : Timely set tx r s.now s) where
  answered_times : (x : Row) (op : Op) (o : Option Above) → Runs set s.rows refused x → may_ask set x op ≡ true → lock_refusal set s x op ≡ o → Times set tx r (Some (answered set s x op o))
  unfolding with_step after_effect
  answered_times x op None run may e =
      let over = end_of (with_step set s x op) x.job in
      let state : State = settled set (row_after s x op) (s.now + 1) (end_by set (row_after s x op) (s.now + 1) op) s in
      let a : Sound set refused (s.now + 1) state = settled_sound set refused (s.now + 1) s x op (end_by set (row_after s x op) (s.now + 1) op) ok sound run e in
      let b : Delay set (es ++ Step x.job op (outcome_of s.items x.work op) over s.now ∷ []) (s.now + 1) state = settled_delay set es s x op over refused ok sound run may serial delay (end_by set (row_after s x op) (s.now + 1) op) refl in
      let c : Timely set tx r (s.now + 1) state = settled_timely set tx r ok holds refused s sound es (es ++ Step x.job op (outcome_of s.items x.work op) over s.now ∷ []) serial delay h x op run may (end_by set (row_after s x op) (s.now + 1) op) refl a b in
      at_now set tx r (s.now + 1) state (arrived_timely set tx r refused (s.now + 1) state ok a holds c)
  answered_times x op (Some above) run may e =
      subst (λ (n : ℕ). Timely set tx r n (with_wait s x above.holder)) (sym (wait_now s x above.holder)) (wait_timely set tx r s x above.holder sound.frame.count run.here h)

  asked_times : (job : JobId) (op : Op) (x : Row) (b : Bool) → Runs set s.rows refused x → Times set tx r (option_and_then (asked set s op) (cond b (Some x) None))
  asked_times job op x true run = times_given set tx r (may_ask set x op) (answered set s x op (lock_refusal set s x op)) (λ may. answered_times x op (lock_refusal set s x op) run may refl)
  asked_times job op x false run = tt

  ask_times : (job : JobId) (op : Op) (o : Option Row) → running set s.rows ≡ o → Times set tx r (option_and_then (asked set s op) (option_and_then (of_job job) o))
  ask_times job op None e = tt
  ask_times job op (Some x) e = asked_times job op x (same_job x.job job) (running_is set s.rows refused x (named_from set s.rows ok sound.frame) sound.protocol e)

  -- where nothing is pending a new window begins
  idle_window : (t : ℕ) → pending s.rows ≡ [] → Sound set refused t s → Timely set tx r t s
  idle_window t none early =
      let nobody : (y : Row) → IsPending s.rows y → ⊥ = λ y i. subst (λ (l : List Row). In y l) none (in_pending s.rows y.job.tx.0 y i) in
      record {
        window = fresh_window set tx r t s.rows s.planned s.plans holds.positive (λ y i le. nobody y i) (pend_none set (level set tx) s.rows (λ n y i. subst (λ (l : List Row). In y l) none (in_pending s.rows n y i))) (λ y i lt le. absurd (nobody y i)) early.calendar.future;
        over = h.over;
      }

  idle_at : (o : Option ℕ) → pending s.rows ≡ [] → next_tick s.planned ≡ o → Times set tx r (option_map (λ t. (Idle s.now t, arrived set t s)) o)
  idle_at None none e = tt
  idle_at (Some t) none e =
      let early = idle_early set refused s t sound none e in
      at_now set tx r t s (arrived_timely set tx r refused t s ok early holds (idle_window t none early))

  idle_times : (rows : List Row) → pending s.rows ≡ rows → Times set tx r (idled set s rows)
  idle_times [] e = idle_at (next_tick s.planned) e refl
  idle_times (x ∷ rows) e = tt

  pub step_times : (event : Event) → Times set tx r (step set s event)
  unfolding step
  step_times (plan n tick) = times_given set tx r (may_plan set s n tick) (Planned (record { 0 = n }) tick, with_plan s n tick) (λ may.
      subst (λ (k : ℕ). Timely set tx r k (with_plan s n tick)) (sym (plan_now s n tick)) (plan_timely set tx r refused s n tick sound (may_plan_is set s n tick may) h))
  step_times (ask job op) = ask_times job op (running set s.rows) refl
  step_times idle = idle_times (pending s.rows) refl

-- whole histories

pub entry_times : (set : Set) (tx r : ℕ) (s : State) (entry : Entry) (o : Option (Entry × State)) → Times set tx r o → entry_given o ≡ Some entry → Timely set tx r (state_given s o).now (state_given s o)
entry_times set tx r s entry None c h = absurd cc
entry_times set tx r s entry (Some p) c h = c

history_times : (set : Set) (tx r : ℕ) (refused : JobId → Bool) (s : State) (es rest : List Entry) → IsCompiled set → HoldsDemand set tx r → Sound set refused (s.now + 1) s → Serial set es s → Delay set es s.now s → Timely set tx r s.now s → IsLegalFrom set s rest
    → Timely set tx r (states_after set s rest).now (states_after set s rest)
history_times set tx r refused s es [] ok holds sound serial delay h legal = h
history_times set tx r refused s es (e ∷ rest) ok holds sound serial delay h legal =
    let next = entry_times set tx r s e (step set s (event_of e)) (step_times set tx r ok holds refused s sound es serial delay h (event_of e)) legal.0 in
    let delay' = entry_slows set es s e (step set s (event_of e)) (step_slows set ok refused s sound es serial delay (event_of e)) legal.0 in
    let serial' = entry_carries set es s e (step set s (event_of e)) (step_carries set ok refused s sound es serial (event_of e)) legal.0 in
    let sound' = entry_goes set refused s e (step set s (event_of e)) (step_goes set ok refused s sound (event_of e)) legal.0 in
    history_times set tx r (refused_after refused e) (state_after set s e) (es ++ e ∷ []) rest ok holds sound'.0 serial' delay' next legal.1

pub opening_timely : (set : Set) (tx r : ℕ) → HoldsDemand set tx r → Timely set tx r (opening set).now (opening set)
unfolding opening
opening_timely set tx r holds = record {
  window = fresh_window set tx r 0 (map (λ t. None) set.txns) [] (map (λ t. record { number = 0; last = 0 }) set.txns) holds.positive (λ x i le. nothing_at set.txns x.job.tx.0 x i) (pend_none set (level set tx) (map (λ t. None) set.txns) (λ n x i. nothing_at set.txns n x i)) (λ y i lt le. absurd (nothing_at set.txns y.job.tx.0 y i)) (λ q i. absurd i);
  over = λ e i own. absurd i;
}

pub legal_timely : (set : Set) (tx r : ℕ) (entries : List Entry) → IsCompiled set → IsLegal set entries → HoldsDemand set tx r → Timely set tx r (state_of set entries).now (state_of set entries)
legal_timely set tx r entries ok legal holds = history_times set tx r (λ _. false) (opening set) [] entries ok holds (opening_sound set) (opening_serial set) (opening_delay set) (opening_timely set tx r holds) legal
