-- What is known of every legal history: by induction on the entries.
use Rattle.std.proofs.Common.{◌≡◌, ◌⊎◌, ℕ, ◌+◌, ◌≤◌, ◌==◌, Bool, true, false, cond, List, [], ◌∷◌, ◌++◌, map, zero, suc, Option, None, Some, set as with_item, refl, ap, sym, ◌∙◌, subst, inl, inr, arith, append_assoc}
use Rattle.std.proofs.lemmas.List.{append-nil, length-map}
use Rattle.std.proofs.lemmas.Bool.{eqb-true, eq-eqb}
use Rattle.std.specs.List.{cons_option}
use Rattle.std.specs.Option.{option_map, option_and_then}
use Rattle.rt_base.specs.declared.ids.JobId.{JobId}
use Rattle.item_model.specs.declared.decl.ItemDecl.{ItemDecl}
use Rattle.rt_base.specs.declared.operation.Op.{Op}
use Rattle.step_journal.specs.declared.entry.Entry.{Entry}
use Rattle.step_journal.specs.declared.entry.Entry.TheVariants.{Planned, Step, Blocked, Idle}
use Rattle.txn_set.specs.Set.{Set, IsCompiled}
use Rattle.item_model.specs.Work.{stored_of, outcome_of}
use Rattle.item_model.specs.declared.stored.OutsideRead.{OutsideRead}
use Rattle.step_journal.specs.State.{State, Row, same_job, pending, opening}
use Rattle.rt_base.specs.declared.release.Release.{Release}
use Rattle.step_journal.specs.LockRule.{Above}
use Rattle.step_journal.specs.Running.{running, of_job}
use Rattle.step_journal.specs.Instant.{arrived}
use Rattle.step_journal.specs.Step.{Event, plan, ask, idle, given, may_plan, with_plan, may_ask, lock_refusal, row_after, end_by, settled, after_effect, with_step, end_of, with_wait, answered, asked, earlier, next_tick, idled, step}
use Rattle.step_journal.specs.History.{event_of, state_given, entry_given, state_after, states_after, IsLegalFrom, IsLegal, state_of}
use Rattle.step_journal.specs.Timing.{read_in, outside_reads_of, planned_tick_in}
use Rattle.law_histories.proofs.Members.{In}
use Rattle.law_histories.proofs.Invariant.{IsPending, Runs, running_is, in_range, written}
use Rattle.law_histories.proofs.Holding.{append_in, in_left, in_right}
use Rattle.law_histories.proofs.Calendar.{Sound, named_from}
use Rattle.law_histories.proofs.Histories.{may_plan_is, settled_sound, idle_early, arrived_now, plan_now}
use Rattle.law_histories.proofs.Never.{refused_after, step_goes, entry_goes, opening_sound, nothing_at}
use Rattle.law_histories.proofs.Serials.{Serial}
use Rattle.law_histories.proofs.SerialAll.{step_carries, entry_carries, opening_serial}
use Rattle.law_histories.proofs.Known.{Known, known_same, later_known, put_known}
use Rattle.law_histories.specs.Commits.{TimedRead, timed_in, timed_reads_of}
use Rattle.law_histories.proofs.Timed.{NoneSince, Timed, timed_more, untouched_none, timed_same, rows_timed, arrived_timed}
use Rattle.law_histories.proofs.TimedSteps.{plan_timed, settled_timed}
use Rattle.law_histories.proofs.SerialSteps.{settled_serial}
use Rattle.step_journal.specs.Step.{next_job}
use Rattle.law_histories.proofs.Arriving.{arrived_known}
use Rattle.law_histories.proofs.Settling.{planned_in, reads_more, ticks_more, settled_known}
use Rattle.law_histories.proofs.Planning.{Adds, plan_known}

-- what is known after these entries
pub record KnownOf (set : Set) (es : List Entry) (s : State) : Type 0 where
  pub known : Known set (outside_reads_of es) (planned_in es) s.now s
  pub timed : Timed set (timed_reads_of es) s

abbrev pub Tells : Set → List Entry → Option (Entry × State) → Type 0
Tells set es None = Unit {0}
Tells set es (Some p) = KnownOf set (es ++ p.0 ∷ []) p.1

tells_given : (set : Set) (es : List Entry) (b : Bool) (p : Entry × State) → (b ≡ true → Tells set es (Some p)) → Tells set es (given b p)
tells_given set es true p h = h refl
tells_given set es false p h = tt

-- an entry that is no step and no plan
quiet_known : (set : Set) (es : List Entry) (e : Entry) (s : State) → ((j : JobId) → read_in j e ≡ None) → ((j : JobId) → timed_in j e ≡ None) → ((tx : ℕ) → planned_tick_in tx e ≡ None) → Known set (outside_reads_of es) (planned_in es) s.now s → Timed set (timed_reads_of es) s
    → KnownOf set (es ++ e ∷ []) s
quiet_known set es e s noread notime noplan h timed =
    let times : (j : JobId) → timed_reads_of (es ++ e ∷ []) j ≡ timed_reads_of es j = λ j. timed_more es e j None (notime j) ∙ append-nil (timed_reads_of es j) in
    record {
      known = known_same set (outside_reads_of es) (outside_reads_of (es ++ e ∷ [])) (planned_in es) (planned_in (es ++ e ∷ [])) s.now s
          (λ w i. reads_more es e w.job None (noread w.job) ∙ append-nil (outside_reads_of es w.job))
          (λ tx. ticks_more es e tx None (noplan tx) ∙ append-nil (planned_in es tx)) h;
      timed = timed_same set (timed_reads_of es) (timed_reads_of (es ++ e ∷ [])) s (λ w i. times w.job) (λ x i. subst (λ (l : List TimedRead). NoneSince set l s.ended) (sym (times x.job)) (timed.row_last x i)) timed;
    }

wait_known : (set : Set) (reads : JobId → List OutsideRead) (ticks : ℕ → List ℕ) (s : State) (x : Row) (j : JobId) → IsPending s.rows x → Known set reads ticks s.now s → Known set reads ticks (with_wait s x j).now (with_wait s x j)
unfolding with_wait
wait_known set reads ticks s x j here h = put_known set reads ticks s.now s x (record x { waits_on = Some j }) here refl refl h

wait_timed : (set : Set) (times : JobId → List TimedRead) (s : State) (x : Row) (j : JobId) → IsPending s.rows x → Timed set times s → Timed set times (with_wait s x j)
unfolding with_wait
wait_timed set times s x j here h = rows_timed set times s (with_item s.rows x.job.tx.0 (Some (record x { waits_on = Some j })))
    (λ y i. elim (written s.rows x.job.tx.0 (record x { waits_on = Some j }) y (in_range s.rows _ x here) refl i) [
      | inl e ↦ record { was = x; here = here; job = ap (λ (q : Row). q.job) e; release = ap (λ (q : Row). q.release) e }
      | inr o ↦ record { was = y; here = o.1; job = refl; release = refl }
    ]) h

arrived_at_known : (set : Set) (refused : JobId → Bool) (t : ℕ) (s : State) (reads : JobId → List OutsideRead) (ticks : ℕ → List ℕ) → IsCompiled set → Sound set refused t s → Known set reads ticks t s → Known set reads ticks (arrived set t s).now (arrived set t s)
arrived_at_known set refused t s reads ticks ok sound h = subst (λ (n : ℕ). Known set reads ticks n (arrived set t s)) (sym (arrived_now set t s)) (arrived_known set refused t s ok sound reads ticks h)

-- a plan

adds_at : (es : List Entry) (tx tick u : ℕ) (b : Bool) → (tx == u) ≡ b → planned_in (es ++ Planned (record { 0 = tx }) tick ∷ []) u ≡ planned_in es u ++ cons_option (cond b (Some tick) None) []
adds_at es tx tick u b e = ticks_more es (Planned (record { 0 = tx }) tick) u (cond b (Some tick) None) (ap (λ (c : Bool). cond c (Some tick) None) e)

only_at : (es : List Entry) (tx tick u k : ℕ) (b : Bool) → (tx == u) ≡ b → In k (planned_in es u ++ cons_option (cond b (Some tick) None) []) → In k (planned_in es u) ⊎ ((tx ≡ u) × (tick ≡ k))
only_at es tx tick u k true e i = elim (append_in k (planned_in es u) (tick ∷ []) i) [ inl old ↦ inl old | inr n ↦ elim n [ inl is ↦ inr (eqb-true _ _ e, sym is) | inr none ↦ absurd none ] ]
only_at es tx tick u k false e i = elim (append_in k (planned_in es u) [] i) [ inl old ↦ inl old | inr none ↦ absurd none ]

plan_adds : (es : List Entry) (tx tick : ℕ) → Adds (planned_in es) (planned_in (es ++ Planned (record { 0 = tx }) tick ∷ [])) tx tick
plan_adds es tx tick = record {
  old = λ u k i. subst (λ (l : List ℕ). In k l) (sym (adds_at es tx tick u (tx == u) refl)) (in_left k (planned_in es u) (cons_option (cond (tx == u) (Some tick) None) []) i);
  new = subst (λ (l : List ℕ). In tick l) (sym (adds_at es tx tick tx true (eq-eqb tx tx refl))) (in_right tick (planned_in es tx) (tick ∷ []) (inl refl));
  only = λ u k i. only_at es tx tick u k (tx == u) refl (subst (λ (l : List ℕ). In k l) (adds_at es tx tick u (tx == u) refl) i);
}

plan_tells : (set : Set) (es : List Entry) (refused : JobId → Bool) (s : State) (tx tick : ℕ) → IsCompiled set → Sound set refused (s.now + 1) s → Serial set es s → may_plan set s tx tick ≡ true → KnownOf set es s → KnownOf set (es ++ Planned (record { 0 = tx }) tick ∷ []) (with_plan s tx tick)
plan_tells set es refused s tx tick ok sound serial may h =
    let longer : List Entry = es ++ Planned (record { 0 = tx }) tick ∷ [] in
    let plan = may_plan_is set s tx tick may in
    let k : Known set (outside_reads_of es) (planned_in longer) s.now (with_plan s tx tick) = plan_known set refused s tx tick ok sound plan (outside_reads_of es) (planned_in es) (planned_in longer) (plan_adds es tx tick) h.known in
    let m : Known set (outside_reads_of longer) (planned_in longer) s.now (with_plan s tx tick) =
    known_same set (outside_reads_of es) (outside_reads_of longer) (planned_in longer) (planned_in longer) s.now (with_plan s tx tick)
    (λ w i. reads_more es (Planned (record { 0 = tx }) tick) w.job None refl ∙ append-nil (outside_reads_of es w.job)) (λ u. refl) k in
    let times : (j : JobId) → timed_reads_of longer j ≡ timed_reads_of es j = λ j. timed_more es (Planned (record { 0 = tx }) tick) j None refl ∙ append-nil (timed_reads_of es j) in
    let q : Timed set (timed_reads_of es) (with_plan s tx tick) = plan_timed set refused s tx tick sound plan.in_set (timed_reads_of es) (untouched_none es (next_job s tx) (serial.future_new (next_job s tx) (omega arith))) h.timed in
    record {
      known = subst (λ (n : ℕ). Known set (outside_reads_of longer) (planned_in longer) n (with_plan s tx tick)) (sym (plan_now s tx tick)) m;
      timed = timed_same set (timed_reads_of es) (timed_reads_of longer) (with_plan s tx tick) (λ w i. times w.job) (λ x i. subst (λ (l : List TimedRead). NoneSince set l (with_plan s tx tick).ended) (sym (times x.job)) (q.row_last x i)) q;
    }

-- the least planned tick is not before one that bounds them all
next_at : (n k : ℕ) (o : Option ℕ) → n ≤ k → ((u : ℕ) → o ≡ Some u → n ≤ u) → n ≤ earlier k o
next_at n k None le h = le
next_at n k (Some u) le h = omega (arith, h u refl)

next_after : (rs : List Release) (n t : ℕ) → next_tick rs ≡ Some t → ((r : Release) → In r rs → n ≤ r.tick) → n ≤ t
next_after [] n t e h = absurd cc
next_after (r ∷ rs) n t e h =
    let is : earlier r.tick (next_tick rs) ≡ t = cc in
    omega (arith, is, next_at n r.tick (next_tick rs) (h r (inl refl)) (λ u f. next_after rs n u f (λ q i. h q (inr i))))

module _ (set : Set) (ok : IsCompiled set) (refused : JobId → Bool) (s : State) (sound : Sound set refused (s.now + 1) s) (es : List Entry) (serial : Serial set es s) (h : KnownOf set es s) where
  answered_tells : (x : Row) (op : Op) (o : Option Above) → Runs set s.rows refused x → may_ask set x op ≡ true → lock_refusal set s x op ≡ o → Tells set es (Some (answered set s x op o))
  unfolding with_step after_effect
  answered_tells x op None run may e =
      let over = end_of (with_step set s x op) x.job in
      let state : State = settled set (row_after s x op) (s.now + 1) (end_by set (row_after s x op) (s.now + 1) op) s in
      let longer : List Entry = es ++ Step x.job op (outcome_of s.items x.work op) over s.now ∷ [] in
      let a : Sound set refused (s.now + 1) state = settled_sound set refused (s.now + 1) s x op (end_by set (row_after s x op) (s.now + 1) op) ok sound run e in
      let b : Serial set longer state = settled_serial set es s x op over refused (s.now + 1) ok sound run may e serial (s.now + 1) (end_by set (row_after s x op) (s.now + 1) op) in
      let k : Known set (outside_reads_of longer) (planned_in longer) (s.now + 1) state = settled_known set es s x op over refused ok sound run may serial h.known in
      let q : Timed set (timed_reads_of longer) state = settled_timed set es s x op over refused ok sound run may serial h.known h.timed in
      record {
        known = arrived_at_known set refused (s.now + 1) state (outside_reads_of longer) (planned_in longer) ok a k;
        timed = arrived_timed set refused (s.now + 1) state ok a (timed_reads_of longer) (λ r i. untouched_none longer r.job (b.planned_new r i)) q;
      }
  answered_tells x op (Some above) run may e =
      quiet_known set es (Blocked x.job op above.holder above.ceiling s.now) (with_wait s x above.holder) (λ j. refl) (λ j. refl) (λ tx. refl)
      (wait_known set (outside_reads_of es) (planned_in es) s x above.holder run.here h.known) (wait_timed set (timed_reads_of es) s x above.holder run.here h.timed)

  asked_tells : (job : JobId) (op : Op) (x : Row) (b : Bool) → Runs set s.rows refused x → Tells set es (option_and_then (asked set s op) (cond b (Some x) None))
  asked_tells job op x true run = tells_given set es (may_ask set x op) (answered set s x op (lock_refusal set s x op)) (λ may. answered_tells x op (lock_refusal set s x op) run may refl)
  asked_tells job op x false run = tt

  ask_tells : (job : JobId) (op : Op) (o : Option Row) → running set s.rows ≡ o → Tells set es (option_and_then (asked set s op) (option_and_then (of_job job) o))
  ask_tells job op None e = tt
  ask_tells job op (Some x) e = asked_tells job op x (same_job x.job job) (running_is set s.rows refused x (named_from set s.rows ok sound.frame) sound.protocol e)

  idle_at : (o : Option ℕ) → pending s.rows ≡ [] → next_tick s.planned ≡ o → Tells set es (option_map (λ t. (Idle s.now t, arrived set t s)) o)
  idle_at None none e = tt
  idle_at (Some t) none e =
      let early : Sound set refused t s = idle_early set refused s t sound none e in
      let le : s.now + 1 ≤ t = next_after s.planned (s.now + 1) t e sound.calendar.future in
      quiet_known set es (Idle s.now t) (arrived set t s) (λ j. refl) (λ j. refl) (λ tx. refl)
      (arrived_at_known set refused t s (outside_reads_of es) (planned_in es) ok early (later_known set (outside_reads_of es) (planned_in es) s.now t s (omega arith) h.known))
      (arrived_timed set refused t s ok early (timed_reads_of es) (λ r i. untouched_none es r.job (serial.planned_new r i)) h.timed)

  idle_tells : (rows : List Row) → pending s.rows ≡ rows → Tells set es (idled set s rows)
  idle_tells [] e = idle_at (next_tick s.planned) e refl
  idle_tells (r ∷ rs) e = tt

  pub step_tells : (event : Event) → Tells set es (step set s event)
  unfolding step
  step_tells (plan tx tick) = tells_given set es (may_plan set s tx tick) (Planned (record { 0 = tx }) tick, with_plan s tx tick) (λ may. plan_tells set es refused s tx tick ok sound serial may h)
  step_tells (ask job op) = ask_tells job op (running set s.rows) refl
  step_tells idle = idle_tells (pending s.rows) refl

-- whole histories

pub entry_tells : (set : Set) (es : List Entry) (s : State) (entry : Entry) (o : Option (Entry × State)) → Tells set es o → entry_given o ≡ Some entry → KnownOf set (es ++ entry ∷ []) (state_given s o)
entry_tells set es s entry None c h = absurd cc
entry_tells set es s entry (Some p) c h = let e : p.0 ≡ entry = cc in subst (λ (q : Entry). KnownOf set (es ++ q ∷ []) p.1) e c

history_known : (set : Set) (refused : JobId → Bool) (s : State) (es rest : List Entry) → IsCompiled set → Sound set refused (s.now + 1) s → Serial set es s → KnownOf set es s → IsLegalFrom set s rest → KnownOf set (es ++ rest) (states_after set s rest)
history_known set refused s es [] ok sound serial h legal = subst (λ (l : List Entry). KnownOf set l s) (sym (append-nil es)) h
history_known set refused s es (e ∷ rest) ok sound serial h legal =
    let known = entry_tells set es s e (step set s (event_of e)) (step_tells set ok refused s sound es serial h (event_of e)) legal.0 in
    let next = entry_carries set es s e (step set s (event_of e)) (step_carries set ok refused s sound es serial (event_of e)) legal.0 in
    let sound' = entry_goes set refused s e (step set s (event_of e)) (step_goes set ok refused s sound (event_of e)) legal.0 in
    let whole = history_known set (refused_after refused e) (state_after set s e) (es ++ e ∷ []) rest ok sound'.0 next known legal.1 in
    subst (λ (l : List Entry). KnownOf set l (states_after set (state_after set s e) rest)) (append_assoc es (e ∷ []) rest) whole

opening_stamp : (ds : List ItemDecl) (i : ℕ) → (stored_of (map (λ d. record { value = d.initial; stamp = 0 }) ds) i).stamp ≡ 0
opening_stamp [] i = refl
opening_stamp (d ∷ ds) zero = refl
opening_stamp (d ∷ ds) (suc i) = opening_stamp ds i

pub opening_known : (set : Set) → KnownOf set [] (opening set)
unfolding opening
opening_known set = record {
  known = record {
    count = length-map set.items (λ d. record { value = d.initial; stamp = 0 });
    row_by = λ x h. absurd (nothing_at set.txns x.job.tx.0 x h);
    ended_by = λ e i. absurd i;
    released_by = λ e i. absurd i;
    done_row = λ e x i j same. absurd i;
    items = λ i tx d w. inl (λ v j. absurd j, opening_stamp set.items i);
    ends = tt;
    plan_row = λ x h. absurd (nothing_at set.txns x.job.tx.0 x h);
    plan_end = λ e i. absurd i;
    plan_next = λ r i. absurd i;
    placed = λ tx k i. absurd i;
  };
  timed = record { row_last = λ x h. absurd (nothing_at set.txns x.job.tx.0 x h); ends = tt };
}

pub legal_known : (set : Set) (entries : List Entry) → IsCompiled set → IsLegal set entries → KnownOf set entries (state_of set entries)
legal_known set entries ok legal = history_known set (λ _. false) (opening set) [] entries ok (opening_sound set) (opening_serial set) (opening_known set) legal
