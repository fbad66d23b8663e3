-- Every legal history is serial, its pending jobs have been told what they would alone, no two of them conflict, and
-- an ended job has no row: by induction on the entries, with the invariant of serial replies.
use Rattle.std.proofs.Common.{◌≡◌, ◌≢◌, ◌⊎◌, ℕ, ◌+◌, ◌<◌, ◌≤◌, ◌==◌, Bool, true, false, cond, ◌||◌, List, [], ◌∷◌, ◌++◌, length, Option, None, Some, set as with_item, refl, ap, sym, ◌∙◌, subst, inl, inr, arith, get_or-set_same, get_or-set_other, append_assoc}
use Rattle.std.proofs.lemmas.List.{append-nil}
use Rattle.std.proofs.lemmas.Bool.{cases_eq, false_from_ne_true}
use Rattle.std.specs.Option.{option_map, option_and_then}
use Rattle.rt_base.specs.declared.ids.JobId.{JobId}
use Rattle.rt_base.specs.declared.operation.Op.{Op}
use Rattle.step_journal.specs.declared.entry.Entry.{Entry}
use Rattle.step_journal.specs.declared.entry.Entry.TheVariants.{Planned, Step, Blocked, Idle}
use Rattle.txn_set.specs.Set.{Set, IsCompiled}
use Rattle.item_model.specs.Work.{no_work, outcome_of, has_read, has_written}
use Rattle.step_journal.specs.State.{State, Row, same_job, new_row, pending, opening}
use Rattle.rt_base.specs.declared.release.Plans.{Plans}
use Rattle.rt_base.specs.declared.release.Release.{Release}
use Rattle.step_journal.specs.LockRule.{Above}
use Rattle.step_journal.specs.Running.{running, of_job, job_row}
use Rattle.step_journal.specs.Instant.{with_row, arrived}
use Rattle.step_journal.specs.Step.{Event, plan, ask, idle, given, plans_of, may_plan, next_job, with_plan, may_ask, lock_refusal, row_after, end_by, settled, after_effect, with_step, end_of, with_wait, answered, asked, next_tick, idled, step}
use Rattle.step_journal.specs.History.{event_of, state_given, entry_given, state_after, states_after, IsLegalFrom, IsLegal, state_of}
use Rattle.step_journal.specs.Serial.{ops_of, outcomes_of, work_alone, outcomes_alone, IsSerial}
use Rattle.law_histories.proofs.Invariant.{IsPending, Runs, running_is, job_row_is, in_range, written, same_row}
use Rattle.law_histories.proofs.Holding.{append_in}
use Rattle.law_histories.proofs.Calendar.{Sound, named_from}
use Rattle.law_histories.proofs.Histories.{may_plan_is, settled_sound, idle_early}
use Rattle.law_histories.proofs.Never.{waiter, refused_after, step_goes, refused_all, entry_goes, opening_sound, nothing_at, legal_sound}
use Rattle.law_histories.proofs.Serials.{IsUntouched, Serial, quiet_entry, rows_from}
use Rattle.law_histories.proofs.SerialSteps.{arrived_serial, settled_serial}
use Rattle.law_histories.proofs.Conflict.{conflict}
use Rattle.law_histories.proofs.Members.{In, in_at}
use Rattle.law_histories.specs.Protocol.{IsAloneSoFar, HoldsNothing}
use Rattle.step_journal.specs.declared.entry.EndedJob.{EndedJob}
use Rattle.std.specs.Prelude.{slice_get}

-- a plan

abbrev pub noted : State → ℕ → ℕ → Plans
noted s tx tick = record { number = (plans_of s tx).number + 1; last = tick }

abbrev planned_state : State → ℕ → ℕ → List Release → List (Option Row) → State
planned_state s tx tick planned rows = record s { plans = with_item s.plans tx (noted s tx tick); planned = planned; rows = rows }

module _ (set : Set) (refused : JobId → Bool) (t : ℕ) (s : State) (tx tick : ℕ) (sound : Sound set refused t s) (in_set : tx < length set.txns) (es : List Entry) (h : Serial set es s) where
  number_here : (planned : List Release) (rows : List (Option Row)) → (plans_of (planned_state s tx tick planned rows) tx).number ≡ (plans_of s tx).number + 1
  number_here planned rows = ap (λ (p : Plans). p.number) (get_or-set_same s.plans tx (noted s tx tick) (record { number = 0; last = 0 }) (omega (arith, in_set, sound.calendar.plans_count)))

  number_grows : (planned : List Release) (rows : List (Option Row)) (n : ℕ) → (plans_of s n).number ≤ (plans_of (planned_state s tx tick planned rows) n).number
  number_grows planned rows n = elim (cases_eq n tx) [
    | inl e ↦ omega (arith, number_here planned rows, ap (λ (k : ℕ). (plans_of s k).number) e, ap (λ (k : ℕ). (plans_of (planned_state s tx tick planned rows) k).number) e)
    | inr ne ↦ omega (arith, ap (λ (p : Plans). p.number) (get_or-set_other s.plans tx n (noted s tx tick) (record { number = 0; last = 0 }) ne))
  ]

  new_untouched : IsUntouched es (next_job s tx)
  new_untouched = h.future_new (next_job s tx) (omega arith)

  later_serial : Serial set es (planned_state s tx tick (s.planned ++ record { job = next_job s tx; tick = tick } ∷ []) s.rows)
  later_serial =
      let r : Release = record { job = next_job s tx; tick = tick } in
      record {
        declared = h.declared;
        done_row = h.done_row;
        rising = h.rising;
        done_plan = λ e q i j same. elim (append_in q s.planned (r ∷ []) j) [
          | inl old ↦ h.done_plan e q i old same
          | inr new ↦ elim new [ inl is ↦ omega (arith, h.done e i, ap (λ (k : ℕ). (plans_of s k).number) (same ∙ ap (λ (k : Release). k.job.tx.0) is), ap (λ (k : Release). k.job.serial) is) | inr none ↦ absurd none ]
        ];
        done = λ e i. omega (arith, h.done e i, number_grows (s.planned ++ r ∷ []) s.rows e.job.tx.0);
        alone = h.alone;
        planned_new = λ q j. elim (append_in q s.planned (r ∷ []) j) [ inl old ↦ h.planned_new q old | inr new ↦ elim new [ inl is ↦ subst (λ (k : Release). IsUntouched es k.job) (sym is) new_untouched | inr none ↦ absurd none ] ];
        future_new = λ j le. h.future_new j (omega (arith, le, number_grows (s.planned ++ r ∷ []) s.rows j.tx.0));
        items = h.items;
        outcomes = h.outcomes;
      }

  at_once_serial : Serial set es (planned_state s tx tick s.planned (with_row tick s.rows (next_job s tx)))
  at_once_serial =
      let lt : tx < length s.rows = omega (arith, in_set, sound.frame.count) in
      let rows : List (Option Row) = with_row tick s.rows (next_job s tx) in
      let case : (y : Row) → IsPending (with_row tick s.rows (next_job s tx)) y → (y ≡ new_row (next_job s tx) tick) ⊎ ((y.job.tx.0 ≢ tx) × IsPending s.rows y) = λ y i. written s.rows tx (new_row (next_job s tx) tick) y lt refl i in
      record {
        declared = λ y i. elim (case y i) [
          | inl e ↦ record {
            reads = λ n r. absurd (let f : has_read y.work n ≡ false = ap (λ (q : Row). has_read q.work n) e in cc (f, r));
            writes = λ n r. absurd (let f : has_written y.work n ≡ false = ap (λ (q : Row). has_written q.work n) e in cc (f, r));
          }
          | inr o ↦ h.declared y o.1
        ];
        done_row = λ e y i j same. elim (case y j) [
          | inl is ↦ omega (arith, h.done e i, ap (λ (k : ℕ). (plans_of s k).number) (same ∙ ap (λ (k : Row). k.job.tx.0) is), ap (λ (k : Row). k.job.serial) is)
          | inr o ↦ h.done_row e y i o.1 same
        ];
        done_plan = h.done_plan;
        rising = h.rising;
        done = λ e i. omega (arith, h.done e i, number_grows s.planned (with_row tick s.rows (next_job s tx)) e.job.tx.0);
        alone = λ y i. elim (case y i) [
          | inl e ↦ (let o : ops_of es y.job ≡ [] = ap (λ (q : Row). ops_of es q.job) e ∙ new_untouched.ops in
              record {
                work = ap (λ (q : Row). q.work) e ∙ ap (work_alone s.items no_work) (sym o);
                outcomes = ap (λ (q : Row). outcomes_of es q.job) e ∙ (new_untouched.outcomes ∙ ap (outcomes_alone s.items no_work) (sym o));
              })
          | inr o ↦ h.alone y o.1
        ];
        planned_new = h.planned_new;
        future_new = λ j le. h.future_new j (omega (arith, le, number_grows s.planned (with_row tick s.rows (next_job s tx)) j.tx.0));
        items = h.items;
        outcomes = h.outcomes;
      }

  plan_at : (b : Bool) → Serial set es (planned_state s tx tick (cond b s.planned (s.planned ++ record { job = next_job s tx; tick = tick } ∷ [])) (cond b (with_row tick s.rows (next_job s tx)) s.rows))
  plan_at true = at_once_serial
  plan_at false = later_serial

  pub plan_serial : Serial set es (with_plan s tx tick)
  unfolding with_plan
  plan_serial = plan_at (tick == s.now)

-- what a legal event gives

abbrev pub Carries : Set → List Entry → Option (Entry × State) → Type 0
Carries set es None = Unit {0}
Carries set es (Some p) = Serial set (es ++ p.0 ∷ []) p.1

carries_given : (set : Set) (es : List Entry) (b : Bool) (p : Entry × State) → (b ≡ true → Carries set es (Some p)) → Carries set es (given b p)
carries_given set es true p h = h refl
carries_given set es false p h = tt

wait_serial : (set : Set) (es : List Entry) (s : State) (x : Row) (j : JobId) → IsPending s.rows x → Serial set es s → Serial set es (with_wait s x j)
unfolding with_wait
wait_serial set es s x j here h = rows_from set es s (with_item s.rows x.job.tx.0 (Some (record x { waits_on = Some j }))) (λ y i.
    elim (written s.rows x.job.tx.0 (record x { waits_on = Some j }) y (in_range s.rows _ x here) refl i) [
      | inl e ↦ record { was = x; here = here; job = ap (λ (q : Row). q.job) e; work = ap (λ (q : Row). q.work) e }
      | inr o ↦ record { was = y; here = o.1; job = refl; work = refl }
    ]) h

module _ (set : Set) (ok : IsCompiled set) (refused : JobId → Bool) (s : State) (sound : Sound set refused (s.now + 1) s) (es : List Entry) (h : Serial set es s) where
  answered_carries : (x : Row) (op : Op) (o : Option Above) → Runs set s.rows refused x → may_ask set x op ≡ true → lock_refusal set s x op ≡ o → Carries set es (Some (answered set s x op o))
  unfolding with_step after_effect
  answered_carries x op None run may e =
      let over = end_of (with_step set s x op) x.job in
      let state : State = settled set (row_after s x op) (s.now + 1) (end_by set (row_after s x op) (s.now + 1) op) s in
      let a : Sound set refused (s.now + 1) state = settled_sound set refused (s.now + 1) s x op (end_by set (row_after s x op) (s.now + 1) op) ok sound run e in
      let b : Serial set (es ++ Step x.job op (outcome_of s.items x.work op) over s.now ∷ []) state = settled_serial set es s x op over refused (s.now + 1) ok sound run may e h (s.now + 1) (end_by set (row_after s x op) (s.now + 1) op) in
      arrived_serial set refused (s.now + 1) state ok a (es ++ Step x.job op (outcome_of s.items x.work op) over s.now ∷ []) b
  answered_carries x op (Some above) run may e = quiet_entry set es (Blocked x.job op above.holder above.ceiling s.now) (with_wait s x above.holder) (λ j. refl) (λ j. refl) (wait_serial set es s x above.holder run.here h)

  asked_carries : (job : JobId) (op : Op) (x : Row) (b : Bool) → Runs set s.rows refused x → Carries set es (option_and_then (asked set s op) (cond b (Some x) None))
  asked_carries job op x true run = carries_given set es (may_ask set x op) (answered set s x op (lock_refusal set s x op)) (λ may. answered_carries x op (lock_refusal set s x op) run may refl)
  asked_carries job op x false run = tt

  ask_carries : (job : JobId) (op : Op) (o : Option Row) → running set s.rows ≡ o → Carries set es (option_and_then (asked set s op) (option_and_then (of_job job) o))
  ask_carries job op None e = tt
  ask_carries job op (Some x) e = asked_carries job op x (same_job x.job job) (running_is set s.rows refused x (named_from set s.rows ok sound.frame) sound.protocol e)

  idle_at : (o : Option ℕ) → pending s.rows ≡ [] → next_tick s.planned ≡ o → Carries set es (option_map (λ t. (Idle s.now t, arrived set t s)) o)
  idle_at None none e = tt
  idle_at (Some t) none e =
      quiet_entry set es (Idle s.now t) (arrived set t s) (λ j. refl) (λ j. refl) (arrived_serial set refused t s ok (idle_early set refused s t sound none e) es h)

  idle_carries : (rows : List Row) → pending s.rows ≡ rows → Carries set es (idled set s rows)
  idle_carries [] e = idle_at (next_tick s.planned) e refl
  idle_carries (r ∷ rs) e = tt

  pub step_carries : (event : Event) → Carries set es (step set s event)
  unfolding step
  step_carries (plan tx tick) = carries_given set es (may_plan set s tx tick) (Planned (record { 0 = tx }) tick, with_plan s tx tick) (λ may.
      quiet_entry set es (Planned (record { 0 = tx }) tick) (with_plan s tx tick) (λ j. refl) (λ j. refl) (plan_serial set refused (s.now + 1) s tx tick sound (may_plan_is set s tx tick may).in_set es h))
  step_carries (ask job op) = ask_carries job op (running set s.rows) refl
  step_carries idle = idle_carries (pending s.rows) refl

-- whole histories

pub entry_carries : (set : Set) (es : List Entry) (s : State) (entry : Entry) (o : Option (Entry × State)) → Carries set es o → entry_given o ≡ Some entry → Serial set (es ++ entry ∷ []) (state_given s o)
entry_carries set es s entry None c h = absurd cc
entry_carries set es s entry (Some p) c h = let e : p.0 ≡ entry = cc in subst (λ (q : Entry). Serial set (es ++ q ∷ []) p.1) e c

history_serial : (set : Set) (refused : JobId → Bool) (s : State) (es rest : List Entry) → IsCompiled set → Sound set refused (s.now + 1) s → Serial set es s → IsLegalFrom set s rest → Serial set (es ++ rest) (states_after set s rest)
history_serial set refused s es [] ok sound h legal = subst (λ (l : List Entry). Serial set l s) (sym (append-nil es)) h
history_serial set refused s es (e ∷ rest) ok sound h legal =
    let next = entry_carries set es s e (step set s (event_of e)) (step_carries set ok refused s sound es h (event_of e)) legal.0 in
    let sound' = entry_goes set refused s e (step set s (event_of e)) (step_goes set ok refused s sound (event_of e)) legal.0 in
    let whole = history_serial set (refused_after refused e) (state_after set s e) (es ++ e ∷ []) rest ok sound'.0 next legal.1 in
    subst (λ (l : List Entry). Serial set l (states_after set (state_after set s e) rest)) (append_assoc es (e ∷ []) rest) whole

pub opening_serial : (set : Set) → Serial set [] (opening set)
unfolding opening
opening_serial set = record {
  declared = λ x h. absurd (nothing_at set.txns x.job.tx.0 x h);
  done_row = λ e x i j same. absurd i;
  done_plan = λ e r i j same. absurd i;
  rising = tt;
  done = λ e i. absurd i;
  alone = λ x h. absurd (nothing_at set.txns x.job.tx.0 x h);
  planned_new = λ r i. absurd i;
  future_new = λ j le. record { ops = refl; outcomes = refl };
  items = refl;
  outcomes = refl;
}

pub legal_serial : (set : Set) (entries : List Entry) → IsCompiled set → IsLegal set entries → Serial set entries (state_of set entries)
legal_serial set entries ok legal = history_serial set (λ _. false) (opening set) [] entries ok (opening_sound set) (opening_serial set) legal

pub serial : (set : Set) (entries : List Entry) → IsCompiled set → IsLegal set entries → IsSerial set entries
serial set entries ok legal = let h = legal_serial set entries ok legal in record { outcomes = h.outcomes; items = h.items }

-- no two pending jobs touch an item that one of them wrote

pub no_conflict : (set : Set) (entries : List Entry) (a b : JobId) (x y : Row) (i : ℕ) → IsCompiled set → IsLegal set entries → job_row (state_of set entries).rows a ≡ Some x → job_row (state_of set entries).rows b ≡ Some y → a ≢ b
    → has_written x.work i ≡ true → (has_read y.work i || has_written y.work i) ≡ false
no_conflict set entries a b x y i ok legal hx hy ne wrote =
    let sound = legal_sound set entries ok legal in
    let h = legal_serial set entries ok legal in
    let px = job_row_is (state_of set entries).rows a x hx in
    let py = job_row_is (state_of set entries).rows b y hy in
    false_from_ne_true _ (λ touched.
    conflict set (state_of set entries).rows (refused_all (λ _. false) entries) x y i (named_from set (state_of set entries).rows ok sound.frame) sound.protocol (omega (arith, sound.frame.count)) px.0 py.0
    (λ e. ne (sym px.1 ∙ (ap (λ (q : Row). q.job) (same_row (state_of set entries).rows x y px.0 py.0 e) ∙ py.1))) (h.declared x px.0) (h.declared y py.0) wrote touched)

-- a pending job has been told what it would alone

pub pending_alone : (set : Set) (entries : List Entry) (job : JobId) (row : Row) → IsCompiled set → IsLegal set entries → job_row (state_of set entries).rows job ≡ Some row → IsAloneSoFar set entries row
pending_alone set entries job row ok legal h =
    let a = (legal_serial set entries ok legal).alone row (job_row_is (state_of set entries).rows job row h).0 in
    record { outcomes = a.outcomes; work = a.work }

-- an ended job has no row, and no row waits on it

none_by : (o : Option Row) → ((x : Row) → o ≡ Some x → ⊥) → o ≡ None
none_by None h = refl
none_by (Some x) h = absurd (h x refl)

pub ended_hold_nothing : (set : Set) (entries : List Entry) (n : ℕ) (ended : EndedJob) → IsCompiled set → IsLegal set entries → slice_get (state_of set entries).ended n ≡ Some ended
    → HoldsNothing (state_of set entries) ended.job
ended_hold_nothing set entries n ended ok legal at =
    let rows = (state_of set entries).rows in
    let i : In ended (state_of set entries).ended = in_at (state_of set entries).ended n ended at in
    let over : (x : Row) → IsPending rows x → x.job ≡ ended.job → ⊥ = λ x h e.
    let less : ended.job.serial < x.job.serial = (legal_serial set entries ok legal).done_row ended x i h (ap (λ (k : JobId). k.tx.0) (sym e)) in
    let same : x.job.serial ≡ ended.job.serial = ap (λ (k : JobId). k.serial) e in
    omega arith in
    record {
      no_row = none_by (job_row rows ended.job) (λ x h. let p = job_row_is rows ended.job x h in over x p.0 p.1);
      waits = λ other h. let w = waiter rows ended.job other (job_row rows ended.job) refl h in over w.0 w.1 w.2;
      waited_on = λ other h.
          let w = waiter rows other ended.job (job_row rows other) refl h in
          let b = (legal_sound set entries ok legal).protocol.wait_has_ceiling w.0 ended.job w.1 w.3 in
          over b.blocker b.here b.is;
    }
