-- In every legal history the steps of one lower job at most delay a job, no more than its blocking. By induction on
-- the entries: a lower job that steps while a job is pending already held a lock with a ceiling at least that
-- priority.
use Rattle.std.proofs.Common.{◌≡◌, ◌≢◌, ◌⊎◌, ℕ, ◌+◌, ◌<◌, ◌≤◌, ◌==◌, Bool, true, false, cond, ◌&&◌, List, [], ◌∷◌, ◌++◌, map, length, Option, None, Some, get_or, set as with_item, refl, ap, sym, ◌∙◌, subst, inl, inr, arith, get_or-set_same, append_assoc}
use Rattle.std.proofs.lemmas.List.{append-nil}
use Rattle.std.proofs.lemmas.List.Elements.{filter_map-append}
use Rattle.std.proofs.lemmas.Bool.{and_parts, leb-true, lt-ltb, le-ltb, lt-leb, eqb-true, eq-eqb}
use Rattle.std.specs.Prelude.{nat_lt, nat_le}
use Rattle.std.specs.Option.{option_map, option_and_then}
use Rattle.std.specs.List.{filter_map, cons_option, filter, fold, find}
use Rattle.rt_base.specs.declared.ids.JobId.{JobId}
use Rattle.rt_base.specs.declared.operation.Op.{Op}
use Rattle.rt_base.specs.declared.operation.Op.TheVariants.{Read, Write, Compute, Commit, Quit}
use Rattle.rt_base.specs.declared.operation.Outcome.{Outcome}
use Rattle.rt_base.specs.declared.operation.End.{End}
use Rattle.rt_base.specs.declared.operation.End.TheVariants as end
use Rattle.step_journal.specs.declared.entry.Entry.{Entry}
use Rattle.step_journal.specs.declared.entry.Entry.TheVariants.{Planned, Step, Blocked, Idle}
use Rattle.txn_set.specs.Set.{Set, no_txn, txn_of, may_read, may_write, IsCompiled}
use Rattle.txn_set.specs.Ceilings.{greatest}
use Rattle.item_model.specs.Work.{Work, outcome_of, items_after, work_after}
use Rattle.item_model.specs.declared.stored.Stored.{Stored}
use Rattle.step_journal.specs.State.{State, Row, prio, prio_of, same_job, new_row, pending, opening}
use Rattle.rt_base.specs.declared.release.Plans.{Plans}
use Rattle.rt_base.specs.declared.release.Release.{Release}
use Rattle.step_journal.specs.declared.entry.EndedJob.{EndedJob}
use Rattle.step_journal.specs.LockRule.{Above, locks, lock_ceiling, ceiling_of, in_falling_priority}
use Rattle.step_journal.specs.Running.{running, of_job, job_row}
use Rattle.step_journal.specs.Instant.{freed, with_row, with_end, with_late, is_due, with_cancellations, with_releases, arrived}
use Rattle.step_journal.specs.Step.{Event, plan, ask, idle, given, may_plan, next_job, with_plan, may_ask, lock_refusal, row_after, end_by, settled, after_effect, with_step, end_of, with_wait, answered, asked, earlier, next_tick, idled, step}
use Rattle.step_journal.specs.History.{event_of, state_given, entry_given, state_after, states_after, IsLegalFrom, IsLegal, state_of}
use Rattle.step_journal.specs.Timing.{Span, delayer_in, delayers_within, pending_span, ended_span, delayers}
use Rattle.txn_set.specs.Ceilings.{blocking}
use Rattle.law_histories.specs.Protocol.{DelayedByOne}
use Rattle.law_histories.proofs.Members.{in_at, In, pending_in, filter_in}
use Rattle.law_histories.proofs.Invariant.{IsPending, is_any, Runs, running_is, in_range, same_job_is, written, written_other, holder_from_ceiling, job_row_is}
use Rattle.law_histories.proofs.Holding.{append_in}
use Rattle.law_histories.proofs.Ends.{rows_without, left, stays}
use Rattle.law_histories.proofs.Calendar.{Frame, Sound, sorted_in, named_from, late_rows, after_cancelled, due, after_due, frame_with}
use Rattle.law_histories.proofs.Histories.{settled_sound, idle_early, arrived_now, may_plan_is, wait_now}
use Rattle.law_histories.proofs.Never.{refused_after, step_goes, entry_goes, opening_sound, nothing_at}
use Rattle.law_histories.proofs.Serials.{Serial}
use Rattle.law_histories.proofs.SerialSteps.{AreDistinct, distinct_pending, distinct_filter, distinct_sorted}
use Rattle.law_histories.proofs.SerialAll.{step_carries, entry_carries, opening_serial}
use Rattle.law_histories.proofs.Delays.{since_in, steps_since, IsOne, IsDelayed, step_delays}
use Rattle.law_histories.proofs.Lists.{find_some}

-- the step of an entry was made before a tick
abbrev pub IsPast : ℕ → Entry → Type 0
IsPast t (Step by op outcome over tick) = tick < t
IsPast t (Planned tx tick) = Unit {0}
IsPast t (Blocked by op on ceiling tick) = Unit {0}
IsPast t (Idle a b) = Unit {0}

abbrev pub AllPast : ℕ → List Entry → Type 0
AllPast t [] = Unit {0}
AllPast t (e ∷ es) = IsPast t e × AllPast t es

pub past_later : (t u : ℕ) (e : Entry) → t ≤ u → IsPast t e → IsPast u e
past_later t u (Step by op outcome over tick) le h = omega arith
past_later t u other le h = tt

pub all_later : (t u : ℕ) (es : List Entry) → t ≤ u → AllPast t es → AllPast u es
all_later t u [] le h = tt
all_later t u (e ∷ es) le h = (past_later t u e le h.0, all_later t u es le h.1)

all_more : (t : ℕ) (es : List Entry) (e : Entry) → AllPast t es → IsPast t e → AllPast t (es ++ e ∷ [])
all_more t [] e h p = (p, tt)
all_more t (x ∷ es) e h p = (h.0, all_more t es e h.1 p)

abbrev pub span : ℕ → ℕ → Span
span from to = record { from = from; to = to }

pub and_true : (b c : Bool) → c ≡ true → (b && c) ≡ b
and_true true c h = h
and_true false c h = refl

pub and_false : (b c : Bool) → c ≡ false → (b && c) ≡ false
and_false true c h = h
and_false false c h = refl

-- up to a tick that all entries precede, the delaying steps are those since the release
pub same_in : (set : Set) (job : JobId) (from to : ℕ) (e : Entry) → IsPast to e → delayer_in set job (span from to) e ≡ since_in set job from e
same_in set job from to (Step by op outcome over tick) h = ap (λ (b : Bool). cond b (Some by) None) (and_true (nat_lt (prio_of set by) (prio_of set job) && nat_le from tick) (nat_lt tick to) (lt-ltb _ _ h))
same_in set job from to other h = refl

within_since : (set : Set) (job : JobId) (from to : ℕ) (es : List Entry) → AllPast to es → filter_map (delayer_in set job (span from to)) es ≡ steps_since set es job from
within_since set job from to [] h = refl
within_since set job from to (e ∷ es) h =
    ap (λ (o : Option JobId). cons_option o (filter_map (delayer_in set job (span from to)) es)) (same_in set job from to e h.0) ∙ ap (cons_option (since_in set job from e)) (within_since set job from to es h.1)

-- no entry before the release counts
pub none_in : (set : Set) (job : JobId) (from : ℕ) (e : Entry) → IsPast from e → since_in set job from e ≡ None
none_in set job from (Step by op outcome over tick) h = ap (λ (b : Bool). cond b (Some by) None) (and_false (nat_lt (prio_of set by) (prio_of set job)) (nat_le from tick) (lt-leb _ _ h))
none_in set job from other h = refl

pub none_since : (set : Set) (job : JobId) (from : ℕ) (es : List Entry) → AllPast from es → steps_since set es job from ≡ []
none_since set job from [] h = refl
none_since set job from (e ∷ es) h = ap (λ (o : Option JobId). cons_option o (steps_since set es job from)) (none_in set job from e h.0) ∙ none_since set job from es h.1

-- a later entry does not count for a job that ended
pub late_in : (set : Set) (job : JobId) (from to : ℕ) (by : JobId) (op : Op) (outcome : Outcome) (over : Option End) (tick : ℕ) → to ≤ tick → delayer_in set job (span from to) (Step by op outcome over tick) ≡ None
late_in set job from to by op outcome over tick h = ap (λ (b : Bool). cond b (Some by) None) (and_false (nat_lt (prio_of set by) (prio_of set job) && nat_le from tick) (nat_lt tick to) (le-ltb _ _ h))

pub record IsDone (set : Set) (es : List Entry) (t : ℕ) (e : EndedJob) : Type 0 where
  pub tick : e.tick ≤ t
  pub is_one : IsOne set e.job (filter_map (delayer_in set e.job (span e.release e.tick)) es)

pub record Delay (set : Set) (es : List Entry) (t : ℕ) (s : State) : Type 0 where
  pub past : AllPast t es
  pub used : (x : Row) → IsPending s.rows x → x.used < (txn_of set x.job.tx.0).steps
  pub quiet : (x : Row) → IsPending s.rows x → is_any (locks x.work) ≡ true → (txn_of set x.job.tx.0).quiet < x.used
  pub since : (x : Row) → IsPending s.rows x → x.release ≤ t
  pub each : (x : Row) → IsPending s.rows x → IsDelayed set es s.rows x
  pub done : (e : EndedJob) → In e s.ended → IsDone set es t e

delay_later : (set : Set) (es : List Entry) (t u : ℕ) (s : State) → t ≤ u → Delay set es t s → Delay set es u s
delay_later set es t u s le h = record {
  past = all_later t u es le h.past;
  used = h.used;
  quiet = h.quiet;
  since = λ x i. let a = h.since x i in omega arith;
  each = h.each;
  done = λ e i. let d = h.done e i in let a : e.tick ≤ t = d.tick in record { tick = omega arith; is_one = d.is_one };
}

-- an entry that is no step

one_same : (set : Set) (job : JobId) (ds ds' : List JobId) → ds' ≡ ds → IsOne set job ds → IsOne set job ds'
one_same set job ds ds' e h = subst (IsOne set job) (sym e) h

delayed_same : (set : Set) (es es' : List Entry) (rows : List (Option Row)) (x : Row) → steps_since set es' x.job x.release ≡ steps_since set es x.job x.release → IsDelayed set es rows x → IsDelayed set es' rows x
delayed_same set es es' rows x e h = record {
  is_one = one_same set x.job _ _ e h.is_one;
  same = λ d y i. h.same d y (subst (λ (l : List JobId). In d l) e i);
  behind = λ y hy lt le. omega (arith, h.behind y hy lt le, ap (λ (l : List JobId). length l) e);
}

quiet_delay : (set : Set) (es : List Entry) (t : ℕ) (s : State) (e : Entry) → ((j : JobId) (n : ℕ) → since_in set j n e ≡ None) → ((j : JobId) (p : Span) → delayer_in set j p e ≡ None) → IsPast t e → Delay set es t s → Delay set (es ++ e ∷ []) t s
quiet_delay set es t s e a b p h = record {
  past = all_more t es e h.past p;
  used = h.used;
  quiet = h.quiet;
  since = h.since;
  each = λ x i. delayed_same set es (es ++ e ∷ []) s.rows x (filter_map-append (since_in set x.job x.release) es (e ∷ []) ∙ (ap (λ (o : Option JobId). steps_since set es x.job x.release ++ cons_option o []) (a x.job x.release) ∙ append-nil (steps_since set es x.job x.release))) (h.each x i);
  done = λ d i. let r = h.done d i in record {
    tick = r.tick;
    is_one = one_same set d.job _ _ (filter_map-append (delayer_in set d.job (span d.release d.tick)) es (e ∷ []) ∙ (ap (λ (o : Option JobId). filter_map (delayer_in set d.job (span d.release d.tick)) es ++ cons_option o []) (b d.job (span d.release d.tick)) ∙ append-nil (filter_map (delayer_in set d.job (span d.release d.tick)) es))) r.is_one;
  };
}

-- rows that stand for others, but for their waits

pub record Like (rows : List (Option Row)) (y : Row) : Type 0 where
  pub was : Row
  pub here : IsPending rows was
  pub job : y.job ≡ was.job
  pub release : y.release ≡ was.release
  pub used : y.used ≡ was.used
  pub work : y.work ≡ was.work

pub like_ceiling : (set : Set) (x y : Row) → y.work ≡ x.work → ceiling_of set y ≡ ceiling_of set x
unfolding ceiling_of
like_ceiling set x y e = ap (λ (w : Work). greatest (map (lock_ceiling set) (locks w))) e

like_delayed : (set : Set) (es : List Entry) (rows rows' : List (Option Row)) (y : Row) → ((z : Row) → IsPending rows' z → Like rows z) → (l : Like rows y) → IsDelayed set es rows l.was → IsDelayed set es rows' y
like_delayed set es rows rows' y like l h =
    let e : steps_since set es y.job y.release ≡ steps_since set es l.was.job l.was.release = ap (λ (n : ℕ). steps_since set es y.job n) l.release ∙ ap (λ (j : JobId). steps_since set es j l.was.release) l.job in
    let p : prio set y ≡ prio set l.was = ap (prio_of set) l.job in
    record {
      is_one = record {
        one = λ a b i j. h.is_one.one a b (subst (λ (l : List JobId). In a l) e i) (subst (λ (l : List JobId). In b l) e j);
        few = omega (arith, h.is_one.few, ap (λ (l : List JobId). length l) e, ap (blocking set) p);
      };
      same = λ d z i hz lt le.
          let m = like z hz in
          let q : prio set z ≡ prio set m.was = ap (prio_of set) m.job in
          let c = like_ceiling set m.was z m.work in
          m.job ∙ h.same d m.was (subst (λ (l : List JobId). In d l) e i) m.here (omega arith) (omega arith);
      behind = λ z hz lt le.
          let m = like z hz in
          let q : prio set z ≡ prio set m.was = ap (prio_of set) m.job in
          let c = like_ceiling set m.was z m.work in
          let b = h.behind m.was m.here (omega arith) (omega arith) in
          omega (arith, b, m.used, ap (λ (l : List JobId). length l) e, ap (λ (k : JobId). (txn_of set k.tx.0).quiet) m.job);
    }

pub record SameRest (set : Set) (es : List Entry) (t : ℕ) (s : State) (rows : List (Option Row)) : Type 0 where
  pub used : (x : Row) → IsPending rows x → x.used < (txn_of set x.job.tx.0).steps
  pub quiet : (x : Row) → IsPending rows x → is_any (locks x.work) ≡ true → (txn_of set x.job.tx.0).quiet < x.used
  pub since : (x : Row) → IsPending rows x → x.release ≤ t
  pub each : (x : Row) → IsPending rows x → IsDelayed set es rows x

like_rest : (set : Set) (es : List Entry) (t : ℕ) (s : State) (rows : List (Option Row)) → ((z : Row) → IsPending rows z → Like s.rows z) → Delay set es t s → SameRest set es t s rows
like_rest set es t s rows like h = record {
  used = λ x i. let l = like x i in omega (arith, h.used l.was l.here, l.used, ap (λ (k : JobId). (txn_of set k.tx.0).steps) l.job);
  quiet = λ x i any. let l = like x i in omega (arith, h.quiet l.was l.here (ap (λ (w : Work). is_any (locks w)) (sym l.work) ∙ any), l.used, ap (λ (k : JobId). (txn_of set k.tx.0).quiet) l.job);
  since = λ x i. let l = like x i in omega (arith, h.since l.was l.here, l.release);
  each = λ x i. let l = like x i in like_delayed set es s.rows rows x like l (h.each l.was l.here);
}

-- the end of a job

pub record MayStop (s : State) (row : Row) : Type 0 where
  pub cur : Row
  pub here : IsPending s.rows cur
  pub job : cur.job ≡ row.job
  pub release : cur.release ≡ row.release

pub left_like : (rows : List (Option Row)) (job : JobId) (z : Row) → IsPending (rows_without rows job) z → Like rows z
left_like rows job z h = let l = left rows job z h in record {
  was = l.was;
  here = l.here;
  job = ap (λ (q : Row). q.job) l.is;
  release = ap (λ (q : Row). q.release) l.is;
  used = ap (λ (q : Row). q.used) l.is;
  work = ap (λ (q : Row). q.work) l.is;
}

ended_delay : (set : Set) (es : List Entry) (t : ℕ) (s : State) (row : Row) (e : End) (items : List Stored) → SameRest set es t s (rows_without s.rows row.job) → AllPast t es → ((d : EndedJob) → In d s.ended → IsDone set es t d)
    → IsOne set row.job (steps_since set es row.job row.release) → Delay set es t (with_end row e t (record s { items = items }))
unfolding with_end
ended_delay set es t s row e items r past done o =
    let d : EndedJob = record { job = row.job; release = row.release; end = e; tick = t } in
    let new : IsDone set es t d = record { tick = omega arith; is_one = one_same set row.job _ _ (within_since set row.job row.release t es past) o } in
    record {
      past = past;
      used = r.used;
      quiet = r.quiet;
      since = r.since;
      each = r.each;
      done = λ x i. elim (append_in x s.ended (d ∷ []) i) [ inl old ↦ done x old | inr now ↦ elim now [ inl is ↦ subst (IsDone set es t) (sym is) new | inr none ↦ absurd none ] ];
    }

end_delay : (set : Set) (es : List Entry) (t : ℕ) (s : State) (row : Row) (e : End) (items : List Stored) → MayStop s row → Delay set es t s → Delay set es t (with_end row e t (record s { items = items }))
end_delay set es t s row e items m h =
    let r = like_rest set es t s (rows_without s.rows row.job) (left_like s.rows row.job) h in
    let o : IsOne set row.job (steps_since set es row.job row.release) = subst (λ (n : ℕ). IsOne set row.job (steps_since set es row.job n)) m.release (subst (λ (j : JobId). IsOne set j (steps_since set es j m.cur.release)) m.job (h.each m.cur m.here).is_one) in
    ended_delay set es t s row e items r h.past h.done o

pub later_stop : (s : State) (t : ℕ) (r q : Row) → r.job.tx.0 ≢ q.job.tx.0 → MayStop s q → MayStop (with_late t s r) q
unfolding with_end
later_stop s t r q ne m = record { cur = freed r.job m.cur; here = stays s.rows r.job m.cur m.here (λ e. ne (sym e ∙ ap (λ (k : JobId). k.tx.0) m.job)); job = m.job; release = m.release }

late_delay : (set : Set) (es : List Entry) (t : ℕ) (gone : List Row) (s : State) → AreDistinct gone → ((r : Row) → In r gone → MayStop s r) → Delay set es t s → Delay set es t (fold (with_late t) s gone)
late_delay set es t [] s d may h = h
late_delay set es t (r ∷ rs) s d may h =
    late_delay set es t rs (with_late t s r) d.1 (λ q i. later_stop s t r q (d.0 q i) (may q (inr i))) (end_delay set es t s r end.Late s.items (may r (inl refl)) h)

-- new rows

pub no_ceiling_new : (set : Set) (j : JobId) (t : ℕ) → ceiling_of set (new_row j t) ≡ 0
unfolding ceiling_of
no_ceiling_new set j t = refl

came_rest : (set : Set) (es : List Entry) (t : ℕ) (s : State) (rows : List (Option Row)) → IsCompiled set → Frame set rows → ((z : Row) → IsPending rows z → IsPending s.rows z ⊎ ((j : JobId) × (z ≡ new_row j t))) → Delay set es t s → SameRest set es t s rows
came_rest set es t s rows ok frame case h =
    let named = named_from set rows ok frame in
    record {
      used = λ x i. elim (case x i) [
        | inl old ↦ h.used x old
        | inr c ↦ (let lt : x.job.tx.0 < length set.txns = omega (arith, in_range rows _ x i, frame.count) in let g = (ok.times x.job.tx.0 no_txn lt).steps.0 in omega (arith, g, ap (λ (q : Row). q.used) c.1))
      ];
      quiet = λ x i any. elim (case x i) [ inl old ↦ h.quiet x old any | inr c ↦ absurd (let f : is_any (locks x.work) ≡ false = ap (λ (q : Row). is_any (locks q.work)) c.1 in cc (f, any)) ];
      since = λ x i. elim (case x i) [ inl old ↦ h.since x old | inr c ↦ omega (arith, ap (λ (q : Row). q.release) c.1) ];
      each = λ x i. elim (case x i) [
        | inl old ↦ (let d = h.each x old in record {
          is_one = d.is_one;
          same = λ a z k hz lt le. elim (case z hz) [ inl o ↦ d.same a z k o lt le | inr c ↦ absurd (omega (arith, ap (ceiling_of set) c.1 ∙ no_ceiling_new set c.0 t, named.positive x i)) ];
          behind = λ z hz lt le. elim (case z hz) [ inl o ↦ d.behind z o lt le | inr c ↦ absurd (omega (arith, ap (ceiling_of set) c.1 ∙ no_ceiling_new set c.0 t, named.positive x i)) ];
        })
        | inr new ↦ (let e : steps_since set es x.job x.release ≡ [] = ap (λ (q : Row). steps_since set es q.job q.release) new.1 ∙ none_since set new.0 t es h.past in record {
          is_one = record { one = λ a b k l. absurd (subst (λ (l : List JobId). In a l) e k); few = omega (arith, ap (λ (l : List JobId). length l) e) };
          same = λ a z k hz lt le. absurd (subst (λ (l : List JobId). In a l) e k);
          behind = λ z hz lt le. elim (case z hz) [
            | inl o ↦ omega (arith, h.quiet z o (holder_from_ceiling set z (omega (arith, named.positive x i))), ap (λ (l : List JobId). length l) e)
            | inr c ↦ absurd (omega (arith, ap (ceiling_of set) c.1 ∙ no_ceiling_new set c.0 t, named.positive x i))
          ];
        })
      ];
    }

-- to arrive at a tick

pub arrived_delay : (set : Set) (refused : JobId → Bool) (t : ℕ) (s : State) (ok : IsCompiled set) (sound : Sound set refused t s) (es : List Entry) → Delay set es t s → Delay set es t (arrived set t s)
unfolding arrived with_releases with_cancellations after_cancelled due late_rows
arrived_delay set refused t s ok sound es h =
    let start : Delay set es t (record s { now = t }) = record { past = h.past; used = h.used; quiet = h.quiet; since = h.since; each = h.each; done = h.done } in
    let k = late_delay set es t (in_falling_priority set (filter (is_due set t) (pending s.rows))) (record s { now = t })
    (distinct_sorted set (filter (is_due set t) (pending s.rows)) (distinct_filter (is_due set t) (pending s.rows) (distinct_pending s.rows 0 (λ n x e. omega (arith, sound.frame.named n x e)))))
    (λ r i.
    let f = filter_in (is_due set t) r (pending s.rows) (sorted_in set r (filter (is_due set t) (pending s.rows)) i) in
    let at = pending_in s.rows r f.0 in
    record { cur = r; here = subst (λ (k : ℕ). get_or s.rows k None ≡ Some r) (sym (sound.frame.named at.0 r at.1)) at.1; job = refl; release = refl })
    start in
    let d = after_due set refused t s ok sound in
    let r = came_rest set es t (after_cancelled set refused t s ok sound) _ ok d.frame (λ z i. elim (d.each z i) [ inl o ↦ inl o | inr c ↦ inr (c.release.job, c.is) ]) k in
    record { past = k.past; used = r.used; quiet = r.quiet; since = r.since; each = r.each; done = k.done }

-- a granted step

not_over : (set : Set) (row : Row) (t : ℕ) (op : Op) → end_by set row t op ≡ None → row.used ≢ (txn_of set row.job.tx.0).steps
not_over set row t (Read item) h = given_none _ _ h where
  given_none : (m n : ℕ) → given (m == n) end.Overrun ≡ None → m ≢ n
  given_none m n h e = let t : (m == n) ≡ true = eq-eqb m n e in let f : Some end.Overrun ≡ None = sym (ap (λ (b : Bool). given b end.Overrun) t) ∙ h in cc (f)
not_over set row t (Write item value) h = given_none _ _ h where
  given_none : (m n : ℕ) → given (m == n) end.Overrun ≡ None → m ≢ n
  given_none m n h e = let t : (m == n) ≡ true = eq-eqb m n e in let f : Some end.Overrun ≡ None = sym (ap (λ (b : Bool). given b end.Overrun) t) ∙ h in cc (f)
not_over set row t Compute h = given_none _ _ h where
  given_none : (m n : ℕ) → given (m == n) end.Overrun ≡ None → m ≢ n
  given_none m n h e = let t : (m == n) ≡ true = eq-eqb m n e in let f : Some end.Overrun ≡ None = sym (ap (λ (b : Bool). given b end.Overrun) t) ∙ h in cc (f)
not_over set row t Commit h = absurd cc
not_over set row t Quit h = absurd cc

-- a holder has its quiet steps behind it
quiet_after : (set : Set) (s : State) (x : Row) (op : Op) → may_ask set x op ≡ true → (is_any (locks x.work) ≡ true → (txn_of set x.job.tx.0).quiet < x.used) → is_any (locks (row_after s x op).work) ≡ true → (txn_of set x.job.tx.0).quiet < x.used + 1
quiet_after set s x (Read item) may old any = let q : (txn_of set x.job.tx.0).quiet ≤ x.used = leb-true (txn_of set x.job.tx.0).quiet x.used (and_parts (may_read (txn_of set x.job.tx.0) item.0) (nat_le (txn_of set x.job.tx.0).quiet x.used) may).1 in omega arith
quiet_after set s x (Write item value) may old any = let q : (txn_of set x.job.tx.0).quiet ≤ x.used = leb-true (txn_of set x.job.tx.0).quiet x.used (and_parts (may_write (txn_of set x.job.tx.0) item.0) (nat_le (txn_of set x.job.tx.0).quiet x.used) may).1 in omega arith
quiet_after set s x Compute may old any = let q : (txn_of set x.job.tx.0).quiet < x.used = old any in omega arith
quiet_after set s x Commit may old any = let q : (txn_of set x.job.tx.0).quiet < x.used = old any in omega arith
quiet_after set s x Quit may old any = let q : (txn_of set x.job.tx.0).quiet < x.used = old any in omega arith

module _ (set : Set) (es : List Entry) (s : State) (x : Row) (op : Op) (over : Option End) (refused : JobId → Bool) (ok : IsCompiled set) (sound : Sound set refused (s.now + 1) s) (run : Runs set s.rows refused x)
    (may : may_ask set x op ≡ true) (serial : Serial set es s) (h : Delay set es s.now s) where
  entry : Entry
  entry = Step x.job op (outcome_of s.items x.work op) over s.now

  step_each : (y : Row) → IsPending (with_item s.rows x.job.tx.0 (Some (row_after s x op))) y → IsDelayed set (es ++ entry ∷ []) (with_item s.rows x.job.tx.0 (Some (row_after s x op))) y
  unfolding entry
  step_each = step_delays set es s refused x (row_after s x op) op (outcome_of s.items x.work op) over (named_from set s.rows ok sound.frame) sound.frame.count sound.protocol run refl refl refl (serial.declared x run.here) (h.used x run.here) h.since h.each

  step_past : AllPast (s.now + 1) (es ++ entry ∷ [])
  unfolding entry
  step_past = all_more (s.now + 1) es entry (all_later s.now (s.now + 1) es (omega arith) h.past) (omega arith)

  step_done : (d : EndedJob) → In d s.ended → IsDone set (es ++ entry ∷ []) (s.now + 1) d
  unfolding entry
  step_done d i = let r = h.done d i in let le : d.tick ≤ s.now = r.tick in record {
    tick = omega arith;
    is_one = one_same set d.job _ _ (filter_map-append (delayer_in set d.job (span d.release d.tick)) es (Step x.job op (outcome_of s.items x.work op) over s.now ∷ [])
        ∙ (ap (λ (o : Option JobId). filter_map (delayer_in set d.job (span d.release d.tick)) es ++ cons_option o []) (late_in set d.job d.release d.tick x.job op (outcome_of s.items x.work op) over s.now le) ∙ append-nil (filter_map (delayer_in set d.job (span d.release d.tick)) es))) r.is_one;
  }

  row_case : (y : Row) → IsPending (with_item s.rows x.job.tx.0 (Some (row_after s x op))) y → (y ≡ row_after s x op) ⊎ ((y.job.tx.0 ≢ x.job.tx.0) × IsPending s.rows y)
  row_case y i = written s.rows x.job.tx.0 (row_after s x op) y (in_range s.rows _ x run.here) refl i

  row_like : (z : Row) → IsPending (rows_without s.rows x.job) z → Like (with_item s.rows x.job.tx.0 (Some (row_after s x op))) z
  row_like z i = let l = left s.rows x.job z i in record {
    was = l.was;
    here = written_other s.rows x.job.tx.0 (row_after s x op) l.was l.other l.here;
    job = ap (λ (q : Row). q.job) l.is;
    release = ap (λ (q : Row). q.release) l.is;
    used = ap (λ (q : Row). q.used) l.is;
    work = ap (λ (q : Row). q.work) l.is;
  }

  pub settled_delay : (o : Option End) → end_by set (row_after s x op) (s.now + 1) op ≡ o → Delay set (es ++ Step x.job op (outcome_of s.items x.work op) over s.now ∷ []) (s.now + 1) (settled set (row_after s x op) (s.now + 1) o s)
  unfolding entry
  settled_delay None e = record {
    past = step_past;
    used = λ y i. elim (row_case y i) [
      | inl is ↦ (let n : (row_after s x op).used ≢ (txn_of set x.job.tx.0).steps = not_over set (row_after s x op) (s.now + 1) op e in
          let m : x.used + 1 ≢ (txn_of set x.job.tx.0).steps = n in
          let lt : x.used < (txn_of set x.job.tx.0).steps = h.used x run.here in
          omega (arith, ap (λ (q : Row). q.used) is, ap (λ (q : Row). (txn_of set q.job.tx.0).steps) is))
      | inr o ↦ h.used y o.1
    ];
    quiet = λ y i any. elim (row_case y i) [
      | inl is ↦ omega (arith, quiet_after set s x op may (h.quiet x run.here) (ap (λ (q : Row). is_any (locks q.work)) (sym is) ∙ any), ap (λ (q : Row). q.used) is, ap (λ (q : Row). (txn_of set q.job.tx.0).quiet) is)
      | inr o ↦ h.quiet y o.1 any
    ];
    since = λ y i. elim (row_case y i) [ inl is ↦ omega (arith, h.since x run.here, ap (λ (q : Row). q.release) is) | inr o ↦ (let a : y.release ≤ s.now = h.since y o.1 in omega arith) ];
    each = step_each;
    done = step_done;
  }
  settled_delay (Some e) at =
      let old = like_rest set es (s.now + 1) s (rows_without s.rows x.job) (left_like s.rows x.job) (delay_later set es s.now (s.now + 1) s (omega arith) h) in
      let here : IsPending (with_item s.rows x.job.tx.0 (Some (row_after s x op))) (row_after s x op) = get_or-set_same s.rows x.job.tx.0 (Some (row_after s x op)) None (in_range s.rows _ x run.here) in
      let own = (step_each (row_after s x op) here).is_one in
      ended_delay set (es ++ entry ∷ []) (s.now + 1) s (row_after s x op) e (items_after set.items (work_after s.items x.work op) x.release e s.items)
      (record { used = old.used; quiet = old.quiet; since = old.since; each = λ y i. let l = row_like y i in like_delayed set (es ++ entry ∷ []) (with_item s.rows x.job.tx.0 (Some (row_after s x op))) (rows_without s.rows x.job) y row_like l (step_each l.was l.here) })
      step_past step_done own

-- the events

wait_delay : (set : Set) (es : List Entry) (t : ℕ) (s : State) (x : Row) (j : JobId) → IsPending s.rows x → Delay set es t s → Delay set es t (with_wait s x j)
unfolding with_wait
wait_delay set es t s x j here h =
    let r = like_rest set es t s (with_item s.rows x.job.tx.0 (Some (record x { waits_on = Some j }))) (λ y i.
    elim (written s.rows x.job.tx.0 (record x { waits_on = Some j }) y (in_range s.rows _ x here) refl i) [
      | inl e ↦ record { was = x; here = here; job = ap (λ (q : Row). q.job) e; release = ap (λ (q : Row). q.release) e; used = ap (λ (q : Row). q.used) e; work = ap (λ (q : Row). q.work) e }
      | inr o ↦ record { was = y; here = o.1; job = refl; release = refl; used = refl; work = refl }
    ]) h in
    record { past = h.past; used = r.used; quiet = r.quiet; since = r.since; each = r.each; done = h.done }

plan_delay_at : (set : Set) (es : List Entry) (s : State) (tx tick : ℕ) (plans : List Plans) (planned : List Release) (b : Bool) → IsCompiled set → Frame set s.rows → tx < length set.txns → (tick == s.now) ≡ b → Delay set es s.now s
    → Delay set es s.now (record s { plans = plans; planned = planned; rows = cond b (with_row tick s.rows (next_job s tx)) s.rows })
plan_delay_at set es s tx tick plans planned false ok frame lt e h = record { past = h.past; used = h.used; quiet = h.quiet; since = h.since; each = h.each; done = h.done }
plan_delay_at set es s tx tick plans planned true ok frame lt e h =
    let now : tick ≡ s.now = eqb-true _ _ e in
    let in_rows : tx < length s.rows = omega (arith, lt, frame.count) in
    let r = came_rest set es s.now s (with_row tick s.rows (next_job s tx)) ok (frame_with set s.rows (next_job s tx) tick frame in_rows) (λ z i.
    elim (written s.rows tx (new_row (next_job s tx) tick) z in_rows refl i) [ inl is ↦ inr (next_job s tx, is ∙ ap (λ (n : ℕ). new_row (next_job s tx) n) now) | inr o ↦ inl o.1 ]) h in
    record { past = h.past; used = r.used; quiet = r.quiet; since = r.since; each = r.each; done = h.done }

plan_delay : (set : Set) (es : List Entry) (s : State) (tx tick : ℕ) → IsCompiled set → Frame set s.rows → tx < length set.txns → Delay set es s.now s → Delay set es (with_plan s tx tick).now (with_plan s tx tick)
unfolding with_plan
plan_delay set es s tx tick ok frame lt h = plan_delay_at set es s tx tick _ _ (tick == s.now) ok frame lt refl h

abbrev pub Slows : Set → List Entry → Option (Entry × State) → Type 0
Slows set es None = Unit {0}
Slows set es (Some p) = Delay set (es ++ p.0 ∷ []) p.1.now p.1

slows_given : (set : Set) (es : List Entry) (b : Bool) (p : Entry × State) → (b ≡ true → Slows set es (Some p)) → Slows set es (given b p)
slows_given set es true p h = h refl
slows_given set es false p h = tt

at_now : (set : Set) (es : List Entry) (t : ℕ) (s : State) → Delay set es t (arrived set t s) → Delay set es (arrived set t s).now (arrived set t s)
at_now set es t s h = subst (λ (n : ℕ). Delay set es n (arrived set t s)) (sym (arrived_now set t s)) h

pub next_later_at : (n u : ℕ) (r : Release) (o : Option ℕ) → n ≤ r.tick → ((v : ℕ) → o ≡ Some v → n ≤ v) → earlier r.tick o ≡ u → n ≤ u
next_later_at n u r None a b h = omega arith
next_later_at n u r (Some v) a b h = let c : n ≤ v = b v refl in omega arith

pub next_later : (rs : List Release) (n u : ℕ) → next_tick rs ≡ Some u → ((r : Release) → In r rs → n ≤ r.tick) → n ≤ u
next_later [] n u e f = absurd cc
next_later (r ∷ rs) n u e f = let w : earlier r.tick (next_tick rs) ≡ u = cc in next_later_at n u r (next_tick rs) (f r (inl refl)) (λ v is. next_later rs n v is (λ q i. f q (inr i))) w

module _ (set : Set) (ok : IsCompiled set) (refused : JobId → Bool) (s : State) (sound : Sound set refused (s.now + 1) s) (es : List Entry) (serial : Serial set es s) (h : Delay set es s.now s) where
  answered_slows : (x : Row) (op : Op) (o : Option Above) → Runs set s.rows refused x → may_ask set x op ≡ true → lock_refusal set s x op ≡ o → Slows set es (Some (answered set s x op o))
  unfolding with_step after_effect
  answered_slows x op None run may e =
      let over = end_of (with_step set s x op) x.job in
      let state : State = settled set (row_after s x op) (s.now + 1) (end_by set (row_after s x op) (s.now + 1) op) s in
      let a : Sound set refused (s.now + 1) state = settled_sound set refused (s.now + 1) s x op (end_by set (row_after s x op) (s.now + 1) op) ok sound run e in
      let b : Delay set (es ++ Step x.job op (outcome_of s.items x.work op) over s.now ∷ []) (s.now + 1) state = settled_delay set es s x op over refused ok sound run may serial h (end_by set (row_after s x op) (s.now + 1) op) refl in
      at_now set (es ++ Step x.job op (outcome_of s.items x.work op) over s.now ∷ []) (s.now + 1) state (arrived_delay set refused (s.now + 1) state ok a (es ++ Step x.job op (outcome_of s.items x.work op) over s.now ∷ []) b)
  answered_slows x op (Some above) run may e =
      subst (λ (n : ℕ). Delay set (es ++ Blocked x.job op above.holder above.ceiling s.now ∷ []) n (with_wait s x above.holder)) (sym (wait_now s x above.holder))
      (quiet_delay set es s.now (with_wait s x above.holder) (Blocked x.job op above.holder above.ceiling s.now) (λ j n. refl) (λ j p. refl) tt (wait_delay set es s.now s x above.holder run.here h))

  asked_slows : (job : JobId) (op : Op) (x : Row) (b : Bool) → Runs set s.rows refused x → Slows set es (option_and_then (asked set s op) (cond b (Some x) None))
  asked_slows job op x true run = slows_given set es (may_ask set x op) (answered set s x op (lock_refusal set s x op)) (λ may. answered_slows x op (lock_refusal set s x op) run may refl)
  asked_slows job op x false run = tt

  ask_slows : (job : JobId) (op : Op) (o : Option Row) → running set s.rows ≡ o → Slows set es (option_and_then (asked set s op) (option_and_then (of_job job) o))
  ask_slows job op None e = tt
  ask_slows job op (Some x) e = asked_slows job op x (same_job x.job job) (running_is set s.rows refused x (named_from set s.rows ok sound.frame) sound.protocol e)

  idle_at : (o : Option ℕ) → pending s.rows ≡ [] → next_tick s.planned ≡ o → Slows set es (option_map (λ t. (Idle s.now t, arrived set t s)) o)
  idle_at None none e = tt
  idle_at (Some t) none e =
      let early = idle_early set refused s t sound none e in
      let after : s.now + 1 ≤ t = next_later s.planned (s.now + 1) t e sound.calendar.future in
      let later : s.now ≤ t = omega arith in
      quiet_delay set es (arrived set t s).now (arrived set t s) (Idle s.now t) (λ j n. refl) (λ j p. refl) tt (at_now set es t s (arrived_delay set refused t s ok early es (delay_later set es s.now t s later h)))

  idle_slows : (rows : List Row) → pending s.rows ≡ rows → Slows set es (idled set s rows)
  idle_slows [] e = idle_at (next_tick s.planned) e refl
  idle_slows (r ∷ rs) e = tt

  pub step_slows : (event : Event) → Slows set es (step set s event)
  unfolding step
  step_slows (plan tx tick) = slows_given set es (may_plan set s tx tick) (Planned (record { 0 = tx }) tick, with_plan s tx tick) (λ may.
      quiet_delay set es (with_plan s tx tick).now (with_plan s tx tick) (Planned (record { 0 = tx }) tick) (λ j n. refl) (λ j p. refl) tt (plan_delay set es s tx tick ok sound.frame (may_plan_is set s tx tick may).in_set h))
  step_slows (ask job op) = ask_slows job op (running set s.rows) refl
  step_slows idle = idle_slows (pending s.rows) refl

-- whole histories

pub entry_slows : (set : Set) (es : List Entry) (s : State) (entry : Entry) (o : Option (Entry × State)) → Slows set es o → entry_given o ≡ Some entry → Delay set (es ++ entry ∷ []) (state_given s o).now (state_given s o)
entry_slows set es s entry None c h = absurd cc
entry_slows set es s entry (Some p) c h = let e : p.0 ≡ entry = cc in subst (λ (q : Entry). Delay set (es ++ q ∷ []) p.1.now p.1) e c

history_delay : (set : Set) (refused : JobId → Bool) (s : State) (es rest : List Entry) → IsCompiled set → Sound set refused (s.now + 1) s → Serial set es s → Delay set es s.now s → IsLegalFrom set s rest → Delay set (es ++ rest) (states_after set s rest).now (states_after set s rest)
history_delay set refused s es [] ok sound serial h legal = subst (λ (l : List Entry). Delay set l s.now s) (sym (append-nil es)) h
history_delay set refused s es (e ∷ rest) ok sound serial h legal =
    let next = entry_slows set es s e (step set s (event_of e)) (step_slows set ok refused s sound es serial h (event_of e)) legal.0 in
    let serial' = entry_carries set es s e (step set s (event_of e)) (step_carries set ok refused s sound es serial (event_of e)) legal.0 in
    let sound' = entry_goes set refused s e (step set s (event_of e)) (step_goes set ok refused s sound (event_of e)) legal.0 in
    let whole = history_delay set (refused_after refused e) (state_after set s e) (es ++ e ∷ []) rest ok sound'.0 serial' next legal.1 in
    subst (λ (l : List Entry). Delay set l (states_after set (state_after set s e) rest).now (states_after set (state_after set s e) rest)) (append_assoc es (e ∷ []) rest) whole

pub opening_delay : (set : Set) → Delay set [] (opening set).now (opening set)
unfolding opening
opening_delay set = record {
  past = tt;
  used = λ x h. absurd (nothing_at set.txns x.job.tx.0 x h);
  quiet = λ x h any. absurd (nothing_at set.txns x.job.tx.0 x h);
  since = λ x h. absurd (nothing_at set.txns x.job.tx.0 x h);
  each = λ x h. absurd (nothing_at set.txns x.job.tx.0 x h);
  done = λ e i. absurd i;
}

pub legal_delay : (set : Set) (entries : List Entry) → IsCompiled set → IsLegal set entries → Delay set entries (state_of set entries).now (state_of set entries)
legal_delay set entries ok legal = history_delay set (λ _. false) (opening set) [] entries ok (opening_sound set) (opening_serial set) (opening_delay set) legal

-- the delay of a job

of_pending : (set : Set) (entries : List Entry) (s : State) (job : JobId) (o : Option Row) → Delay set entries s.now s → job_row s.rows job ≡ o → IsOne set job (delayers_within set entries job (pending_span s o))
of_pending set entries s job None h e = record { one = λ a b i j. absurd i; few = omega arith }
of_pending set entries s job (Some x) h e =
    let j = job_row_is s.rows job x e in
    let o : IsOne set x.job (steps_since set entries x.job x.release) = (h.each x j.0).is_one in
    subst (λ (k : JobId). IsOne set k (delayers_within set entries k (Some (span x.release s.now)))) j.1 (one_same set x.job _ _ (within_since set x.job x.release s.now entries h.past) o)

find_ended : (es : List EndedJob) (job : JobId) (e : EndedJob) → find (λ d. same_job d.job job) es ≡ Some e → In e es × (e.job ≡ job)
find_ended es job e h = let f = find_some (λ (d : EndedJob). same_job d.job job) es e h in (f.here, same_job_is _ _ f.passes)

of_span : (set : Set) (entries : List Entry) (s : State) (job : JobId) (o : Option EndedJob) → Delay set entries s.now s → find (λ d. same_job d.job job) s.ended ≡ o → IsOne set job (delayers_within set entries job (ended_span o (pending_span s (job_row s.rows job))))
of_span set entries s job None h e = of_pending set entries s job (job_row s.rows job) h refl
of_span set entries s job (Some d) h e =
    let f = find_ended s.ended job d e in
    subst (λ (k : JobId). IsOne set k (delayers_within set entries k (Some (span d.release d.tick)))) f.1 (h.done d f.0).is_one

pub one_delay : (set : Set) (entries : List Entry) (job : JobId) → IsCompiled set → IsLegal set entries → DelayedByOne set entries job
one_delay set entries job ok legal =
    let o = of_span set entries (state_of set entries) job (find (λ d. same_job d.job job) (state_of set entries).ended) (legal_delay set entries ok legal) refl in
    record { one = λ m n a b i j. o.one a b (in_at (delayers set entries job) m a i) (in_at (delayers set entries job) n b j); few = o.few }
