-- Each event keeps the protocol's and the calendar's invariant, by the events' parts: a step's effect, a refusal, a
-- plan and the arrival at a tick.
use Rattle.std.proofs.Common.{◌≡◌, ◌≢◌, ◌⊎◌, ℕ, ◌+◌, ◌-◌, ◌^◌, ◌<◌, ◌≤◌, ◌==◌, Bool, true, false, cond, ◌&&◌, List, [], ◌∷◌, ◌++◌, length, Option, None, Some, get_or, set as with_item, refl, ap, sym, ◌∙◌, subst, inl, inr, arith, get_or-set_same, get_or-set_other}
use Rattle.std.proofs.lemmas.List.{length-set}
use Rattle.std.proofs.lemmas.Bool.{cases_eq, cases_Bool, eqb-true, eqb-false, and_parts, ltb-true, leb-true, or_cases, or_from}
use Rattle.std.specs.Prelude.{nat_lt, nat_le}
use Rattle.std.specs.List.{filter, fold}
use Rattle.rt_base.specs.declared.ids.JobId.{JobId}
use Rattle.rt_base.specs.declared.operation.Op.{Op}
use Rattle.rt_base.specs.declared.operation.End.{End}
use Rattle.txn_set.specs.Set.{Set, txn_of, IsCompiled}
use Rattle.step_journal.specs.State.{State, Row, row_of, prio, same_job, new_row, pending}
use Rattle.rt_base.specs.declared.release.Plans.{Plans}
use Rattle.rt_base.specs.declared.release.Release.{Release}
use Rattle.step_journal.specs.LockRule.{Above, refusal, in_falling_priority}
use Rattle.step_journal.specs.Instant.{with_end, with_row, with_late, is_due, with_releases, with_cancellations, arrived}
use Rattle.step_journal.specs.Step.{plans_of, earliest, may_plan, next_job, with_plan, lock_refusal, row_after, end_by, settled, after_effect, with_step, with_wait, earlier, next_tick}
use Rattle.law_histories.proofs.Members.{In, in_pending}
use Rattle.law_histories.proofs.Invariant.{IsPending, Protocol, Runs, refusal_is, in_range, written, same_row, same_job_is}
use Rattle.law_histories.proofs.Events.{granted_keeps, refused_facts, refused_keeps, refused_too, waiting_row}
use Rattle.law_histories.proofs.Holding.{step_is_granted, append_in}
use Rattle.law_histories.proofs.Ends.{rows_without, left, end_keeps, release_keeps}
use Rattle.law_histories.proofs.Calendar.{period_of, deadline_of, Frame, Calendar, Sound, AreSpaced, Follows, frame_without, frame_with, named_from, arrived_sound, row_none, times_at}

-- a row of one state stands for a row of another, with the same job and release
pub record Stems (rows : List (Option Row)) (y : Row) : Type 0 where
  pub was : Row
  pub here : IsPending rows was
  pub job : y.job ≡ was.job
  pub release : y.release ≡ was.release

-- a state with the same plans, whose rows stem from the old ones
pub calendar_from : (set : Set) (refused : JobId → Bool) (t : ℕ) (s s' : State) → s'.planned ≡ s.planned → s'.plans ≡ s.plans → ((y : Row) → IsPending s'.rows y → Stems s.rows y) → Calendar set refused t s → Calendar set refused t s'
calendar_from set refused t s s' planned plans stems c =
    let before : (r : Release) → In r s'.planned → In r s.planned = λ r i. subst (λ (l : List Release). In r l) planned i in
    let same : (n : ℕ) → plans_of s' n ≡ plans_of s n = λ n. ap (λ (l : List Plans). get_or l n (record { number = 0; last = 0 })) plans in
    record {
      alive = λ y h. let f = stems y h in omega (arith, c.alive f.was f.here, f.release, ap (deadline_of set) f.job);
      future = λ r i. c.future r (before r i);
      in_set = λ r i. c.in_set r (before r i);
      spaced = subst (AreSpaced set) (sym planned) c.spaced;
      behind = λ y r h i e.
          let f = stems y h in
          let o = c.behind f.was r f.here (before r i) (sym (ap (λ (k : JobId). k.tx.0) f.job) ∙ e) in
          (omega (arith, o.0, f.release, ap (period_of set) f.job), omega (arith, o.1, ap (λ (k : JobId). k.serial) f.job));
      planned = λ r i.
          let o = c.planned r (before r i) in
          let e = same r.job.tx.0 in
          (omega (arith, o.0, ap (λ (p : Plans). p.last) e), omega (arith, o.1, ap (λ (p : Plans). p.number) e));
      released = λ y h.
          let f = stems y h in
          let o = c.released f.was f.here in
          let e = same y.job.tx.0 ∙ ap (λ (k : JobId). plans_of s k.tx.0) f.job in
          (omega (arith, o.0, f.release, ap (λ (p : Plans). p.last) e), omega (arith, o.1, ap (λ (p : Plans). p.number) e, ap (λ (k : JobId). k.serial) f.job));
      fresh = λ r i. c.fresh r (before r i);
      asked = λ j h. omega (arith, c.asked j h, ap (λ (p : Plans). p.number) (same j.tx.0));
      plans_count = ap (λ (l : List Plans). length l) plans ∙ c.plans_count;
    }

pub frame_set : (set : Set) (rows : List (Option Row)) (x x' : Row) → Frame set rows → IsPending rows x → x'.job.tx.0 ≡ x.job.tx.0 → Frame set (with_item rows x.job.tx.0 (Some x'))
frame_set set rows x x' frame here same = record {
  count = length-set rows x.job.tx.0 (Some x') ∙ frame.count;
  named = λ n y h. elim (cases_eq n x.job.tx.0) [
    | inl e ↦ (let at : get_or (with_item rows x.job.tx.0 (Some x')) n None ≡ Some x' = subst (λ (k : ℕ). get_or (with_item rows x.job.tx.0 (Some x')) k None ≡ Some x') (sym e) (get_or-set_same rows x.job.tx.0 (Some x') None (in_range rows _ x here)) in
        let is : y ≡ x' = cc in
        ap (λ (q : Row). q.job.tx.0) is ∙ (same ∙ sym e))
    | inr ne ↦ frame.named n y (sym (get_or-set_other rows x.job.tx.0 n (Some x') None ne) ∙ h)
  ];
}

stems_set : (rows : List (Option Row)) (x x' y : Row) → IsPending rows x → x'.job ≡ x.job → x'.release ≡ x.release → IsPending (with_item rows x.job.tx.0 (Some x')) y → Stems rows y
stems_set rows x x' y here job release h =
    elim (written rows x.job.tx.0 x' y (in_range rows _ x here) (ap (λ (k : JobId). k.tx.0) job) h) [
      | inl e ↦ record { was = x; here = here; job = ap (λ (q : Row). q.job) e ∙ job; release = ap (λ (q : Row). q.release) e ∙ release }
      | inr o ↦ record { was = y; here = o.1; job = refl; release = refl }
    ]

stems_left : (rows : List (Option Row)) (job : JobId) (y : Row) → IsPending (rows_without rows job) y → Stems rows y
stems_left rows job y h = let l = left rows job y h in record { was = l.was; here = l.here; job = ap (λ (q : Row). q.job) l.is; release = ap (λ (q : Row). q.release) l.is }

-- the effect of a granted step

pub settled_sound : (set : Set) (refused : JobId → Bool) (t : ℕ) (s : State) (x : Row) (op : Op) (o : Option End) → IsCompiled set → Sound set refused t s → Runs set s.rows refused x → lock_refusal set s x op ≡ None
    → Sound set refused t (settled set (row_after s x op) t o s)
unfolding with_end
settled_sound set refused t s x op None ok sound run granted =
    let pos : 0 < prio set x = (named_from set s.rows ok sound.frame).positive x run.here in
    record {
      frame = frame_set set s.rows x (row_after s x op) sound.frame run.here refl;
      protocol = granted_keeps set s.rows refused x (row_after s x op) sound.protocol run (step_is_granted set s x op pos run.runs granted);
      calendar = calendar_from set refused t s (record s { rows = with_item s.rows x.job.tx.0 (Some (row_after s x op)) }) refl refl (λ y h. stems_set s.rows x (row_after s x op) y run.here refl refl h) sound.calendar;
    }
settled_sound set refused t s x op (Some e) ok sound run granted = record {
  frame = frame_without set s.rows x.job sound.frame;
  protocol = end_keeps set s.rows refused x.job sound.protocol (λ c hc same. ap (λ (q : Row). q.job) (same_row s.rows c x hc run.here same));
  calendar = calendar_from set refused t s _ refl refl (λ y h. stems_left s.rows x.job y h) sound.calendar;
}

-- the time of a state after the arrival at a tick
fold_now : (t n : ℕ) (rows : List Row) (s : State) → s.now ≡ n → (fold (with_late t) s rows).now ≡ n
unfolding with_end
fold_now t n [] s e = e
fold_now t n (r ∷ rs) s e = fold_now t n rs (with_late t s r) e

pub arrived_now : (set : Set) (t : ℕ) (s : State) → (arrived set t s).now ≡ t
unfolding arrived with_releases with_cancellations
arrived_now set t s = fold_now t t (in_falling_priority set (filter (is_due set t) (pending s.rows))) (record s { now = t }) refl

pub wait_now : (s : State) (x : Row) (j : JobId) → (with_wait s x j).now ≡ s.now
unfolding with_wait
wait_now s x j = refl

pub plan_now : (s : State) (tx tick : ℕ) → (with_plan s tx tick).now ≡ s.now
unfolding with_plan
plan_now s tx tick = refl

pub step_sound : (set : Set) (refused : JobId → Bool) (s : State) (x : Row) (op : Op) → IsCompiled set → Sound set refused (s.now + 1) s → Runs set s.rows refused x → lock_refusal set s x op ≡ None
    → Sound set refused ((with_step set s x op).now + 1) (with_step set s x op)
unfolding with_step after_effect
step_sound set refused s x op ok sound run granted =
    let effect = settled_sound set refused (s.now + 1) s x op (end_by set (row_after s x op) (s.now + 1) op) ok sound run granted in
    let next : State = arrived set (s.now + 1) (settled set (row_after s x op) (s.now + 1) (end_by set (row_after s x op) (s.now + 1) op) s) in
    let a : Sound set refused (s.now + 1 + 1) next = arrived_sound set refused (s.now + 1) (settled set (row_after s x op) (s.now + 1) (end_by set (row_after s x op) (s.now + 1) op) s) ok effect in
    subst (λ (n : ℕ). Sound set refused (n + 1) next) (sym (arrived_now set (s.now + 1) (settled set (row_after s x op) (s.now + 1) (end_by set (row_after s x op) (s.now + 1) op) s))) a

-- a refused request

pub refusal_sound : (set : Set) (refused : JobId → Bool) (s : State) (x : Row) (above : Above) → IsCompiled set → Sound set refused (s.now + 1) s → Runs set s.rows refused x → refusal set s.rows x ≡ Some above
    → Sound set (refused_too refused x.job) (s.now + 1) (with_wait s x above.holder)
unfolding with_wait
refusal_sound set refused s x above ok sound run h =
    let named = named_from set s.rows ok sound.frame in
    let r = refusal_is set s.rows x above named h in
    let facts = refused_facts set s.rows refused x above named sound.protocol run r in
    let keeps = refused_keeps set s.rows refused x r.blocker named sound.protocol run r.here r.other r.holds facts in
    let c = calendar_from set refused (s.now + 1) s (record s { rows = with_item s.rows x.job.tx.0 (Some (record x { waits_on = Some above.holder })) }) refl refl (λ y i. stems_set s.rows x (record x { waits_on = Some above.holder }) y run.here refl refl i) sound.calendar in
    record {
      frame = frame_set set s.rows x (record x { waits_on = Some above.holder }) sound.frame run.here refl;
      protocol = subst (λ (j : JobId). Protocol set (with_item s.rows x.job.tx.0 (Some (waiting_row x j))) (refused_too refused x.job)) (sym r.is) keeps;
      calendar = record {
        alive = c.alive;
        future = c.future;
        in_set = c.in_set;
        spaced = c.spaced;
        behind = c.behind;
        planned = c.planned;
        released = c.released;
        plans_count = c.plans_count;
        fresh = λ q i. fresh_yet set refused s x q sound run i;
        asked = λ j was. elim (or_cases _ _ was) [
          | inl old ↦ sound.calendar.asked j old
          | inr same ↦ (let e : j ≡ x.job = same_job_is _ _ same in
              let o = sound.calendar.released x run.here in
              omega (arith, o.1, ap (λ (k : JobId). k.serial) e, ap (λ (k : JobId). (plans_of s k.tx.0).number) e))
        ];
      };
    } where
      fresh_yet : (set : Set) (refused : JobId → Bool) (s : State) (x : Row) (q : Release) → Sound set refused (s.now + 1) s → Runs set s.rows refused x → In q s.planned → refused_too refused x.job q.job ≡ false
      fresh_yet set refused s x q sound run i = elim (cases_Bool (same_job q.job x.job)) [
        | inl same ↦ absurd (let e : q.job ≡ x.job = same_job_is _ _ same in
            let b = sound.calendar.behind x q run.here i (ap (λ (k : JobId). k.tx.0) (sym e)) in
            omega (arith, b.1, ap (λ (k : JobId). k.serial) e))
        | inr other ↦ or_from _ _ (sound.calendar.fresh q i) other
      ]

-- idling

least_at : (rs : List Release) (r q : Release) (o : Option ℕ) → ((u : ℕ) → o ≡ Some u → In q rs → u ≤ q.tick) → (o ≡ None → rs ≡ []) → (q ≡ r) ⊎ In q rs → earlier r.tick o ≤ q.tick
least_at rs r q None some none (inl e) = omega (arith, ap (λ (k : Release). k.tick) e)
least_at rs r q None some none (inr i) = absurd (subst (λ (l : List Release). In q l) (none refl) i)
least_at rs r q (Some u) some none (inl e) = omega (arith, ap (λ (k : Release). k.tick) e)
least_at rs r q (Some u) some none (inr i) = let a : u ≤ q.tick = some u refl i in omega arith

nothing_next : (rs : List Release) → next_tick rs ≡ None → rs ≡ []
nothing_next [] h = refl
nothing_next (r ∷ rs) h = absurd cc

next_least : (rs : List Release) (t : ℕ) (q : Release) → next_tick rs ≡ Some t → In q rs → t ≤ q.tick
next_least [] t q h i = absurd i
next_least (r ∷ rs) t q h i =
    let e : earlier r.tick (next_tick rs) ≡ t = cc in
    omega (arith, e, least_at rs r q (next_tick rs) (λ u is j. next_least rs u q is j) (nothing_next rs) i)

-- with nothing pending, a state is sound before the events of the least planned tick
pub idle_early : (set : Set) (refused : JobId → Bool) (s : State) (t : ℕ) → Sound set refused (s.now + 1) s → pending s.rows ≡ [] → next_tick s.planned ≡ Some t → Sound set refused t s
idle_early set refused s t sound none next =
    let nobody : (y : Row) → IsPending s.rows y → ⊥ = λ y h. subst (λ (l : List Row). In y l) none (in_pending s.rows y.job.tx.0 y h) in
    let c = sound.calendar in
    record {
      frame = sound.frame;
      protocol = sound.protocol;
      calendar = record {
        alive = λ y h. absurd (nobody y h);
        future = λ r i. next_least s.planned t r next i;
        in_set = c.in_set;
        spaced = c.spaced;
        behind = c.behind;
        planned = c.planned;
        released = c.released;
        fresh = c.fresh;
        asked = c.asked;
        plans_count = c.plans_count;
      };
    }

pub idle_sound : (set : Set) (refused : JobId → Bool) (s : State) (t : ℕ) → IsCompiled set → Sound set refused (s.now + 1) s → pending s.rows ≡ [] → next_tick s.planned ≡ Some t → Sound set refused ((arrived set t s).now + 1) (arrived set t s)
idle_sound set refused s t ok sound none next =
    let a : Sound set refused (t + 1) (arrived set t s) = arrived_sound set refused t s ok (idle_early set refused s t sound none next) in
    subst (λ (n : ℕ). Sound set refused (n + 1) (arrived set t s)) (sym (arrived_now set t s)) a

-- a plan

pub record MayPlan (set : Set) (s : State) (tx tick : ℕ) : Type 0 where
  pub in_set : tx < length set.txns
  pub now : s.now ≤ tick
  pub few : (plans_of s tx).number < 2 ^ 32 - 1
  pub gap : 0 < (plans_of s tx).number → (plans_of s tx).last + (txn_of set tx).period ≤ tick

gap_at : (n last t tick : ℕ) (b : Bool) → (n == 0) ≡ b → cond b 0 (last + t) ≤ tick → 0 < n → last + t ≤ tick
gap_at n last t tick true e h pos = absurd (omega (arith, eqb-true _ _ e))
gap_at n last t tick false e h pos = h

pub may_plan_is : (set : Set) (s : State) (tx tick : ℕ) → may_plan set s tx tick ≡ true → MayPlan set s tx tick
unfolding may_plan
may_plan_is set s tx tick h =
    let a = and_parts (nat_lt tx (length set.txns) && nat_le s.now tick && nat_le tick (2 ^ 40) && nat_le (earliest set tx (plans_of s tx)) tick && nat_lt (length s.planned) 65536) (nat_lt (plans_of s tx).number (2 ^ 32 - 1)) h in
    let b = and_parts (nat_lt tx (length set.txns) && nat_le s.now tick && nat_le tick (2 ^ 40) && nat_le (earliest set tx (plans_of s tx)) tick) (nat_lt (length s.planned) 65536) a.0 in
    let c = and_parts (nat_lt tx (length set.txns) && nat_le s.now tick && nat_le tick (2 ^ 40)) (nat_le (earliest set tx (plans_of s tx)) tick) b.0 in
    let d = and_parts (nat_lt tx (length set.txns) && nat_le s.now tick) (nat_le tick (2 ^ 40)) c.0 in
    let e = and_parts (nat_lt tx (length set.txns)) (nat_le s.now tick) d.0 in
    record {
      in_set = ltb-true _ _ e.0;
      now = leb-true _ _ e.1;
      few = ltb-true _ _ a.1;
      gap = gap_at (plans_of s tx).number (plans_of s tx).last (txn_of set tx).period tick ((plans_of s tx).number == 0) refl (leb-true _ _ c.1);
    }

spaced_more : (set : Set) (rs : List Release) (r : Release) → AreSpaced set rs → ((q : Release) → In q rs → q.job.tx.0 ≡ r.job.tx.0 → Follows set q r) → AreSpaced set (rs ++ r ∷ [])
spaced_more set [] r h all = (λ q i. absurd i, tt)
spaced_more set (x ∷ rs) r h all = (
  λ q i same. elim (append_in q rs (r ∷ []) i) [
    | inl old ↦ h.0 q old same
    | inr new ↦ elim new [ inl e ↦ subst (Follows set x) (sym e) (all x (inl refl) (same ∙ ap (λ (k : Release). k.job.tx.0) e)) | inr none ↦ absurd none ]
  ],
  spaced_more set rs r h.1 (λ q i. all q (inr i)),
)

module _ (set : Set) (refused : JobId → Bool) (s : State) (tx tick : ℕ) (ok : IsCompiled set) (sound : Sound set refused (s.now + 1) s) (may : MayPlan set s tx tick) where
  job : JobId
  job = next_job s tx

  noted : Plans
  noted = record { number = (plans_of s tx).number + 1; last = tick }

  planned_state : List Release → List (Option Row) → State
  planned_state planned rows = record s { plans = with_item s.plans tx noted; planned = planned; rows = rows }

  -- what was planned or released before still is
  before : (planned : List Release) (rows : List (Option Row)) (n t serial : ℕ) → (t ≤ (plans_of s n).last) × (serial < (plans_of s n).number) → (t ≤ (plans_of (planned_state planned rows) n).last) × (serial < (plans_of (planned_state planned rows) n).number)
  unfolding planned_state noted
  before planned rows n t serial h =
      elim (cases_eq n tx) [
        | inl e ↦ (let lt : tx < length s.plans = omega (arith, may.in_set, sound.calendar.plans_count) in
            let at : plans_of (planned_state planned rows) n ≡ noted = ap (λ (k : ℕ). get_or (with_item s.plans tx noted) k (record { number = 0; last = 0 })) e ∙ get_or-set_same s.plans tx noted (record { number = 0; last = 0 }) lt in
            let was : plans_of s n ≡ plans_of s tx = ap (plans_of s) e in
            let g : (plans_of s tx).last + (txn_of set tx).period ≤ tick = may.gap (omega (arith, h.1, ap (λ (p : Plans). p.number) was)) in
            (omega (arith, h.0, g, ap (λ (p : Plans). p.last) was, ap (λ (p : Plans). p.last) at), omega (arith, h.1, ap (λ (p : Plans). p.number) was, ap (λ (p : Plans). p.number) at)))
        | inr ne ↦ (let at : plans_of (planned_state planned rows) n ≡ plans_of s n = get_or-set_other s.plans tx n noted (record { number = 0; last = 0 }) ne in
            (omega (arith, h.0, ap (λ (p : Plans). p.last) at), omega (arith, h.1, ap (λ (p : Plans). p.number) at)))
      ]

  here : (planned : List Release) (rows : List (Option Row)) → plans_of (planned_state planned rows) tx ≡ noted
  unfolding planned_state
  here planned rows = get_or-set_same s.plans tx noted (record { number = 0; last = 0 }) (omega (arith, may.in_set, sound.calendar.plans_count))

  new_is_fresh : refused job ≡ false
  unfolding job
  new_is_fresh = elim (cases_Bool (refused job)) [ inl h ↦ absurd (omega (arith, sound.calendar.asked job h)) | inr f ↦ f ]

  -- a planned release of the transaction comes before the new one
  planned_before : (r : Release) → In r s.planned → r.job.tx.0 ≡ tx → (r.tick + (txn_of set tx).period ≤ tick) × (r.job.serial < (plans_of s tx).number)
  planned_before r i e =
      let o = sound.calendar.planned r i in
      let same : plans_of s r.job.tx.0 ≡ plans_of s tx = ap (plans_of s) e in
      let g : (plans_of s tx).last + (txn_of set tx).period ≤ tick = may.gap (omega (arith, o.1, ap (λ (p : Plans). p.number) same)) in
      (omega (arith, o.0, g, ap (λ (p : Plans). p.last) same), omega (arith, o.1, ap (λ (p : Plans). p.number) same))

  row_before : (y : Row) → IsPending s.rows y → y.job.tx.0 ≡ tx → (y.release + (txn_of set tx).period ≤ tick) × (y.job.serial < (plans_of s tx).number)
  row_before y h e =
      let o = sound.calendar.released y h in
      let same : plans_of s y.job.tx.0 ≡ plans_of s tx = ap (plans_of s) e in
      let g : (plans_of s tx).last + (txn_of set tx).period ≤ tick = may.gap (omega (arith, o.1, ap (λ (p : Plans). p.number) same)) in
      (omega (arith, o.0, g, ap (λ (p : Plans). p.last) same), omega (arith, o.1, ap (λ (p : Plans). p.number) same))

  -- for a later tick
  later_sound : tick ≢ s.now → Sound set refused (s.now + 1) (planned_state (s.planned ++ record { job = next_job s tx; tick = tick } ∷ []) s.rows)
  unfolding planned_state job noted
  later_sound ne =
      let r : Release = record { job = next_job s tx; tick = tick } in
      let c = sound.calendar in
      let now : s.now ≤ tick = may.now in
      record {
        frame = sound.frame;
        protocol = sound.protocol;
        calendar = record {
          alive = c.alive;
          future = λ q i. elim (append_in q s.planned (r ∷ []) i) [ inl old ↦ c.future q old | inr new ↦ elim new [ inl e ↦ omega (arith, ap (λ (k : Release). k.tick) e) | inr none ↦ absurd none ] ];
          in_set = λ q i. elim (append_in q s.planned (r ∷ []) i) [ inl old ↦ c.in_set q old | inr new ↦ elim new [ inl e ↦ omega (arith, ap (λ (k : Release). k.job.tx.0) e, may.in_set) | inr none ↦ absurd none ] ];
          spaced = spaced_more set s.planned r c.spaced (λ q i same.
              let b = planned_before q i same in
              record { later = omega (arith, b.0, ap (λ (n : ℕ). (txn_of set n).period) same); serial = b.1 });
          behind = λ y q h i same. elim (append_in q s.planned (r ∷ []) i) [
            | inl old ↦ c.behind y q h old same
            | inr new ↦ elim new [
              | inl e ↦ (let t : y.job.tx.0 ≡ tx = same ∙ ap (λ (k : Release). k.job.tx.0) e in
                  let b = row_before y h t in
                  (omega (arith, b.0, ap (λ (n : ℕ). (txn_of set n).period) t, ap (λ (k : Release). k.tick) e), omega (arith, b.1, ap (λ (k : Release). k.job.serial) e)))
              | inr none ↦ absurd none
            ]
          ];
          planned = λ q i. elim (append_in q s.planned (r ∷ []) i) [
            | inl old ↦ before (s.planned ++ r ∷ []) s.rows q.job.tx.0 q.tick q.job.serial (c.planned q old)
            | inr new ↦ elim new [
              | inl e ↦ (let p : plans_of (planned_state (s.planned ++ r ∷ []) s.rows) q.job.tx.0 ≡ noted = ap (λ (k : Release). plans_of (planned_state (s.planned ++ r ∷ []) s.rows) k.job.tx.0) e ∙ here (s.planned ++ r ∷ []) s.rows in
                  (omega (arith, ap (λ (k : Release). k.tick) e, ap (λ (k : Plans). k.last) p), omega (arith, ap (λ (k : Release). k.job.serial) e, ap (λ (k : Plans). k.number) p)))
              | inr none ↦ absurd none
            ]
          ];
          released = λ y h. before (s.planned ++ r ∷ []) s.rows y.job.tx.0 y.release y.job.serial (c.released y h);
          fresh = λ q i. elim (append_in q s.planned (r ∷ []) i) [ inl old ↦ c.fresh q old | inr new ↦ elim new [ inl e ↦ ap (λ (k : Release). refused k.job) e ∙ new_is_fresh | inr none ↦ absurd none ] ];
          asked = λ j h. (before (s.planned ++ r ∷ []) s.rows j.tx.0 0 j.serial (omega arith, c.asked j h)).1;
          plans_count = length-set s.plans tx noted ∙ c.plans_count;
        };
      }

  -- for the present tick
  at_once_sound : tick ≡ s.now → Sound set refused (s.now + 1) (planned_state s.planned (with_row tick s.rows (next_job s tx)))
  unfolding planned_state job noted
  at_once_sound now =
      let c = sound.calendar in
      let good = times_at set tx ok may.in_set in
      let lt : tx < length s.rows = omega (arith, may.in_set, sound.frame.count) in
      let free : row_of s.rows tx ≡ None = row_none s.rows tx (row_of s.rows tx) refl (λ y h.
      let e : y.job.tx.0 ≡ tx = sound.frame.named tx y h in
      let at : IsPending s.rows y = subst (λ (k : ℕ). get_or s.rows k None ≡ Some y) (sym e) h in
      let b = row_before y at e in
      let d : deadline_of set y.job ≡ (txn_of set tx).deadline = ap (λ (n : ℕ). (txn_of set n).deadline) e in
      omega (arith, b.0, c.alive y at, good.deadline.1)) in
      let none_planned : (r : Release) → In r s.planned → r.job.tx.0 ≡ tx → ⊥ = λ r i e. let b = planned_before r i e in omega (arith, b.0, c.future r i) in
      let case : (y : Row) → IsPending (with_row tick s.rows (next_job s tx)) y → (y ≡ new_row (next_job s tx) tick) ⊎ ((y.job.tx.0 ≢ tx) × IsPending s.rows y) = λ y h. written s.rows tx (new_row (next_job s tx) tick) y lt refl h in
      record {
        frame = frame_with set s.rows (next_job s tx) tick sound.frame lt;
        protocol = release_keeps set s.rows refused (next_job s tx) tick sound.protocol lt free new_is_fresh;
        calendar = record {
          alive = λ y h. elim (case y h) [ inl e ↦ omega (arith, now, good.deadline.0, ap (λ (k : Row). k.release) e, ap (λ (k : Row). deadline_of set k.job) e) | inr o ↦ c.alive y o.1 ];
          future = c.future;
          in_set = c.in_set;
          spaced = c.spaced;
          behind = λ y r h i same. elim (case y h) [ inl e ↦ absurd (none_planned r i (sym same ∙ ap (λ (k : Row). k.job.tx.0) e)) | inr o ↦ c.behind y r o.1 i same ];
          planned = λ r i. before s.planned (with_row tick s.rows (next_job s tx)) r.job.tx.0 r.tick r.job.serial (c.planned r i);
          released = λ y h. elim (case y h) [
            | inl e ↦ (let p : plans_of (planned_state s.planned (with_row tick s.rows (next_job s tx))) y.job.tx.0 ≡ noted = ap (λ (k : Row). plans_of (planned_state s.planned (with_row tick s.rows (next_job s tx))) k.job.tx.0) e ∙ here s.planned (with_row tick s.rows (next_job s tx)) in
                (omega (arith, ap (λ (k : Row). k.release) e, ap (λ (k : Plans). k.last) p), omega (arith, ap (λ (k : Row). k.job.serial) e, ap (λ (k : Plans). k.number) p)))
            | inr o ↦ before s.planned (with_row tick s.rows (next_job s tx)) y.job.tx.0 y.release y.job.serial (c.released y o.1)
          ];
          fresh = c.fresh;
          asked = λ j h. (before s.planned (with_row tick s.rows (next_job s tx)) j.tx.0 0 j.serial (omega arith, c.asked j h)).1;
          plans_count = length-set s.plans tx noted ∙ c.plans_count;
        };
      }

  plan_at : (b : Bool) → (tick == s.now) ≡ b → Sound set refused (s.now + 1) (planned_state (cond b s.planned (s.planned ++ record { job = next_job s tx; tick = tick } ∷ [])) (cond b (with_row tick s.rows (next_job s tx)) s.rows))
  plan_at true e = at_once_sound (eqb-true _ _ e)
  plan_at false e = later_sound (eqb-false _ _ e)

  pub plan_sound : Sound set refused (s.now + 1) (with_plan s tx tick)
  unfolding with_plan planned_state noted
  plan_sound = plan_at (tick == s.now) refl
