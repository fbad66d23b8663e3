-- Steps, ends and arrivals keep the invariant of serial replies: a commit changes only items on which its job holds
-- write locks, and by the conflict law no other pending job has read these.
use Rattle.std.proofs.Common.{◌≡◌, ◌≢◌, ◌⊎◌, ℕ, zero, suc, ◌+◌, ◌≤◌, ◌==◌, Bool, true, false, cond, not, List, [], ◌∷◌, ◌++◌, map, Option, None, Some, get_or, set as with_item, refl, ap, sym, ◌∙◌, subst, inl, inr, arith, get_or-set_same}
use Rattle.std.proofs.lemmas.List.{append-nil, set-set}
use Rattle.std.proofs.lemmas.Bool.{and_from, eq-eqb, or_left, false_from_ne_true}
use Rattle.std.specs.Option.{option_map}
use Rattle.std.specs.List.{fold, filter}
use Rattle.std.specs.Prelude.{nat_lt}
use Rattle.rt_base.specs.declared.ids.JobId.{JobId}
use Rattle.rt_base.specs.declared.operation.Op.{Op}
use Rattle.rt_base.specs.declared.operation.Outcome.{Outcome}
use Rattle.rt_base.specs.declared.operation.End.{End}
use Rattle.rt_base.specs.declared.operation.End.TheVariants.{Late}
use Rattle.step_journal.specs.declared.entry.Entry.{Entry}
use Rattle.step_journal.specs.declared.entry.Entry.TheVariants.{Step}
use Rattle.txn_set.specs.Set.{Set, IsCompiled}
use Rattle.item_model.specs.Work.{Work, no_work, stored_of, outcome_of, work_after, items_after, has_read, has_written}
use Rattle.step_journal.specs.State.{State, Row, row_of, prio, same_job, pending, opening}
use Rattle.rt_base.specs.declared.release.Release.{Release}
use Rattle.step_journal.specs.declared.entry.EndedJob.{EndedJob}
use Rattle.step_journal.specs.LockRule.{placed, in_falling_priority}
use Rattle.step_journal.specs.Instant.{freed, with_end, with_late, is_due, with_cancellations, with_releases, arrived}
use Rattle.step_journal.specs.Step.{plans_of, may_ask, lock_refusal, row_after, settled}
use Rattle.step_journal.specs.Serial.{ops_of, outcomes_of, work_alone, outcomes_alone}
use Rattle.law_histories.proofs.Members.{In, filter_in, pending_in}
use Rattle.law_histories.proofs.Invariant.{IsPending, Protocol, Runs, in_range, same_job_is, written}
use Rattle.law_histories.proofs.Events.{granted_keeps}
use Rattle.law_histories.proofs.Holding.{step_is_granted}
use Rattle.law_histories.proofs.Ends.{stays}
use Rattle.law_histories.proofs.Calendar.{Frame, Sound, placed_in, sorted_in, named_from, late_rows, after_cancelled, due, after_due}
use Rattle.law_histories.proofs.Histories.{frame_set}
use Rattle.law_histories.proofs.Conflict.{IsDeclared, conflict, row_declared}
use Rattle.law_histories.proofs.Alone.{work_more, outcomes_more, item_stays, ops_more, outcomes_more_in, serial_items_same, serial_outcomes_same, map_same}
use Rattle.law_histories.proofs.Serials.{IsAlone, Serial, MayEnd, end_serial}

-- rows of different transactions

abbrev pub AreDistinct : List Row → Type 0
AreDistinct [] = Unit {0}
AreDistinct (r ∷ rs) = ((q : Row) → In q rs → r.job.tx.0 ≢ q.job.tx.0) × AreDistinct rs

pub distinct_pending : (rows : List (Option Row)) (k : ℕ) → ((n : ℕ) (x : Row) → row_of rows n ≡ Some x → x.job.tx.0 ≡ k + n) → AreDistinct (pending rows)
distinct_pending [] k h = tt
distinct_pending (None ∷ rows) k h = distinct_pending rows (k + 1) (λ n x e. omega (arith, h (suc n) x e))
distinct_pending (Some r ∷ rows) k h = (
  λ q i same. let a = pending_in rows q i in let b : r.job.tx.0 ≡ k + 0 = h zero r refl in omega (arith, h (suc a.0) q a.1, b),
  distinct_pending rows (k + 1) (λ n x e. omega (arith, h (suc n) x e)),
)

distinct_filter_at : (p : Row → Bool) (r : Row) (rs : List Row) (b : Bool) → ((q : Row) → In q rs → r.job.tx.0 ≢ q.job.tx.0) → AreDistinct (filter p rs) → AreDistinct (cond b (r ∷ filter p rs) (filter p rs))
distinct_filter_at p r rs true h rest = (λ q i. h q (filter_in p q rs i).0, rest)
distinct_filter_at p r rs false h rest = rest

pub distinct_filter : (p : Row → Bool) (rs : List Row) → AreDistinct rs → AreDistinct (filter p rs)
distinct_filter p [] h = tt
distinct_filter p (r ∷ rs) h = distinct_filter_at p r rs (p r) h.0 (distinct_filter p rs h.1)

distinct_placed_at : (set : Set) (r x : Row) (rs : List Row) (b : Bool) → ((q : Row) → (q ≡ x) ⊎ In q rs → r.job.tx.0 ≢ q.job.tx.0) → ((q : Row) → In q rs → x.job.tx.0 ≢ q.job.tx.0) → AreDistinct rs → AreDistinct (placed set r rs)
    → AreDistinct (cond b (r ∷ x ∷ rs) (x ∷ placed set r rs))
distinct_placed_at set r x rs true h hx rs_ok rest = (h, (hx, rs_ok))
distinct_placed_at set r x rs false h hx rs_ok rest = (λ q i e. elim (placed_in set r q rs i) [ inl is ↦ h x (inl refl) (sym (e ∙ ap (λ (k : Row). k.job.tx.0) is)) | inr old ↦ hx q old e ], rest)

distinct_placed : (set : Set) (r : Row) (rs : List Row) → ((q : Row) → In q rs → r.job.tx.0 ≢ q.job.tx.0) → AreDistinct rs → AreDistinct (placed set r rs)
distinct_placed set r [] h d = (λ q i. absurd i, tt)
distinct_placed set r (x ∷ rs) h d = distinct_placed_at set r x rs (nat_lt (prio set x) (prio set r)) h d.0 d.1 (distinct_placed set r rs (λ q i. h q (inr i)) d.1)

pub distinct_sorted : (set : Set) (rs : List Row) → AreDistinct rs → AreDistinct (in_falling_priority set rs)
distinct_sorted set [] d = tt
distinct_sorted set (r ∷ rs) d = distinct_placed set r (in_falling_priority set rs) (λ q i. d.0 q (sorted_in set q rs i)) (distinct_sorted set rs d.1)

-- the cancellations

later_may_end : (s : State) (t : ℕ) (r q : Row) → r.job.tx.0 ≢ q.job.tx.0 → MayEnd s q.job → MayEnd (with_late t s r) q.job
unfolding with_end
later_may_end s t r q ne m = record {
  row = freed r.job m.row;
  here = stays s.rows r.job m.row m.here (λ e. ne (sym e ∙ ap (λ (k : JobId). k.tx.0) m.is));
  is = m.is;
  behind = m.behind;
  below = m.below;
}

late_serial : (set : Set) (es : List Entry) (t : ℕ) (gone : List Row) (s : State) → AreDistinct gone → ((r : Row) → In r gone → MayEnd s r.job) → Serial set es s → Serial set es (fold (with_late t) s gone)
late_serial set es t [] s d may h = h
late_serial set es t (r ∷ rs) s d may h =
    let next : Serial set es (with_late t s r) = end_serial set es s r Late t s.items (may r (inl refl)) refl (λ y i a b c. refl) h in
    late_serial set es t rs (with_late t s r) d.1 (λ q i. later_may_end s t r q (d.0 q i) (may q (inr i))) next

module _ (set : Set) (refused : JobId → Bool) (t : ℕ) (s : State) (ok : IsCompiled set) (sound : Sound set refused t s) (es : List Entry) (h : Serial set es s) where
  after_late_serial : Serial set es (after_cancelled set refused t s ok sound)
  unfolding after_cancelled late_rows
  after_late_serial =
      let start : Serial set es (record s { now = t }) = record { declared = h.declared; done_row = h.done_row; done_plan = h.done_plan; rising = h.rising; done = h.done; alone = h.alone; planned_new = h.planned_new; future_new = h.future_new; items = h.items; outcomes = h.outcomes } in
      late_serial set es t (in_falling_priority set (filter (is_due set t) (pending s.rows))) (record s { now = t })
      (distinct_sorted set (filter (is_due set t) (pending s.rows)) (distinct_filter (is_due set t) (pending s.rows) (distinct_pending s.rows 0 (λ n x e. omega (arith, sound.frame.named n x e)))))
      (λ r i.
      let f = filter_in (is_due set t) r (pending s.rows) (sorted_in set r (filter (is_due set t) (pending s.rows)) i) in
      let at = pending_in s.rows r f.0 in
      let here : IsPending s.rows r = subst (λ (k : ℕ). get_or s.rows k None ≡ Some r) (sym (sound.frame.named at.0 r at.1)) at.1 in
      record { row = r; here = here; is = refl; behind = λ q j same. (sound.calendar.behind r q here j same).1; below = (sound.calendar.released r here).1 })
      start

  pub arrived_serial : Serial set es (arrived set t s)
  unfolding arrived with_releases with_cancellations after_cancelled due late_rows
  arrived_serial =
      let k = after_late_serial in
      let each = (after_due set refused t s ok sound).each in
      record {
        declared = λ x i. elim (each x i) [
          | inl old ↦ k.declared x old
          | inr c ↦ record {
            reads = λ n r. absurd (let e : has_read x.work n ≡ false = ap (λ (q : Row). has_read q.work n) c.is in cc (e, r));
            writes = λ n r. absurd (let e : has_written x.work n ≡ false = ap (λ (q : Row). has_written q.work n) c.is in cc (e, r));
          }
        ];
        done_row = λ e x i j same. elim (each x j) [
          | inl old ↦ k.done_row e x i old same
          | inr c ↦ (let b : x.job ≡ c.release.job = ap (λ (q : Row). q.job) c.is in
              let d = k.done_plan e c.release i (filter_in (λ (r : Release). r.tick == t) c.release (after_cancelled set refused t s ok sound).planned c.is_due).0 (same ∙ ap (λ (q : JobId). q.tx.0) b) in
              omega (arith, d, ap (λ (q : JobId). q.serial) b))
        ];
        rising = k.rising;
        done_plan = λ e r i j same. k.done_plan e r i (filter_in (λ (q : Release). not (q.tick == t)) r (after_cancelled set refused t s ok sound).planned j).0 same;
        done = k.done;
        alone = λ x i. elim (each x i) [
          | inl old ↦ k.alone x old
          | inr c ↦ (let b : x.job ≡ c.release.job = ap (λ (q : Row). q.job) c.is in
              let w : x.work ≡ no_work = ap (λ (q : Row). q.work) c.is in
              let u = k.planned_new c.release (filter_in (λ (r : Release). r.tick == t) c.release (after_cancelled set refused t s ok sound).planned c.is_due).0 in
              let o : ops_of es x.job ≡ [] = ap (ops_of es) b ∙ u.ops in
              record {
                work = w ∙ ap (work_alone (after_cancelled set refused t s ok sound).items no_work) (sym o);
                outcomes = ap (outcomes_of es) b ∙ (u.outcomes ∙ ap (outcomes_alone (after_cancelled set refused t s ok sound).items no_work) (sym o));
              })
        ];
        planned_new = λ r i. k.planned_new r (filter_in (λ (q : Release). not (q.tick == t)) r (after_cancelled set refused t s ok sound).planned i).0;
        future_new = k.future_new;
        items = k.items;
        outcomes = k.outcomes;
      }

-- a granted step

self_true : (j : JobId) → same_job j j ≡ true
self_true j = and_from _ _ (eq-eqb j.tx.0 j.tx.0 refl) (eq-eqb j.serial j.serial refl)

pub other_false : (a b : JobId) → (a ≡ b → ⊥) → same_job a b ≡ false
other_false a b h = false_from_ne_true _ (λ t. h (same_job_is a b t))

module _ (set : Set) (es : List Entry) (s : State) (x : Row) (op : Op) (over : Option End) (refused : JobId → Bool) (t : ℕ) (ok : IsCompiled set) (sound : Sound set refused t s) (run : Runs set s.rows refused x)
    (may : may_ask set x op ≡ true) (granted : lock_refusal set s x op ≡ None) (h : Serial set es s) where
  entry : Entry
  entry = Step x.job op (outcome_of s.items x.work op) over s.now

  longer : List Entry
  longer = es ++ entry ∷ []

  others_ops : (j : JobId) → (x.job ≡ j → ⊥) → ops_of longer j ≡ ops_of es j
  unfolding entry longer
  others_ops j ne = ops_more es entry j None (ap (λ (b : Bool). cond b (Some op) None) (other_false x.job j ne)) ∙ append-nil (ops_of es j)

  others_outcomes : (j : JobId) → (x.job ≡ j → ⊥) → outcomes_of longer j ≡ outcomes_of es j
  unfolding entry longer
  others_outcomes j ne = outcomes_more_in es entry j None (ap (λ (b : Bool). cond {A = Option Outcome} b (Some (outcome_of s.items x.work op)) None) (other_false x.job j ne)) ∙ append-nil (outcomes_of es j)

  own_ops : ops_of longer x.job ≡ ops_of es x.job ++ op ∷ []
  unfolding entry longer
  own_ops = ops_more es entry x.job (Some op) (ap (λ (b : Bool). cond b (Some op) None) (self_true x.job))

  own_outcomes : outcomes_of longer x.job ≡ outcomes_of es x.job ++ outcome_of s.items x.work op ∷ []
  unfolding entry longer
  own_outcomes = outcomes_more_in es entry x.job (Some (outcome_of s.items x.work op)) (ap (λ (b : Bool). cond {A = Option Outcome} b (Some (outcome_of s.items x.work op)) None) (self_true x.job))

  done_other : (e : EndedJob) → In e s.ended → x.job ≡ e.job → ⊥
  done_other e i same = let d = h.done_row e x i run.here (ap (λ (k : JobId). k.tx.0) (sym same)) in omega (arith, d, ap (λ (k : JobId). k.serial) same)

  planned_other : (r : Release) → In r s.planned → x.job ≡ r.job → ⊥
  planned_other r i same = let b = sound.calendar.behind x r run.here i (ap (λ (k : JobId). k.tx.0) same) in omega (arith, b.1, ap (λ (k : JobId). k.serial) same)

  future_other : (j : JobId) → (plans_of s j.tx.0).number ≤ j.serial → x.job ≡ j → ⊥
  future_other j le same = let b = sound.calendar.released x run.here in omega (arith, b.1, ap (λ (k : JobId). k.serial) same, ap (λ (k : JobId). (plans_of s k.tx.0).number) same)

  next_row : Row
  next_row = row_after s x op

  row_state : State
  row_state = record s { rows = with_item s.rows x.job.tx.0 (Some next_row) }

  row_case : (y : Row) → IsPending row_state.rows y → (y ≡ next_row) ⊎ ((y.job.tx.0 ≢ x.job.tx.0) × IsPending s.rows y)
  unfolding row_state next_row
  row_case y i = written s.rows x.job.tx.0 (row_after s x op) y (in_range s.rows _ x run.here) refl i

  next_alone : IsAlone s.items longer next_row
  unfolding next_row
  next_alone =
      let a = h.alone x run.here in
      record {
        work = ap (λ (w : Work). work_after s.items w op) a.work ∙ (sym (work_more s.items no_work (ops_of es x.job) op) ∙ ap (work_alone s.items no_work) (sym own_ops));
        outcomes = own_outcomes ∙ (ap (λ (l : List Outcome). l ++ outcome_of s.items x.work op ∷ []) a.outcomes
            ∙ (ap (λ (w : Work). outcomes_alone s.items no_work (ops_of es x.job) ++ outcome_of s.items w op ∷ []) a.work
            ∙ (sym (outcomes_more s.items no_work (ops_of es x.job) op) ∙ ap (outcomes_alone s.items no_work) (sym own_ops))));
      }

  row_serial : Serial set longer row_state
  unfolding row_state next_row
  row_serial = record {
    declared = λ y i. elim (row_case y i) [ inl e ↦ subst (IsDeclared set) (sym e) (row_declared set s x op (h.declared x run.here) may) | inr o ↦ h.declared y o.1 ];
    done_row = λ e y i j same. elim (row_case y j) [
      | inl is ↦ (let d = h.done_row e x i run.here (same ∙ ap (λ (q : Row). q.job.tx.0) is) in omega (arith, d, ap (λ (q : Row). q.job.serial) is))
      | inr o ↦ h.done_row e y i o.1 same
    ];
    done_plan = h.done_plan;
    rising = h.rising;
    done = h.done;
    alone = λ y i. elim (row_case y i) [
      | inl e ↦ subst (IsAlone s.items longer) (sym e) next_alone
      | inr o ↦ (let a = h.alone y o.1 in
          let ne : x.job ≡ y.job → ⊥ = λ e. o.0 (ap (λ (k : JobId). k.tx.0) (sym e)) in
          record { work = a.work ∙ ap (work_alone s.items no_work) (sym (others_ops y.job ne)); outcomes = others_outcomes y.job ne ∙ (a.outcomes ∙ ap (outcomes_alone s.items no_work) (sym (others_ops y.job ne))) })
    ];
    planned_new = λ r i. let u = h.planned_new r i in record { ops = others_ops r.job (planned_other r i) ∙ u.ops; outcomes = others_outcomes r.job (planned_other r i) ∙ u.outcomes };
    future_new = λ j le. let u = h.future_new j le in record { ops = others_ops j (future_other j le) ∙ u.ops; outcomes = others_outcomes j (future_other j le) ∙ u.outcomes };
    items = h.items ∙ sym (serial_items_same set es longer s.ended (opening set).items (λ d i. others_ops d.job (done_other d i)));
    outcomes = map_same es longer s.ended (λ d i. others_outcomes d.job (done_other d i)) ∙ (h.outcomes ∙ sym (serial_outcomes_same set es longer s.ended (opening set).items (λ d i. others_ops d.job (done_other d i))));
  }

  row_protocol : Protocol set row_state.rows refused
  unfolding row_state next_row
  row_protocol = granted_keeps set s.rows refused x (row_after s x op) sound.protocol run (step_is_granted set s x op ((named_from set s.rows ok sound.frame).positive x run.here) run.runs granted)

  row_here : IsPending row_state.rows next_row
  unfolding row_state next_row
  row_here = get_or-set_same s.rows x.job.tx.0 (Some (row_after s x op)) None (in_range s.rows _ x run.here)

  row_frame : Frame set row_state.rows
  unfolding row_state next_row
  row_frame = frame_set set s.rows x (row_after s x op) sound.frame run.here refl

  -- no other pending job read what the ending job wrote
  unread : (e : End) (y : Row) (i : ℕ) → IsPending row_state.rows y → y.job.tx.0 ≢ next_row.job.tx.0 → has_read y.work i ≡ true → stored_of (items_after set.items next_row.work next_row.release e s.items) i ≡ stored_of s.items i
  unread e y i here ne reads =
      item_stays set next_row.work next_row.release e s.items i (false_from_ne_true _ (λ wrote.
      conflict set row_state.rows refused next_row y i (named_from set row_state.rows ok row_frame) row_protocol (omega (arith, row_frame.count)) row_here here (λ q. ne (sym q))
      (row_serial.declared next_row row_here) (row_serial.declared y here) wrote (or_left _ _ reads)))

  row_may_end : MayEnd row_state next_row.job
  unfolding row_state next_row
  row_may_end = record { row = row_after s x op; here = row_here; is = refl; behind = λ q i same. (sound.calendar.behind x q run.here i same).1; below = (sound.calendar.released x run.here).1 }

  ended_serial : (e : End) (tick : ℕ) → Serial set longer (with_end next_row e tick (record row_state { items = items_after set.items next_row.work next_row.release e s.items }))
  unfolding row_state next_row row_may_end
  ended_serial e tick = end_serial set longer row_state next_row e tick (items_after set.items next_row.work next_row.release e s.items) row_may_end refl (unread e) row_serial

  pub settled_serial : (tick : ℕ) (o : Option End) → Serial set (es ++ Step x.job op (outcome_of s.items x.work op) over s.now ∷ []) (settled set (row_after s x op) tick o s)
  unfolding row_state next_row with_end longer entry
  settled_serial tick None = row_serial
  settled_serial tick (Some e) =
      subst (λ (l : List (Option Row)). Serial set longer (record s {
        items = items_after set.items (work_after s.items x.work op) x.release e s.items;
        rows = map (option_map (freed x.job)) l;
        ended = s.ended ++ record { job = x.job; release = x.release; end = e; tick = tick } ∷ [];
      })) (set-set s.rows x.job.tx.0 (Some (row_after s x op)) None) (ended_serial e tick)
