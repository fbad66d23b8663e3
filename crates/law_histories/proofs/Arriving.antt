-- To arrive at a tick keeps what is known: a cancelled job installs nothing, and a new job has read nothing.
use Rattle.std.proofs.Common.{◌≡◌, ◌≢◌, ℕ, ◌+◌, ◌<◌, ◌≤◌, ◌==◌, Bool, true, false, not, List, [], ◌∷◌, length, map, Option, None, Some, get_or, refl, ap, sym, ◌∙◌, subst, inl, inr, arith}
use Rattle.std.proofs.lemmas.Bool.{eqb-true, not_from_false}
use Rattle.std.proofs.lemmas.List.{length-set}
use Rattle.std.specs.List.{fold, filter}
use Rattle.rt_base.specs.declared.ids.JobId.{JobId}
use Rattle.rt_base.specs.declared.operation.End.TheVariants.{Late}
use Rattle.txn_set.specs.Set.{Set, IsCompiled}
use Rattle.item_model.specs.Work.{stored_of}
use Rattle.item_model.specs.declared.stored.OutsideRead.{OutsideRead}
use Rattle.step_journal.specs.State.{State, Row, pending, new_row}
use Rattle.rt_base.specs.declared.release.Release.{Release}
use Rattle.step_journal.specs.LockRule.{in_falling_priority}
use Rattle.step_journal.specs.Instant.{freed, with_row, with_end, with_late, is_due, with_cancellations, with_releases, arrived}
use Rattle.law_histories.proofs.Members.{In, in_filter, filter_in, pending_in}
use Rattle.law_histories.proofs.Invariant.{IsPending, written_here, written_other}
use Rattle.law_histories.proofs.Ends.{stays}
use Rattle.law_histories.proofs.Calendar.{period_of, deadline_of, AreApart, Sound, deadline_le, sorted_in, late_rows, after_cancelled, after_late, planned_before, due, after_due, apart_due, still_alive, period_pos, spaced_before}
use Rattle.law_histories.proofs.SerialSteps.{AreDistinct, distinct_pending, distinct_filter, distinct_sorted}
use Rattle.law_histories.proofs.Known.{Known, Placed, WillEnd, ended_job, sourced_more, end_known}

-- the cancellations

pub later_will_end : (s : State) (t : ℕ) (r q : Row) → r.job.tx.0 ≢ q.job.tx.0 → WillEnd s q → WillEnd (with_late t s r) q
unfolding with_end
later_will_end s t r q ne m = record {
  was = freed r.job m.was;
  here = stays s.rows r.job m.was m.here (λ e. ne (sym e ∙ ap (λ (k : JobId). k.tx.0) m.job));
  job = m.job;
  release = m.release;
}

late_known : (set : Set) (reads : JobId → List OutsideRead) (ticks : ℕ → List ℕ) (t : ℕ) (gone : List Row) (s : State) → AreDistinct gone → ((r : Row) → In r gone → WillEnd s r) → Known set reads ticks t s → Known set reads ticks t (fold (with_late t) s gone)
late_known set reads ticks t [] s d may h = h
late_known set reads ticks t (r ∷ rs) s d may h =
    let next : Known set reads ticks t (with_late t s r) = end_known set reads ticks t s r Late s.items (may r (inl refl)) h refl
    (λ i tx da w. sourced_more set reads s.ended tx i (stored_of s.items i).stamp (ended_job r Late t) (λ e. absurd cc) (h.items i tx da w)) (λ no. absurd no) in
    late_known set reads ticks t rs (with_late t s r) d.1 (λ q i. later_will_end s t r q (d.0 q i) (may q (inr i))) next

-- the releases: whoever was pending is pending, and so is each new job

kept : (t : ℕ) (due : List Release) (rows : List (Option Row)) (y : Row) → IsPending rows y → ((r : Release) → In r due → y.job.tx.0 ≢ r.job.tx.0) → IsPending (fold (with_row t) rows (map (λ r. r.job) due)) y
kept t [] rows y h other = h
kept t (r ∷ rs) rows y h other = kept t rs (with_row t rows r.job) y (written_other rows r.job.tx.0 (new_row r.job t) y (other r (inl refl)) h) (λ q i. other q (inr i))

came : (t : ℕ) (due : List Release) (rows : List (Option Row)) (r : Release) → AreApart due → ((q : Release) → In q due → q.job.tx.0 < length rows) → In r due → IsPending (fold (with_row t) rows (map (λ r. r.job) due)) (new_row r.job t)
came t [] rows r apart lt i = absurd i
came t (x ∷ rs) rows r apart lt (inl e) =
    subst (λ (q : Release). IsPending (fold (with_row t) (with_row t rows x.job) (map (λ r. r.job) rs)) (new_row q.job t)) (sym e)
    (kept t rs (with_row t rows x.job) (new_row x.job t) (written_here rows x.job.tx.0 (new_row x.job t) (lt x (inl refl)) refl) (λ q i. apart.0 q i))
came t (x ∷ rs) rows r apart lt (inr i) = came t rs (with_row t rows x.job) r apart.1 (λ q j. omega (arith, lt q (inr j), length-set rows x.job.tx.0 (Some (new_row x.job t)))) i

module _ (set : Set) (refused : JobId → Bool) (t : ℕ) (s : State) (ok : IsCompiled set) (sound : Sound set refused t s) where
  nobody_there : (y : Row) (r : Release) → IsPending (after_cancelled set refused t s ok sound).rows y → In r (due set refused t s ok sound) → y.job.tx.0 ≢ r.job.tx.0
  unfolding due
  nobody_there y r here i same =
      let f = filter_in (λ (q : Release). q.tick == t) r (after_cancelled set refused t s ok sound).planned i in
      let now : r.tick ≡ t = eqb-true _ _ f.1 in
      let from = (after_late set refused t s ok sound).rows y here in
      let j : y.job.tx.0 ≡ from.was.job.tx.0 = ap (λ (k : JobId). k.tx.0) from.job in
      let b = sound.calendar.behind from.was r from.here (planned_before set refused t s ok sound r f.0) (sym j ∙ same) in
      let d : deadline_of set from.was.job ≤ period_of set from.was.job = deadline_le set s.rows from.was ok sound.frame from.here in
      let a : t + 1 ≤ y.release + deadline_of set y.job = still_alive set refused t s ok sound y here in
      let e : deadline_of set y.job ≡ deadline_of set from.was.job = ap (deadline_of set) from.job in
      omega (arith, b.0, from.release)

  due_apart : AreApart (due set refused t s ok sound)
  unfolding due
  due_apart = apart_due set t (after_cancelled set refused t s ok sound).planned (period_pos set refused t s ok sound) (spaced_before set refused t s ok sound)

  due_in_range : (r : Release) → In r (due set refused t s ok sound) → r.job.tx.0 < length (after_cancelled set refused t s ok sound).rows
  unfolding due
  due_in_range r i = omega (arith, sound.calendar.in_set r (planned_before set refused t s ok sound r (filter_in (λ (q : Release). q.tick == t) r (after_cancelled set refused t s ok sound).planned i).0), (after_late set refused t s ok sound).frame.count)

  module _ (reads : JobId → List OutsideRead) (ticks : ℕ → List ℕ) (h : Known set reads ticks t s) where
    after_late_known : Known set reads ticks t (after_cancelled set refused t s ok sound)
    unfolding after_cancelled late_rows
    after_late_known =
        let start : Known set reads ticks t (record s { now = t }) = record { count = h.count; row_by = h.row_by; ended_by = h.ended_by; released_by = h.released_by; done_row = h.done_row; items = h.items; ends = h.ends; plan_row = h.plan_row; plan_end = h.plan_end; plan_next = h.plan_next; placed = h.placed } in
        late_known set reads ticks t (in_falling_priority set (filter (is_due set t) (pending s.rows))) (record s { now = t })
        (distinct_sorted set (filter (is_due set t) (pending s.rows)) (distinct_filter (is_due set t) (pending s.rows) (distinct_pending s.rows 0 (λ n x e. omega (arith, sound.frame.named n x e)))))
        (λ r i.
        let f = filter_in (is_due set t) r (pending s.rows) (sorted_in set r (filter (is_due set t) (pending s.rows)) i) in
        let at = pending_in s.rows r f.0 in
        let here : IsPending s.rows r = subst (λ (k : ℕ). get_or s.rows k None ≡ Some r) (sym (sound.frame.named at.0 r at.1)) at.1 in
        record { was = r; here = here; job = refl; release = refl })
        start

    released_at : (r : Release) → In r (after_cancelled set refused t s ok sound).planned → (b : Bool) → (r.tick == t) ≡ b → (tx k : ℕ) → r.job.tx.0 ≡ tx → r.tick ≡ k
        → Placed (filter (λ q. not (q.tick == t)) (after_cancelled set refused t s ok sound).planned) (fold (with_row t) (after_cancelled set refused t s ok sound).rows (map (λ r. r.job) (due set refused t s ok sound))) (after_cancelled set refused t s ok sound).ended tx k
    unfolding due
    released_at r i true e tx k own at =
        let j : In r (filter (λ q. q.tick == t) (after_cancelled set refused t s ok sound).planned) = in_filter (λ (q : Release). q.tick == t) r (after_cancelled set refused t s ok sound).planned i e in
        inr (inl (new_row r.job t, came t (filter (λ q. q.tick == t) (after_cancelled set refused t s ok sound).planned) (after_cancelled set refused t s ok sound).rows r due_apart due_in_range j, own, sym (eqb-true _ _ e) ∙ at))
    released_at r i false e tx k own at = inl (r, in_filter (λ (q : Release). not (q.tick == t)) r (after_cancelled set refused t s ok sound).planned i (not_from_false _ e), own, at)

    pub arrived_known : Known set reads ticks t (arrived set t s)
    unfolding arrived with_releases with_cancellations after_cancelled due late_rows
    arrived_known =
        let k = after_late_known in
        let each = (after_due set refused t s ok sound).each in
        record {
          count = k.count;
          row_by = λ x i. elim (each x i) [ inl old ↦ k.row_by x old | inr c ↦ omega (arith, ap (λ (q : Row). q.release) c.is) ];
          ended_by = k.ended_by;
          released_by = k.released_by;
          done_row = λ e x i j same. elim (each x j) [ inl old ↦ k.done_row e x i old same | inr c ↦ omega (arith, k.released_by e i, ap (λ (q : Row). q.release) c.is) ];
          items = k.items;
          ends = k.ends;
          plan_row = λ x i. elim (each x i) [
            | inl old ↦ k.plan_row x old
            | inr c ↦ (let f = filter_in (λ (q : Release). q.tick == t) c.release (after_cancelled set refused t s ok sound).planned c.is_due in
                subst (λ (q : Row). In q.release (ticks q.job.tx.0)) (sym c.is) (subst (λ (n : ℕ). In n (ticks c.release.job.tx.0)) (eqb-true _ _ f.1) (k.plan_next c.release f.0)))
          ];
          plan_end = k.plan_end;
          plan_next = λ r i. k.plan_next r (filter_in (λ (q : Release). not (q.tick == t)) r (after_cancelled set refused t s ok sound).planned i).0;
          placed = λ tx n i. elim (k.placed tx n i) [
            | inl a ↦ released_at a.0 a.1 (a.0.tick == t) refl tx n a.2 a.3
            | inr o ↦ elim o [
              | inl b ↦ inr (inl (b.0, kept t (due set refused t s ok sound) (after_cancelled set refused t s ok sound).rows b.0 b.1 (λ r j. nobody_there b.0 r b.1 j), b.2, b.3))
              | inr c ↦ inr (inr c)
            ]
          ];
        }
