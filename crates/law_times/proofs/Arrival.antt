-- The cancellations and releases of an instant keep the window, and cancel no job of the transaction: its demand is
-- met before its deadline.
use Rattle.std.proofs.Common.{◌≡◌, ◌≢◌, ℕ, ◌+◌, ◌<◌, ◌≤◌, ◌==◌, Bool, not, List, [], ◌∷◌, ◌++◌, length, map, Option, None, Some, get_or, refl, ap, sym, ◌∙◌, subst, inl, inr, arith}
use Rattle.std.proofs.lemmas.List.{length-set}
use Rattle.std.proofs.lemmas.Bool.{eqb-true, eqb-false, not-true}
use Rattle.std.specs.List.{fold, filter}
use Rattle.rt_base.specs.declared.ids.JobId.{JobId}
use Rattle.rt_base.specs.declared.operation.End.TheVariants as end
use Rattle.txn_set.specs.Set.{Set, txn_of, IsCompiled}
use Rattle.step_journal.specs.State.{State, Row, new_row, pending}
use Rattle.rt_base.specs.declared.release.Plans.{Plans}
use Rattle.rt_base.specs.declared.release.Release.{Release}
use Rattle.step_journal.specs.declared.entry.EndedJob.{EndedJob}
use Rattle.step_journal.specs.LockRule.{in_falling_priority}
use Rattle.step_journal.specs.Instant.{with_row, with_end, with_late, is_due, with_cancellations, with_releases, arrived}
use Rattle.law_histories.proofs.Members.{In, filter_in, pending_in}
use Rattle.law_histories.proofs.Invariant.{IsPending}
use Rattle.law_histories.proofs.Holding.{append_in}
use Rattle.law_histories.proofs.Ends.{rows_without}
use Rattle.law_histories.proofs.Calendar.{AreSpaced, Calendar, Sound, times_at, period_of, sorted_in, spaced_two, late_rows, after_cancelled, due, after_late, spaced_filter}
use Rattle.law_histories.proofs.DelayAll.{left_like}
use Rattle.law_times.specs.Response.{HoldsDemand}
use Rattle.law_times.proofs.Load.{pend_left}
use Rattle.law_times.proofs.Demand.{level, period_at}
use Rattle.law_times.proofs.Window.{Window, notes_at, window_like, window_noted, window_release}

-- each ended job of the transaction ended in time, and not late
abbrev pub IsOver : ℕ → ℕ → List EndedJob → Type 0
IsOver tx r ended = (e : EndedJob) → In e ended → e.job.tx.0 ≡ tx → (e.tick ≤ e.release + r) × (e.end ≢ end.Late)

pub over_more : (tx r : ℕ) (ended : List EndedJob) (d : EndedJob) → IsOver tx r ended → (d.job.tx.0 ≡ tx → (d.tick ≤ d.release + r) × (d.end ≢ end.Late)) → IsOver tx r (ended ++ d ∷ [])
over_more tx r ended d h new e i own = elim (append_in e ended (d ∷ []) i) [
  | inl old ↦ h e old own
  | inr now ↦ elim now [
    | inl is ↦ (let o = new (sym (ap (λ (q : EndedJob). q.job.tx.0) is) ∙ own) in (omega (arith, o.0, ap (λ (q : EndedJob). q.tick) is, ap (λ (q : EndedJob). q.release) is), λ late. o.1 (sym (ap (λ (q : EndedJob). q.end) is) ∙ late)))
    | inr none ↦ absurd none
  ]
]

-- the cancellations

late_window : (set : Set) (tx r t : ℕ) (gone : List Row) (s : State) → Window set tx r t s.rows s.planned s.plans → Window set tx r t (fold (with_late t) s gone).rows (fold (with_late t) s gone).planned (fold (with_late t) s gone).plans
unfolding with_end
late_window set tx r t [] s w = w
late_window set tx r t (g ∷ gone) s w =
    late_window set tx r t gone (with_late t s g) (window_like set tx r t s.rows (rows_without s.rows g.job) s.planned s.plans w (left_like s.rows g.job) (pend_left set (level set tx) s.rows g.job))

late_over : (tx r t : ℕ) (gone : List Row) (s : State) → ((g : Row) → In g gone → g.job.tx.0 ≢ tx) → IsOver tx r s.ended → IsOver tx r (fold (with_late t) s gone).ended
unfolding with_end
late_over tx r t [] s ne h = h
late_over tx r t (g ∷ gone) s ne h =
    late_over tx r t gone (with_late t s g) (λ k i. ne k (inr i))
    (over_more tx r s.ended (record { job = g.job; release = g.release; end = end.Late; tick = t }) h (λ own. absurd (ne g (inl refl) own)))

-- the releases

-- what holds of the planned releases before the events of a tick
pub record Comes (set : Set) (t : ℕ) (planned : List Release) (notes : List Plans) : Type 0 where
  pub in_set : (q : Release) → In q planned → q.job.tx.0 < length set.txns
  pub spaced : AreSpaced set planned
  pub noted : (q : Release) → In q planned → (q.tick ≤ (notes_at notes q.job.tx.0).last) × (q.job.serial < (notes_at notes q.job.tx.0).number)
  pub future : (q : Release) → In q planned → t ≤ q.tick

pub comes_from : (set : Set) (refused : JobId → Bool) (t : ℕ) (s : State) → Calendar set refused t s → Comes set t s.planned s.plans
comes_from set refused t s c = record { in_set = c.in_set; spaced = c.spaced; noted = c.planned; future = c.future }

released_window : (set : Set) (tx r t : ℕ) (ds later : List Release) (rows : List (Option Row)) (notes : List Plans) → length rows ≡ length set.txns → Window set tx r t rows (ds ++ later) notes → AreSpaced set ds
    → ((d : Release) → In d ds → (d.tick ≡ t) × (d.job.tx.0 < length set.txns) × (0 < (notes_at notes d.job.tx.0).number) × (t ≤ (notes_at notes d.job.tx.0).last))
    → ((d q : Release) → In d ds → In q later → d.job.tx.0 ≡ q.job.tx.0 → t + period_at set d.job.tx.0 ≤ q.tick)
    → Window set tx r t (fold (with_row t) rows (map (λ q. q.job) ds)) later notes
released_window set tx r t [] later rows notes size w spaced facts far = w
released_window set tx r t (d ∷ ds) later rows notes size w spaced facts far =
    let f = facts d (inl refl) in
    let next = window_release set tx r t rows (d ∷ ds ++ later) (ds ++ later) notes notes d.job w f.1 size (omega (arith, w.spaced d (inl refl), f.0)) (f.2, f.3) (λ n pos. (pos, omega arith))
    (λ q i. (
      inr i,
      λ same. elim (append_in q ds later i) [
        | inl a ↦ (let l : d.tick + period_of set d.job ≤ q.tick = (spaced.0 q a (sym same)).later in omega (arith, l, f.0))
        | inr b ↦ far d q (inl refl) b (sym same)
      ],
    )) in
    released_window set tx r t ds later (with_row t rows d.job) notes (length-set rows d.job.tx.0 (Some (new_row d.job t)) ∙ size) next spaced.1 (λ q i. facts q (inr i)) (λ q k i j. far q k (inr i) j)

releases_window : (set : Set) (tx r t : ℕ) (rows : List (Option Row)) (planned : List Release) (notes : List Plans) → IsCompiled set → length rows ≡ length set.txns → Comes set t planned notes → Window set tx r t rows planned notes
    → Window set tx r t (fold (with_row t) rows (map (λ q. q.job) (filter (λ q. q.tick == t) planned))) (filter (λ q. not (q.tick == t)) planned) notes
releases_window set tx r t rows planned notes ok size c w =
    let is_now : (d : Release) → In d (filter (λ q. q.tick == t) planned) → In d planned × (d.tick ≡ t) = λ d i. (let f = filter_in (λ (q : Release). q.tick == t) d planned i in (f.0, eqb-true _ _ f.1)) in
    let is_later : (d : Release) → In d (filter (λ q. not (q.tick == t)) planned) → In d planned × (d.tick ≢ t) = λ d i. (let f = filter_in (λ (q : Release). not (q.tick == t)) d planned i in (f.0, eqb-false _ _ (not-true _ f.1))) in
    let before : (q : Release) → In q (filter (λ q. q.tick == t) planned ++ filter (λ q. not (q.tick == t)) planned) → In q planned =
    λ q i. elim (append_in q (filter (λ q. q.tick == t) planned) (filter (λ q. not (q.tick == t)) planned) i) [ inl a ↦ (is_now q a).0 | inr b ↦ (is_later q b).0 ] in
    released_window set tx r t (filter (λ q. q.tick == t) planned) (filter (λ q. not (q.tick == t)) planned) rows notes size
    (window_noted set tx r t rows planned (filter (λ q. q.tick == t) planned ++ filter (λ q. not (q.tick == t)) planned) notes notes w (λ q i. w.spaced q (before q i)) (λ n pos. (pos, omega arith)))
    (spaced_filter set (λ q. q.tick == t) planned c.spaced)
    (λ d i. let n = is_now d i in let o = c.noted d n.0 in (n.1, c.in_set d n.0, omega (arith, o.1), omega (arith, o.0, n.1)))
    (λ d q i j same.
    let a = is_now d i in
    let b = is_later q j in
    elim (spaced_two set d q planned a.0 b.0 c.spaced same) [
      | inl is ↦ absurd (b.1 (sym (ap (λ (k : Release). k.tick) is) ∙ a.1))
      | inr o ↦ elim o [
        | inl f ↦ (let l : d.tick + period_of set d.job ≤ q.tick = f.later in omega (arith, l, a.1))
        | inr g ↦ absurd (let l : q.tick + period_of set q.job ≤ d.tick = g.later in let u : t ≤ q.tick = c.future q b.0 in let pos = (times_at set q.job.tx.0 ok (c.in_set q b.0)).period.0 in omega (arith, l, u, a.1, pos))
      ]
    ])

-- to arrive at a tick

pub record Timely (set : Set) (tx r t : ℕ) (s : State) : Type 0 where
  pub window : Window set tx r t s.rows s.planned s.plans
  pub over : IsOver tx r s.ended

pub arrived_timely : (set : Set) (tx r : ℕ) (refused : JobId → Bool) (t : ℕ) (s : State) (ok : IsCompiled set) (sound : Sound set refused t s) → HoldsDemand set tx r → Timely set tx r t s → Timely set tx r t (arrived set t s)
unfolding arrived with_releases with_cancellations after_cancelled due late_rows
arrived_timely set tx r refused t s ok sound holds h =
    let late = late_window set tx r t (in_falling_priority set (filter (is_due set t) (pending s.rows))) (record s { now = t }) h.window in
    let a = after_late set refused t s ok sound in
    let c = comes_from set refused t s sound.calendar in
    let k : Comes set t (after_cancelled set refused t s ok sound).planned (after_cancelled set refused t s ok sound).plans =
    subst (λ (l : List Plans). Comes set t (after_cancelled set refused t s ok sound).planned l) (sym a.plans) (subst (λ (l : List Release). Comes set t l s.plans) (sym a.planned) c) in
    record {
      window = releases_window set tx r t (after_cancelled set refused t s ok sound).rows (after_cancelled set refused t s ok sound).planned (after_cancelled set refused t s ok sound).plans ok a.frame.count k late;
      over = late_over tx r t (in_falling_priority set (filter (is_due set t) (pending s.rows))) (record s { now = t }) (λ g i own.
          let f = filter_in (is_due set t) g (pending s.rows) (sorted_in set g (filter (is_due set t) (pending s.rows)) i) in
          let at = pending_in s.rows g f.0 in
          let here : IsPending s.rows g = subst (λ (n : ℕ). get_or s.rows n None ≡ Some g) (sym (sound.frame.named at.0 g at.1)) at.1 in
          let due : g.release + (txn_of set g.job.tx.0).deadline ≡ t = eqb-true _ _ f.1 in
          let d : (txn_of set g.job.tx.0).deadline ≡ (txn_of set tx).deadline = ap (λ (n : ℕ). (txn_of set n).deadline) own in
          let since : h.window.start ≤ g.release = h.window.since g here (omega (arith, ap (level set) own)) in
          omega (arith, due, d, since, h.window.within, holds.in_deadline)) h.over;
    }
