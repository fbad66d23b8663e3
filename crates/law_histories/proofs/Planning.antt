-- A plan keeps what is known.
use Rattle.std.proofs.Common.{◌≡◌, ◌≢◌, ◌⊎◌, ℕ, ◌+◌, ◌<◌, ◌≤◌, ◌==◌, Bool, true, false, cond, List, [], ◌∷◌, ◌++◌, length, set as with_item, refl, ap, sym, subst, inl, inr, arith}
use Rattle.std.proofs.lemmas.Bool.{eqb-true}
use Rattle.rt_base.specs.declared.ids.JobId.{JobId}
use Rattle.txn_set.specs.Set.{Set, txn_of, IsCompiled}
use Rattle.item_model.specs.declared.stored.OutsideRead.{OutsideRead}
use Rattle.step_journal.specs.State.{State, Row, new_row}
use Rattle.rt_base.specs.declared.release.Plans.{Plans}
use Rattle.rt_base.specs.declared.release.Release.{Release}
use Rattle.step_journal.specs.Instant.{with_row}
use Rattle.step_journal.specs.Step.{plans_of, next_job, with_plan}
use Rattle.law_histories.proofs.Members.{In}
use Rattle.law_histories.proofs.Invariant.{IsPending, written, written_here, written_other}
use Rattle.law_histories.proofs.Holding.{append_in, in_left, in_right}
use Rattle.law_histories.proofs.Calendar.{period_of, deadline_of, Sound, deadline_le}
use Rattle.law_histories.proofs.Histories.{MayPlan}
use Rattle.law_histories.proofs.Known.{Known}

-- one more tick of one transaction
pub record Adds (ticks ticks' : ℕ → List ℕ) (tx tick : ℕ) : Type 0 where
  pub old : (u k : ℕ) → In k (ticks u) → In k (ticks' u)
  pub new : In tick (ticks' tx)
  pub only : (u k : ℕ) → In k (ticks' u) → In k (ticks u) ⊎ ((tx ≡ u) × (tick ≡ k))

module _ (set : Set) (refused : JobId → Bool) (s : State) (tx tick : ℕ) (ok : IsCompiled set) (sound : Sound set refused (s.now + 1) s) (may : MayPlan set s tx tick)
    (reads : JobId → List OutsideRead) (ticks ticks' : ℕ → List ℕ) (adds : Adds ticks ticks' tx tick) (h : Known set reads ticks s.now s) where
  new_release : Release
  new_release = record { job = next_job s tx; tick = tick }

  noted : Plans
  noted = record { number = (plans_of s tx).number + 1; last = tick }

  later_plan : Known set reads ticks' s.now (record s { plans = with_item s.plans tx noted; planned = s.planned ++ new_release ∷ [] })
  unfolding new_release
  later_plan = record {
    count = h.count;
    row_by = h.row_by;
    ended_by = h.ended_by;
    released_by = h.released_by;
    done_row = h.done_row;
    items = h.items;
    ends = h.ends;
    plan_row = λ x i. adds.old x.job.tx.0 x.release (h.plan_row x i);
    plan_end = λ e i. adds.old e.job.tx.0 e.release (h.plan_end e i);
    plan_next = λ r i. elim (append_in r s.planned (new_release ∷ []) i) [
      | inl old ↦ adds.old r.job.tx.0 r.tick (h.plan_next r old)
      | inr n ↦ elim n [ inl is ↦ subst (λ (q : Release). In q.tick (ticks' q.job.tx.0)) (sym is) adds.new | inr none ↦ absurd none ]
    ];
    placed = λ u k i. elim (adds.only u k i) [
      | inl old ↦ elim (h.placed u k old) [ inl a ↦ inl (a.0, in_left a.0 s.planned (new_release ∷ []) a.1, a.2, a.3) | inr o ↦ inr o ]
      | inr n ↦ inl (new_release, in_right new_release s.planned (new_release ∷ []) (inl refl), n.0, n.1)
    ];
  }

  nobody : tick ≡ s.now → (y : Row) → IsPending s.rows y → y.job.tx.0 ≢ tx
  nobody now y i e =
      let o = sound.calendar.released y i in
      let same : plans_of s y.job.tx.0 ≡ plans_of s tx = ap (plans_of s) e in
      let g : (plans_of s tx).last + (txn_of set tx).period ≤ tick = may.gap (omega (arith, o.1, ap (λ (p : Plans). p.number) same)) in
      let d : deadline_of set y.job ≤ period_of set y.job = deadline_le set s.rows y ok sound.frame i in
      let p : period_of set y.job ≡ (txn_of set tx).period = ap (λ (n : ℕ). (txn_of set n).period) e in
      omega (arith, o.0, g, d, p, sound.calendar.alive y i, ap (λ (q : Plans). q.last) same, now)

  at_once : tick ≡ s.now → Known set reads ticks' s.now (record s { plans = with_item s.plans tx noted; rows = with_row tick s.rows (next_job s tx) })
  at_once now =
      let lt : tx < length s.rows = omega (arith, may.in_set, sound.frame.count) in
      let case : (y : Row) → IsPending (with_row tick s.rows (next_job s tx)) y → (y ≡ new_row (next_job s tx) tick) ⊎ ((y.job.tx.0 ≢ tx) × IsPending s.rows y) = λ y i. written s.rows tx (new_row (next_job s tx) tick) y lt refl i in
      record {
        count = h.count;
        row_by = λ x i. elim (case x i) [ inl e ↦ omega (arith, now, ap (λ (q : Row). q.release) e) | inr o ↦ h.row_by x o.1 ];
        ended_by = h.ended_by;
        released_by = h.released_by;
        done_row = λ e x i j same. elim (case x j) [ inl is ↦ omega (arith, now, h.released_by e i, ap (λ (q : Row). q.release) is) | inr o ↦ h.done_row e x i o.1 same ];
        items = h.items;
        ends = h.ends;
        plan_row = λ x i. elim (case x i) [ inl e ↦ subst (λ (q : Row). In q.release (ticks' q.job.tx.0)) (sym e) adds.new | inr o ↦ adds.old x.job.tx.0 x.release (h.plan_row x o.1) ];
        plan_end = λ e i. adds.old e.job.tx.0 e.release (h.plan_end e i);
        plan_next = λ r i. adds.old r.job.tx.0 r.tick (h.plan_next r i);
        placed = λ u k i. elim (adds.only u k i) [
          | inl old ↦ elim (h.placed u k old) [
            | inl a ↦ inl a
            | inr o ↦ elim o [
              | inl b ↦ inr (inl (b.0, written_other s.rows tx (new_row (next_job s tx) tick) b.0 (nobody now b.0 b.1) b.1, b.2, b.3))
              | inr c ↦ inr (inr c)
            ]
          ]
          | inr n ↦ inr (inl (new_row (next_job s tx) tick, written_here s.rows tx (new_row (next_job s tx) tick) lt refl, n.0, n.1))
        ];
      }

  plan_at : (b : Bool) → (tick == s.now) ≡ b → Known set reads ticks' s.now (record s { plans = with_item s.plans tx noted; planned = cond b s.planned (s.planned ++ new_release ∷ []); rows = cond b (with_row tick s.rows (next_job s tx)) s.rows })
  plan_at true e = at_once (eqb-true _ _ e)
  plan_at false e = later_plan

  pub plan_known : Known set reads ticks' s.now (with_plan s tx tick)
  unfolding with_plan noted new_release
  plan_known = plan_at (tick == s.now) refl
