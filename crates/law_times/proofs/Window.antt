-- The invariant of deadlines: a window from the last instant at which no job at or above a transaction was pending.
-- The ticks since then, with the steps that its jobs may still take, are at most the blocking and the steps of the
-- jobs released since.
use Rattle.std.proofs.Common.{◌≡◌, ◌≢◌, ◌⊎◌, ℕ, ◌+◌, ◌-◌, ◌*◌, ◌<◌, ◌≤◌, Bool, true, false, List, length, Option, get_or, refl, ap, ◌∙◌, inl, inr, arith, suc-mul, zero-mul}
use Rattle.std.proofs.lemmas.Bool.{cases_eq}
use Rattle.std.specs.Prelude.{nat_le}
use Rattle.rt_base.specs.declared.ids.JobId.{JobId}
use Rattle.txn_set.specs.Set.{Set, txn_of, IsCompiled}
use Rattle.step_journal.specs.State.{Row, prio, prio_of, new_row}
use Rattle.rt_base.specs.declared.release.Plans.{Plans}
use Rattle.rt_base.specs.declared.release.Release.{Release}
use Rattle.step_journal.specs.LockRule.{ceiling_of}
use Rattle.step_journal.specs.Instant.{with_row}
use Rattle.txn_set.specs.Ceilings.{blocking}
use Rattle.law_histories.proofs.Members.{In}
use Rattle.law_histories.proofs.Invariant.{IsPending, written}
use Rattle.law_histories.proofs.DelayAll.{Like, like_ceiling, no_ceiling_new}
use Rattle.law_times.specs.Response.{HoldsDemand}
use Rattle.law_histories.proofs.Totals.{steps_of}
use Rattle.law_times.proofs.Load.{todo_if, pend, pend_written, work, one_more, one_more_here, one_more_there, work_more}
use Rattle.law_times.proofs.Demand.{level, period_at, not_full}

-- the plans of a transaction
abbrev pub notes_at : List Plans → ℕ → Plans
notes_at notes n = get_or notes n (record { number = 0; last = 0 })

-- From `start` on, where no job at or above the transaction was pending: `count` jobs of each transaction were
-- released, one lower job may still take
-- `low` steps, and the ticks since then, with the steps that pending jobs may still take, are within the blocking and
-- the steps of the released jobs.
pub record Window (set : Set) (tx r t : ℕ) (rows : List (Option Row)) (coming : List Release) (notes : List Plans) : Type 0 where
  pub start : ℕ
  pub low : ℕ
  pub count : ℕ → ℕ
  pub begun : start ≤ t
  pub within : t < start + r
  pub since : (x : Row) → IsPending rows x → level set tx ≤ prio set x → start ≤ x.release
  pub budget : t + pend set (level set tx) rows + low ≤ start + blocking set (level set tx) + work set (level set tx) count
  pub lower : (y : Row) → IsPending rows y → prio set y < level set tx → level set tx ≤ ceiling_of set y → steps_of set y ≤ y.used + low
  pub spaced : (q : Release) → In q coming → start + count q.job.tx.0 * period_at set q.job.tx.0 ≤ q.tick
  pub noted : (n : ℕ) → 0 < count n → (0 < (notes_at notes n).number) × (start + count n * period_at set n ≤ (notes_at notes n).last + period_at set n)
  pub marks : (n : ℕ) → start + count n * period_at set n ≤ t + period_at set n

-- each lower job with such a ceiling has all but the blocking behind it
abbrev pub IsBlockedFew : Set → ℕ → List (Option Row) → Type 0
IsBlockedFew set p rows = (y : Row) → IsPending rows y → prio set y < p → p ≤ ceiling_of set y → steps_of set y ≤ y.used + blocking set p

-- a new window, where no job at or above is pending
pub fresh_window : (set : Set) (tx r t : ℕ) (rows : List (Option Row)) (coming : List Release) (notes : List Plans) → 1 ≤ r → ((x : Row) → IsPending rows x → level set tx ≤ prio set x → ⊥) → pend set (level set tx) rows ≡ 0
    → IsBlockedFew set (level set tx) rows → ((q : Release) → In q coming → t ≤ q.tick) → Window set tx r t rows coming notes
fresh_window set tx r t rows coming notes pos above none few future = record {
  start = t;
  low = blocking set (level set tx);
  count = λ _. 0;
  begun = omega arith;
  within = omega arith;
  since = λ x h le. absurd (above x h le);
  budget = omega (arith, none);
  lower = few;
  spaced = λ q i. omega (arith, future q i, zero-mul (period_at set q.job.tx.0));
  noted = λ n more. absurd (omega arith);
  marks = λ n. omega (arith, zero-mul (period_at set n));
}

-- rows that stand for others, with no more to do

pub window_like : (set : Set) (tx r t : ℕ) (rows rows' : List (Option Row)) (coming : List Release) (notes : List Plans) → Window set tx r t rows coming notes → ((z : Row) → IsPending rows' z → Like rows z)
    → pend set (level set tx) rows' ≤ pend set (level set tx) rows → Window set tx r t rows' coming notes
window_like set tx r t rows rows' coming notes w like le = record {
  start = w.start;
  low = w.low;
  count = w.count;
  begun = w.begun;
  within = w.within;
  since = λ x h above. let l = like x h in let s : w.start ≤ l.was.release = w.since l.was l.here (omega (arith, above, ap (prio_of set) l.job)) in omega (arith, s, l.release);
  budget = omega (arith, w.budget, le);
  lower = λ y h lt hold.
      let l = like y h in
      let s : steps_of set l.was ≤ l.was.used + w.low = w.lower l.was l.here (omega (arith, lt, ap (prio_of set) l.job)) (omega (arith, hold, like_ceiling set l.was y l.work)) in
      omega (arith, s, l.used, ap (λ (k : JobId). (txn_of set k.tx.0).steps) l.job);
  spaced = w.spaced;
  noted = w.noted;
  marks = w.marks;
}

-- fewer planned releases, and more planned jobs
pub window_noted : (set : Set) (tx r t : ℕ) (rows : List (Option Row)) (coming coming' : List Release) (notes notes' : List Plans) → (w : Window set tx r t rows coming notes)
    → ((q : Release) → In q coming' → w.start + w.count q.job.tx.0 * period_at set q.job.tx.0 ≤ q.tick)
    → ((n : ℕ) → 0 < (notes_at notes n).number → (0 < (notes_at notes' n).number) × ((notes_at notes n).last ≤ (notes_at notes' n).last)) → Window set tx r t rows coming' notes'
window_noted set tx r t rows coming coming' notes notes' w spaced more = record {
  start = w.start;
  low = w.low;
  count = w.count;
  begun = w.begun;
  within = w.within;
  since = w.since;
  budget = w.budget;
  lower = w.lower;
  spaced = spaced;
  noted = λ n some. let o = w.noted n some in let m = more n o.0 in (m.0, omega (arith, o.1, m.1));
  marks = w.marks;
}

-- a release

new_todo : (b : Bool) (n : ℕ) → todo_if b (n - 0) ≡ todo_if b n
new_todo true n = omega arith
new_todo false n = refl

module _ (set : Set) (tx r t : ℕ) (rows : List (Option Row)) (coming coming' : List Release) (notes notes' : List Plans) (job : JobId) (w : Window set tx r t rows coming notes)
    (in_set : job.tx.0 < length set.txns) (size : length rows ≡ length set.txns)
    (due : w.start + w.count job.tx.0 * period_at set job.tx.0 ≤ t) (note : (0 < (notes_at notes' job.tx.0).number) × (t ≤ (notes_at notes' job.tx.0).last))
    (kept : (n : ℕ) → 0 < (notes_at notes n).number → (0 < (notes_at notes' n).number) × ((notes_at notes n).last ≤ (notes_at notes' n).last))
    (rest : (q : Release) → In q coming' → In q coming × (q.job.tx.0 ≡ job.tx.0 → t + period_at set job.tx.0 ≤ q.tick)) where
  more : ℕ → ℕ
  more = one_more w.count job.tx.0

  more_here : (n : ℕ) → n ≡ job.tx.0 → more n * period_at set n ≡ w.count job.tx.0 * period_at set job.tx.0 + period_at set job.tx.0
  unfolding more
  more_here n e = ap (λ (k : ℕ). one_more w.count job.tx.0 k * period_at set k) e ∙ (ap (λ (c : ℕ). c * period_at set job.tx.0) (one_more_here w.count job.tx.0) ∙ suc-mul (w.count job.tx.0) (period_at set job.tx.0))

  more_there : (n : ℕ) → n ≢ job.tx.0 → more n ≡ w.count n
  unfolding more
  more_there n ne = one_more_there w.count job.tx.0 n ne

  times_there : (n : ℕ) → n ≢ job.tx.0 → more n * period_at set n ≡ w.count n * period_at set n
  times_there n ne = ap (λ (c : ℕ). c * period_at set n) (more_there n ne)

  case : (y : Row) → IsPending (with_row t rows job) y → (y ≡ new_row job t) ⊎ ((y.job.tx.0 ≢ job.tx.0) × IsPending rows y)
  case y h = written rows job.tx.0 (new_row job t) y (omega (arith, in_set, size)) refl h

  budget_more : t + pend set (level set tx) (with_row t rows job) + w.low ≤ w.start + blocking set (level set tx) + work set (level set tx) more
  unfolding more
  budget_more =
      let p = pend_written set (level set tx) rows job.tx.0 (new_row job t) in_set (omega (arith, in_set, size)) in
      let k = work_more set (level set tx) w.count job.tx.0 in_set in
      let n = new_todo (nat_le (level set tx) (prio_of set job)) (txn_of set job.tx.0).steps in
      omega (arith, w.budget, p, k, n)

  pub window_release : Window set tx r t (with_row t rows job) coming' notes'
  window_release = record {
    start = w.start;
    low = w.low;
    count = more;
    begun = w.begun;
    within = w.within;
    since = λ x h above. elim (case x h) [ inl e ↦ omega (arith, w.begun, ap (λ (q : Row). q.release) e) | inr o ↦ w.since x o.1 above ];
    budget = budget_more;
    lower = λ y h lt hold. elim (case y h) [ inl e ↦ absurd (omega (arith, ap (ceiling_of set) e ∙ no_ceiling_new set job t)) | inr o ↦ w.lower y o.1 lt hold ];
    spaced = λ q i. let o = rest q i in elim (cases_eq q.job.tx.0 job.tx.0) [
      | inl e ↦ omega (arith, more_here q.job.tx.0 e, o.1 e, due)
      | inr ne ↦ omega (arith, times_there q.job.tx.0 ne, w.spaced q o.0)
    ];
    noted = λ n some. elim (cases_eq n job.tx.0) [
      | inl e ↦ (let a = ap (λ (k : ℕ). (notes_at notes' k).number) e in let b = ap (λ (k : ℕ). (notes_at notes' k).last) e in let c = ap (period_at set) e in
          (omega (arith, note.0, a), omega (arith, note.1, b, c, due, more_here n e)))
      | inr ne ↦ (let o = w.noted n (omega (arith, more_there n ne, some)) in let k = kept n o.0 in (k.0, omega (arith, o.1, k.1, times_there n ne)))
    ];
    marks = λ n. elim (cases_eq n job.tx.0) [
      | inl e ↦ omega (arith, due, more_here n e, ap (period_at set) e)
      | inr ne ↦ omega (arith, w.marks n, times_there n ne)
    ];
  }

-- one tick later, with other rows: the window goes on where some job at or above is still pending

pub record Went (set : Set) (tx r t : ℕ) (rows rows' : List (Option Row)) (coming : List Release) (notes : List Plans) (w : Window set tx r t rows coming notes) : Type 0 where
  pub low : ℕ
  pub since : (x : Row) → IsPending rows' x → level set tx ≤ prio set x → w.start ≤ x.release
  pub less : 1 + pend set (level set tx) rows' + low ≤ pend set (level set tx) rows + w.low
  pub lower : (y : Row) → IsPending rows' y → prio set y < level set tx → level set tx ≤ ceiling_of set y → steps_of set y ≤ y.used + low

pub window_went : (set : Set) (tx r t : ℕ) (rows rows' : List (Option Row)) (coming : List Release) (notes : List Plans) → IsCompiled set → HoldsDemand set tx r → (w : Window set tx r t rows coming notes) → Went set tx r t rows rows' coming notes w
    → 0 < pend set (level set tx) rows' → Window set tx r (t + 1) rows' coming notes
window_went set tx r t rows rows' coming notes ok holds w g pos = record {
  start = w.start;
  low = g.low;
  count = w.count;
  begun = omega (arith, w.begun);
  within = not_full set tx r ok holds w.count w.start t (pend set (level set tx) rows') g.low w.marks (omega (arith, w.budget, g.less)) pos w.within;
  since = g.since;
  budget = omega (arith, w.budget, g.less);
  lower = g.lower;
  spaced = w.spaced;
  noted = w.noted;
  marks = λ n. omega (arith, w.marks n);
}
