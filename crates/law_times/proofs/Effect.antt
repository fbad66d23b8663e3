-- The effect of a granted step keeps the window, or leaves nothing pending at or above the transaction and begins a
-- new one.
use Rattle.std.proofs.Common.{◌≡◌, ◌≢◌, ◌⊎◌, ℕ, ◌+◌, ◌-◌, ◌<◌, ◌≤◌, Bool, true, false, List, length, Option, None, Some, get_or, set as with_item, refl, ap, sym, ◌∙◌, subst, inl, inr, arith}
use Rattle.std.proofs.lemmas.Bool.{cases_lt, cases_order}
use Rattle.std.specs.Prelude.{nat_le}
use Rattle.rt_base.specs.declared.ids.JobId.{JobId}
use Rattle.txn_set.specs.Set.{Set, txn_of, IsCompiled}
use Rattle.step_journal.specs.State.{Row, prio, prio_of}
use Rattle.rt_base.specs.declared.release.Plans.{Plans}
use Rattle.rt_base.specs.declared.release.Release.{Release}
use Rattle.step_journal.specs.LockRule.{locks, ceiling_of}
use Rattle.law_histories.proofs.Members.{In}
use Rattle.law_histories.proofs.Invariant.{IsPending, is_any, AreNamed, Protocol, Runs, in_range, written, holder_from_ceiling}
use Rattle.law_histories.proofs.Ends.{rows_without, left}
use Rattle.law_histories.proofs.Conflict.{IsDeclared}
use Rattle.law_histories.proofs.Delays.{le_blocking}
use Rattle.law_histories.proofs.DelayAll.{Like, like_ceiling}
use Rattle.law_times.specs.Response.{HoldsDemand}
use Rattle.law_histories.proofs.Totals.{steps_of}
use Rattle.law_times.proofs.Load.{todo_if, todo, pend, pend_written, pend_ended, pend_member, pend_some, todo_above}
use Rattle.law_times.proofs.Demand.{level}
use Rattle.law_times.proofs.Window.{Window, Went, IsBlockedFew, fresh_window, window_went}

-- the row of the job that stepped
pub record Again (x y : Row) : Type 0 where
  pub job : y.job ≡ x.job
  pub release : y.release ≡ x.release
  pub used : y.used ≡ x.used + 1

-- the row of another job
pub record Other (rows : List (Option Row)) (x y : Row) : Type 0 where
  pub like : Like rows y
  pub other : like.was.job.tx.0 ≢ x.job.tx.0

-- what a step of x makes of the rows
pub record Stepped (set : Set) (p : ℕ) (rows rows' : List (Option Row)) (x : Row) : Type 0 where
  pub each : (y : Row) → IsPending rows' y → Again x y ⊎ Other rows x y
  pub above : p ≤ prio set x → 1 + pend set p rows' ≤ pend set p rows
  pub below : pend set p rows' ≤ pend set p rows

less_todo : (b : Bool) (s u : ℕ) → todo_if b (s - (u + 1)) ≤ todo_if b (s - u)
less_todo true s u = omega arith
less_todo false s u = omega arith

-- the job goes on
pub step_goes_on : (set : Set) (p : ℕ) (rows : List (Option Row)) (x x' : Row) → length rows ≡ length set.txns → IsPending rows x → Again x x' → x.used < steps_of set x → Stepped set p rows (with_item rows x.job.tx.0 (Some x')) x
step_goes_on set p rows x x' size here a short =
    let lt : x.job.tx.0 < length rows = in_range rows _ x here in
    let w = pend_written set p rows x.job.tx.0 x' (omega (arith, lt, size)) lt in
    let was = ap (todo set p) here in
    let same : prio set x' ≡ prio set x = ap (prio_of set) a.job in
    let steps : steps_of set x' ≡ steps_of set x = ap (λ (k : JobId). (txn_of set k.tx.0).steps) a.job in
    let now : todo set p (Some x') ≡ todo_if (nat_le p (prio set x)) (steps_of set x - (x.used + 1)) =
    ap (λ (n : ℕ). todo_if (nat_le p n) (steps_of set x' - x'.used)) same ∙ (ap (λ (n : ℕ). todo_if (nat_le p (prio set x)) (n - x'.used)) steps ∙ ap (λ (n : ℕ). todo_if (nat_le p (prio set x)) (steps_of set x - n)) a.used) in
    record {
      each = λ y h. elim (written rows x.job.tx.0 x' y lt (ap (λ (k : JobId). k.tx.0) a.job) h) [
        | inl e ↦ inl (record { job = ap (λ (q : Row). q.job) e ∙ a.job; release = ap (λ (q : Row). q.release) e ∙ a.release; used = ap (λ (q : Row). q.used) e ∙ a.used })
        | inr o ↦ inr (record { like = record { was = y; here = o.1; job = refl; release = refl; used = refl; work = refl }; other = o.0 })
      ];
      above = λ le.
          let t = todo_above set p x le in
          let u : todo set p (Some x') ≡ steps_of set x' - x'.used = todo_above set p x' (omega (arith, le, same)) in
          omega (arith, w, was, t, u, steps, a.used);
      below = omega (arith, w, was, now, less_todo (nat_le p (prio set x)) (steps_of set x) x.used);
    }

-- the job ends
pub step_ends : (set : Set) (p : ℕ) (rows : List (Option Row)) (x : Row) → length rows ≡ length set.txns → IsPending rows x → x.used < steps_of set x → Stepped set p rows (rows_without rows x.job) x
step_ends set p rows x size here short =
    let lt : x.job.tx.0 < length rows = in_range rows _ x here in
    let w = pend_ended set p rows x.job (omega (arith, lt, size)) in
    let was = ap (todo set p) here in
    record {
      each = λ y h. let l = left rows x.job y h in inr (record {
        like = record { was = l.was; here = l.here; job = ap (λ (q : Row). q.job) l.is; release = ap (λ (q : Row). q.release) l.is; used = ap (λ (q : Row). q.used) l.is; work = ap (λ (q : Row). q.work) l.is };
        other = l.other;
      });
      above = λ le. omega (arith, w, was, todo_above set p x le);
      below = omega (arith, w, was);
    }

-- each lower job with a ceiling of the level has its quiet steps and the step that took the lock behind it
pub blocked_few : (set : Set) (p : ℕ) (rows : List (Option Row)) → length rows ≡ length set.txns → ((y : Row) → IsPending rows y → IsDeclared set y) → ((y : Row) → IsPending rows y → is_any (locks y.work) ≡ true → (txn_of set y.job.tx.0).quiet < y.used)
    → IsBlockedFew set p rows
blocked_few set p rows size declared quiet y h lt le =
    let b = le_blocking set y p (omega (arith, in_range rows _ y h, size)) (declared y h) lt le in
    let q = quiet y h (holder_from_ceiling set y (omega arith)) in
    omega (arith, b, q)

module _ (set : Set) (tx r t : ℕ) (rows rows' : List (Option Row)) (coming : List Release) (notes : List Plans) (refused : JobId → Bool) (x : Row) (ok : IsCompiled set) (holds : HoldsDemand set tx r)
    (size : length rows ≡ length set.txns) (named : AreNamed set rows) (inv : Protocol set rows refused) (run : Runs set rows refused x) (short : x.used < steps_of set x) (w : Window set tx r t rows coming notes) (st : Stepped set (level set tx) rows rows' x) where
  -- the running job is at or above the level
  went_above : level set tx ≤ prio set x → Went set tx r t rows rows' coming notes w
  went_above le = record {
    low = w.low;
    since = λ y h above. elim (st.each y h) [
      | inl a ↦ omega (arith, w.since x run.here le, a.release)
      | inr o ↦ (let s : w.start ≤ o.like.was.release = w.since o.like.was o.like.here (omega (arith, above, ap (prio_of set) o.like.job)) in omega (arith, s, o.like.release))
    ];
    less = omega (arith, st.above le);
    lower = λ y h lt hold. elim (st.each y h) [
      | inl a ↦ absurd (omega (arith, ap (prio_of set) a.job))
      | inr o ↦ (let s : steps_of set o.like.was ≤ o.like.was.used + w.low = w.lower o.like.was o.like.here (omega (arith, lt, ap (prio_of set) o.like.job)) (omega (arith, hold, like_ceiling set o.like.was y o.like.work)) in
          omega (arith, s, o.like.used, ap (λ (k : JobId). (txn_of set k.tx.0).steps) o.like.job))
    ];
  }

  -- two lower jobs do not both hold such a ceiling
  only_one : (z : Row) → IsPending rows z → z.job.tx.0 ≢ x.job.tx.0 → prio set x < level set tx → prio set z < level set tx → level set tx ≤ ceiling_of set x → level set tx ≤ ceiling_of set z → ⊥
  only_one z hz ne lx lz hx hold =
      elim (cases_order (prio set z) (prio set x)) [
        | inl e ↦ ne (named.apart z x hz run.here e)
        | inr o ↦ elim o [
          | inl below ↦ omega (arith, inv.ordered x z run.here hz (holder_from_ceiling set x (omega arith)) below)
          | inr above ↦ omega (arith, inv.ordered z x hz run.here (holder_from_ceiling set z (omega arith)) above)
        ]
      ]

  -- the running job is below, and holds the ceiling for which a job at or above the level waits
  went_below : prio set x < level set tx → level set tx ≤ ceiling_of set x → Went set tx r t rows rows' coming notes w
  went_below below hx =
      let own : steps_of set x ≤ x.used + w.low = w.lower x run.here below hx in
      record {
        low = w.low - 1;
        since = λ y h above. elim (st.each y h) [
          | inl a ↦ absurd (omega (arith, ap (prio_of set) a.job))
          | inr o ↦ (let s : w.start ≤ o.like.was.release = w.since o.like.was o.like.here (omega (arith, above, ap (prio_of set) o.like.job)) in omega (arith, s, o.like.release))
        ];
        less = omega (arith, st.below, own, short);
        lower = λ y h lt hold. elim (st.each y h) [
          | inl a ↦ omega (arith, own, short, a.used, ap (λ (k : JobId). (txn_of set k.tx.0).steps) a.job)
          | inr o ↦ absurd (only_one o.like.was o.like.here o.other below (omega (arith, lt, ap (prio_of set) o.like.job)) hx (omega (arith, hold, like_ceiling set o.like.was y o.like.work)))
        ];
      }

  waits_on_x : prio set x < level set tx → 0 < pend set (level set tx) rows → level set tx ≤ ceiling_of set x
  waits_on_x below pos =
      let k = pend_some set (level set tx) rows pos in
      let here : IsPending rows k.1 = subst (λ (n : ℕ). get_or rows n None ≡ Some k.1) (sym (named.named k.0 k.1 k.2)) k.2 in
      let above : prio set x < prio set k.1 = omega (arith, k.3) in
      omega (arith, run.holds k.1 here above, k.3)

  went : 0 < pend set (level set tx) rows' → Went set tx r t rows rows' coming notes w
  went pos = elim (cases_lt (prio set x) (level set tx)) [
    | inl below ↦ went_below below (waits_on_x below (omega (arith, st.below)))
    | inr le ↦ went_above le
  ]

  -- the window goes on, or a new one begins
  pub effect_window : length rows' ≡ length set.txns → ((y : Row) → IsPending rows' y → y.used < steps_of set y) → IsBlockedFew set (level set tx) rows' → ((q : Release) → In q coming → t + 1 ≤ q.tick) → Window set tx r (t + 1) rows' coming notes
  effect_window size' used few future = elim (cases_lt 0 (pend set (level set tx) rows')) [
    | inl pos ↦ window_went set tx r t rows rows' coming notes ok holds w (went pos) pos
    | inr none ↦ fresh_window set tx r (t + 1) rows' coming notes holds.positive
        (λ y h le. let m = pend_member set (level set tx) rows' y y.job.tx.0 (omega (arith, in_range rows' _ y h, size')) h le in omega (arith, m, used y h))
        (omega arith) few future
  ]
