-- A granted and a refused step keep the protocol's invariant: the grant tests the new lock against every other
-- holder, and the running job has no holder above it.
use Rattle.std.proofs.Common.{◌≡◌, ◌≢◌, ◌⊎◌, ◌<◌, ◌≤◌, Bool, true, false, ◌||◌, List, [], ◌∷◌, length, map, Option, None, Some, set as with_item, refl, ap, sym, ◌∙◌, inl, inr, arith}
use Rattle.std.proofs.lemmas.Bool.{cases_lt, cases_order, cases_eq, or_cases, or_left, or_right, and_from, eq-eqb}
use Rattle.rt_base.specs.declared.ids.JobId.{JobId}
use Rattle.txn_set.specs.Set.{Set}
use Rattle.txn_set.specs.Ceilings.{greatest}
use Rattle.step_journal.specs.State.{Row, prio, prio_of, same_job}
use Rattle.step_journal.specs.LockRule.{Lock, locks, lock_ceiling, ceiling_of, system_ceiling, Above}
use Rattle.law_histories.proofs.Invariant.{IsPending, is_any, IsHolder, AreNamed, Blocks, Protocol, Runs, IsRefused, in_range, written, written_here, written_other, same_row, holder_from_ceiling, below_system, same_job_is}

-- x' is the running job's row after a granted step: its locks grow only where the lock rule grants
pub record IsGranted (set : Set) (rows : List (Option Row)) (x x' : Row) : Type 0 where
  pub job : x'.job ≡ x.job
  pub runs : x'.waits_on ≡ None
  pub keeps : ceiling_of set x ≤ ceiling_of set x'
  pub rule : (is_any (locks x'.work) ≡ is_any (locks x.work)) ⊎ (system_ceiling set rows x < prio set x)

same_job_self : (j : JobId) → same_job j j ≡ true
same_job_self j = and_from _ _ (eq-eqb j.tx.0 j.tx.0 refl) (eq-eqb j.serial j.serial refl)

same_tx : (x y : Row) → x.job ≡ y.job → x.job.tx.0 ≡ y.job.tx.0
same_tx x y e = ap (λ (j : JobId). j.tx.0) e

same_prio : (set : Set) (x y : Row) → x.job ≡ y.job → prio set x ≡ prio set y
same_prio set x y e = ap (prio_of set) e

-- the row of the running job after a write at its place
after : List (Option Row) → Row → Row → List (Option Row)
after rows x x' = with_item rows x.job.tx.0 (Some x')

granted_ordered : (set : Set) (rows : List (Option Row)) (refused : JobId → Bool) (x x' y z : Row) → Protocol set rows refused → Runs set rows refused x → IsGranted set rows x x'
    → IsPending (after rows x x') y → IsPending (after rows x x') z → IsHolder y → prio set z < prio set y → ceiling_of set z < prio set y
unfolding after
granted_ordered set rows refused x x' y z inv run ok hy hz holds lt =
    let len : x.job.tx.0 < length rows = in_range rows _ x run.here in
    let p : prio set x' ≡ prio set x = same_prio set x' x ok.job in
    elim (written rows x.job.tx.0 x' y len (same_tx x' x ok.job) hy) [
      | inl ey ↦ elim (written rows x.job.tx.0 x' z len (same_tx x' x ok.job) hz) [
        | inl ez ↦ absurd (omega (arith, ap (prio set) ey, ap (prio set) ez))
        | inr oz ↦ elim ok.rule [
          | inl same ↦ (let h : IsHolder x = sym same ∙ ap (λ (r : Row). is_any (locks r.work)) (sym ey) ∙ holds in
              let lt' : prio set z < prio set x = omega (arith, ap (prio set) ey) in
              omega (arith, inv.ordered x z run.here oz.1 h lt', ap (prio set) ey))
          | inr rule ↦ omega (arith, below_system set rows x z oz.1 oz.0, ap (prio set) ey)
        ]
      ]
      | inr oy ↦ elim (written rows x.job.tx.0 x' z len (same_tx x' x ok.job) hz) [
        | inl ez ↦ (let lt' : prio set x < prio set y = omega (arith, ap (prio set) ez) in
            let none : is_any (locks y.work) ≡ false = run.no_lock y oy.1 lt' in
            absurd (cc))
        | inr oz ↦ inv.ordered y z oy.1 oz.1 holds lt
      ]
    ]

-- a row of the state after the write, at its old place
granted_waits : (set : Set) (rows : List (Option Row)) (refused : JobId → Bool) (x x' y : Row) (j : JobId) → Protocol set rows refused → Runs set rows refused x → IsGranted set rows x x'
    → IsPending (after rows x x') y → y.waits_on ≡ Some j → (IsPending rows y) × Blocks set (after rows x x') y j
unfolding after
granted_waits set rows refused x x' y j inv run ok hy waits =
    let len : x.job.tx.0 < length rows = in_range rows _ x run.here in
    let p : prio set x' ≡ prio set x = same_prio set x' x ok.job in
    elim (written rows x.job.tx.0 x' y len (same_tx x' x ok.job) hy) [
      | inl ey ↦ absurd (let e : y.waits_on ≡ None = ap (λ (r : Row). r.waits_on) ey ∙ ok.runs in let f : Some j ≡ None = sym waits ∙ e in cc (f))
      | inr oy ↦ (
        oy.1,
        (let old = inv.wait_has_ceiling y j oy.1 waits in
            elim (written_blocker rows x old.blocker run.here old.here) [
              | inl e ↦ record {
                blocker = x';
                is = ok.job ∙ ap (λ (r : Row). r.job) (sym e) ∙ old.is;
                here = written_here rows x.job.tx.0 x' len (same_tx x' x ok.job);
                lower = omega (arith, old.lower, ap (prio set) e);
                holds = omega (arith, old.holds, ok.keeps, ap (ceiling_of set) e);
                runs = ok.runs;
              }
              | inr ne ↦ record {
                blocker = old.blocker;
                is = old.is;
                here = written_other rows x.job.tx.0 x' old.blocker ne old.here;
                lower = old.lower;
                holds = old.holds;
                runs = old.runs;
              }
            ]),
      )
    ] where
      written_blocker : (rows : List (Option Row)) (x b : Row) → IsPending rows x → IsPending rows b → (b ≡ x) ⊎ (b.job.tx.0 ≢ x.job.tx.0)
      written_blocker rows x b hx hb = elim (cases_eq b.job.tx.0 x.job.tx.0) [ inl e ↦ inl (same_row rows b x hb hx e) | inr ne ↦ inr ne ]

granted_others : (set : Set) (rows : List (Option Row)) (refused : JobId → Bool) (x x' y z : Row) → Protocol set rows refused → Runs set rows refused x → IsGranted set rows x x'
    → IsPending (after rows x x') y → IsPending (after rows x x') z → refused y.job ≡ true → prio set z < prio set y → y.waits_on ≢ Some z.job → ceiling_of set z < prio set y
unfolding after
granted_others set rows refused x x' y z inv run ok hy hz was lt free =
    let len : x.job.tx.0 < length rows = in_range rows _ x run.here in
    let p : prio set x' ≡ prio set x = same_prio set x' x ok.job in
    elim (written rows x.job.tx.0 x' y len (same_tx x' x ok.job) hy) [
      | inl ey ↦ elim (written rows x.job.tx.0 x' z len (same_tx x' x ok.job) hz) [
        | inl ez ↦ absurd (omega (arith, ap (prio set) ey, ap (prio set) ez))
        | inr oz ↦ (let was' : refused x.job ≡ true = ap refused (sym ok.job ∙ ap (λ (r : Row). r.job) (sym ey)) ∙ was in
            let free' : x.waits_on ≢ Some z.job = λ e. (let f : None ≡ Some z.job = sym run.runs ∙ e in cc (f)) in
            let lt' : prio set z < prio set x = omega (arith, ap (prio set) ey) in
            omega (arith, inv.others_below x z run.here oz.1 was' lt' free', ap (prio set) ey))
      ]
      | inr oy ↦ elim (written rows x.job.tx.0 x' z len (same_tx x' x ok.job) hz) [
        | inl ez ↦ (let lt' : prio set x < prio set y = omega (arith, ap (prio set) ez) in
            let jobs : z.job ≡ x.job = ap (λ (r : Row). r.job) ez ∙ ok.job in
            absurd (run.waits y oy.1 lt' was (λ e. free (e ∙ ap Some (sym jobs)))))
        | inr oz ↦ inv.others_below y z oy.1 oz.1 was lt free
      ]
    ]

pub granted_keeps : (set : Set) (rows : List (Option Row)) (refused : JobId → Bool) (x x' : Row) → Protocol set rows refused → Runs set rows refused x → IsGranted set rows x x'
    → Protocol set (with_item rows x.job.tx.0 (Some x')) refused
unfolding after
granted_keeps set rows refused x x' inv run ok = record {
  ordered = λ y z hy hz holds lt. granted_ordered set rows refused x x' y z inv run ok hy hz holds lt;
  waiter_holds_nothing = λ y j hy waits. inv.waiter_holds_nothing y j (granted_waits set rows refused x x' y j inv run ok hy waits).0 waits;
  wait_has_ceiling = λ y j hy waits. (granted_waits set rows refused x x' y j inv run ok hy waits).1;
  others_below = λ y z hy hz was lt free. granted_others set rows refused x x' y z inv run ok hy hz was lt free;
}

-- A refused request. The running job x waits on the blocker b from then on.

pub record RefusedFacts (set : Set) (rows : List (Option Row)) (refused : JobId → Bool) (x b : Row) : Type 0 where
  pub lower : prio set b < prio set x
  pub no_lock : is_any (locks x.work) ≡ false
  pub runs : b.waits_on ≡ None
  pub first : refused x.job ≡ false

no_wait : (set : Set) (rows : List (Option Row)) (refused : JobId → Bool) (b : Row) → Protocol set rows refused → IsPending rows b → IsHolder b → (o : Option JobId) → b.waits_on ≡ o → o ≡ None
no_wait set rows refused b inv here holds None e = refl
no_wait set rows refused b inv here holds (Some j) e = absurd (let t = inv.waiter_holds_nothing b j here e in cc (t.0))

pub false_from : (b : Bool) → (b ≡ true → ⊥) → b ≡ false
false_from true h = absurd (h refl)
false_from false h = refl

none_is_not_some : {A : Type 0} (o : Option A) (a : A) → o ≡ None → o ≢ Some a
none_is_not_some o a e f = cc

-- a job is refused once, holds no lock then, and waits on a lower job that does not wait
pub refused_facts : (set : Set) (rows : List (Option Row)) (refused : JobId → Bool) (x : Row) (above : Above) → AreNamed set rows → Protocol set rows refused → Runs set rows refused x
    → (r : IsRefused set rows x above) → RefusedFacts set rows refused x r.blocker
refused_facts set rows refused x above named inv run r =
    let pos : 0 < prio set x = named.positive x run.here in
    let holds : IsHolder r.blocker = holder_from_ceiling set r.blocker (omega (arith, r.holds)) in
    let lower : prio set r.blocker < prio set x =
    elim (cases_order (prio set r.blocker) (prio set x)) [
      | inl e ↦ absurd (r.other (named.apart r.blocker x r.here run.here e))
      | inr o ↦ elim o [ inl lt ↦ lt | inr gt ↦ absurd (let n : is_any (locks r.blocker.work) ≡ false = run.no_lock r.blocker r.here gt in cc) ]
    ]
    in
    let none : is_any (locks x.work) ≡ false = false_from _ (λ h. let le : ceiling_of set r.blocker < prio set x = inv.ordered x r.blocker run.here r.here h lower in omega (arith, r.holds)) in
    record {
      lower = lower;
      no_lock = none;
      runs = no_wait set rows refused r.blocker inv r.here holds r.blocker.waits_on refl;
      first = false_from _ (λ was.
          let free : x.waits_on ≢ Some r.blocker.job = none_is_not_some _ _ run.runs in
          let le : ceiling_of set r.blocker < prio set x = inv.others_below x r.blocker run.here r.here was lower free in
          omega (arith, r.holds));
    }

-- the row of a job that waits
abbrev pub waiting_row : Row → JobId → Row
waiting_row x j = record x { waits_on = Some j }

-- the jobs that were refused, with one more
abbrev pub refused_too : (JobId → Bool) → JobId → JobId → Bool
refused_too refused job other = refused other || same_job other job

waiting_ceiling : (set : Set) (x : Row) (j : JobId) → ceiling_of set (waiting_row x j) ≡ ceiling_of set x
unfolding ceiling_of
waiting_ceiling set x j = refl

-- a job without locks has the ceiling 0
no_ceiling_by : (set : Set) (ls : List Lock) → is_any ls ≡ false → greatest (map (lock_ceiling set) ls) ≡ 0
no_ceiling_by set [] e = refl
no_ceiling_by set (l ∷ ls) e = absurd cc

no_ceiling : (set : Set) (x : Row) → is_any (locks x.work) ≡ false → ceiling_of set x ≡ 0
unfolding ceiling_of
no_ceiling set x e = no_ceiling_by set (locks x.work) e

module _ (set : Set) (rows : List (Option Row)) (refused : JobId → Bool) (x b : Row) (named : AreNamed set rows) (inv : Protocol set rows refused) (run : Runs set rows refused x)
    (here : IsPending rows b) (other : b.job.tx.0 ≢ x.job.tx.0) (holds : prio set x ≤ ceiling_of set b) (facts : RefusedFacts set rows refused x b) where
  new_rows : List (Option Row)
  new_rows = with_item rows x.job.tx.0 (Some (waiting_row x b.job))

  cases_row : (y : Row) → IsPending new_rows y → (y ≡ waiting_row x b.job) ⊎ ((y.job.tx.0 ≢ x.job.tx.0) × IsPending rows y)
  unfolding new_rows
  cases_row y hy = written rows x.job.tx.0 (waiting_row x b.job) y (in_range rows _ x run.here) refl hy

  refused_ordered : (y z : Row) → IsPending new_rows y → IsPending new_rows z → IsHolder y → prio set z < prio set y → ceiling_of set z < prio set y
  refused_ordered y z hy hz h lt =
      elim (cases_row y hy) [
        | inl ey ↦ absurd (let e : is_any (locks y.work) ≡ false = ap (λ (r : Row). is_any (locks r.work)) ey ∙ facts.no_lock in cc (e, h))
        | inr oy ↦ elim (cases_row z hz) [
          | inl ez ↦ (let c : ceiling_of set z ≡ 0 = ap (ceiling_of set) ez ∙ (waiting_ceiling set x b.job ∙ no_ceiling set x facts.no_lock) in omega (arith, c))
          | inr oz ↦ inv.ordered y z oy.1 oz.1 h lt
        ]
      ]

  refused_waiter : (y : Row) (j : JobId) → IsPending new_rows y → y.waits_on ≡ Some j → (is_any (locks y.work) ≡ false) × (refused_too refused x.job y.job ≡ true)
  refused_waiter y j hy waits =
      elim (cases_row y hy) [
        | inl ey ↦ (ap (λ (r : Row). is_any (locks r.work)) ey ∙ facts.no_lock, or_right _ _ (ap (λ (r : Row). same_job r.job x.job) ey ∙ same_job_self x.job))
        | inr oy ↦ (let t = inv.waiter_holds_nothing y j oy.1 waits in (t.0, or_left _ _ t.1))
      ]

  blocked_by : (y : Row) (j : JobId) → IsPending rows y → Blocks set rows y j → Blocks set new_rows y j
  unfolding new_rows
  blocked_by y j hy old =
      elim (cases_eq old.blocker.job.tx.0 x.job.tx.0) [
        | inl e ↦ absurd (let same : old.blocker ≡ x = same_row rows old.blocker x old.here run.here e in
            let c : ceiling_of set old.blocker ≡ 0 = ap (ceiling_of set) same ∙ no_ceiling set x facts.no_lock in
            omega (arith, c, old.holds, named.positive y hy))
        | inr ne ↦ record { blocker = old.blocker; is = old.is; here = written_other rows x.job.tx.0 (waiting_row x b.job) old.blocker ne old.here; lower = old.lower; holds = old.holds; runs = old.runs }
      ]

  refused_waits : (y : Row) (j : JobId) → IsPending new_rows y → y.waits_on ≡ Some j → Blocks set new_rows y j
  unfolding new_rows
  refused_waits y j hy waits =
      elim (cases_row y hy) [
        | inl ey ↦ (let w : Some j ≡ Some b.job = sym waits ∙ ap (λ (r : Row). r.waits_on) ey in
            let p : prio set y ≡ prio set x = ap (prio set) ey in record {
              blocker = b;
              is = sym (cc (w));
              here = written_other rows x.job.tx.0 (waiting_row x b.job) b other here;
              lower = omega (arith, facts.lower);
              holds = omega (arith, holds);
              runs = facts.runs;
            })
        | inr oy ↦ blocked_by y j oy.1 (inv.wait_has_ceiling y j oy.1 waits)
      ]

  -- every lower job but the blocker has only ceilings below
  lower_ceilings : (z : Row) → IsPending rows z → prio set z < prio set x → z.job.tx.0 ≢ b.job.tx.0 → ceiling_of set z < prio set x
  lower_ceilings z hz lt ne =
      let pos : 0 < prio set x = named.positive x run.here in
      elim (cases_lt (ceiling_of set z) (prio set x)) [
        | inl small ↦ small
        | inr large ↦ elim (cases_order (prio set z) (prio set b)) [
          | inl e ↦ absurd (ne (named.apart z b hz here e))
          | inr o ↦ elim o [
            | inl below ↦ absurd (omega (arith, inv.ordered b z here hz (holder_from_ceiling set b (omega (arith, holds))) below, facts.lower))
            | inr over ↦ absurd (omega (arith, inv.ordered z b hz here (holder_from_ceiling set z (omega (arith, large))) over, holds))
          ]
        ]
      ]

  refused_others : (y z : Row) → IsPending new_rows y → IsPending new_rows z → refused_too refused x.job y.job ≡ true → prio set z < prio set y → y.waits_on ≢ Some z.job → ceiling_of set z < prio set y
  refused_others y z hy hz was lt free =
      elim (cases_row y hy) [
        | inl ey ↦ elim (cases_row z hz) [
          | inl ez ↦ absurd (omega (arith, ap (prio set) ey, ap (prio set) ez))
          | inr oz ↦ (let p : prio set y ≡ prio set x = ap (prio set) ey in
              let ne : z.job.tx.0 ≢ b.job.tx.0 = λ e. free (ap (λ (r : Row). r.waits_on) ey ∙ ap Some (ap (λ (r : Row). r.job) (sym (same_row rows z b oz.1 here e)))) in
              omega (arith, lower_ceilings z oz.1 (omega arith) ne))
        ]
        | inr oy ↦ (let old : refused y.job ≡ true = elim (or_cases _ _ was) [ inl w ↦ w | inr s ↦ absurd (oy.0 (same_tx_of (same_job_is _ _ s))) ] in
            elim (cases_row z hz) [
              | inl ez ↦ (let free' : y.waits_on ≢ Some x.job = λ e. free (e ∙ ap Some (sym (ap (λ (r : Row). r.job) ez))) in
                  let lt' : prio set x < prio set y = omega (arith, ap (prio set) ez) in
                  absurd (run.waits y oy.1 lt' old free'))
              | inr oz ↦ inv.others_below y z oy.1 oz.1 old lt free
            ])
      ] where
        same_tx_of : {a c : JobId} → a ≡ c → a.tx.0 ≡ c.tx.0
        same_tx_of e = ap (λ (j : JobId). j.tx.0) e

  pub refused_keeps : Protocol set (with_item rows x.job.tx.0 (Some (waiting_row x b.job))) (refused_too refused x.job)
  unfolding new_rows
  refused_keeps = record {
    ordered = refused_ordered;
    waiter_holds_nothing = refused_waiter;
    wait_has_ceiling = refused_waits;
    others_below = refused_others;
  }
