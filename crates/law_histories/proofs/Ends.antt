-- The end of a job, and a release, keep the protocol's invariant: rows and waits are only taken away, and a new row
-- holds nothing and waits on nobody.
use Rattle.std.proofs.Common.{◌≡◌, ◌≢◌, ◌⊎◌, ℕ, zero, suc, ◌<◌, Bool, true, false, cond, List, [], ◌∷◌, length, map, Option, None, Some, get_or, set as with_item, refl, ap, sym, ◌∙◌, subst, inl, inr, arith, get_or-set_other}
use Rattle.std.proofs.Math.ListN.{get_or-map}
use Rattle.std.proofs.lemmas.Bool.{cases_eq, cases_Bool, and_from, eq-eqb}
use Rattle.std.specs.Option.{option_map}
use Rattle.rt_base.specs.declared.ids.JobId.{JobId}
use Rattle.txn_set.specs.Set.{Set}
use Rattle.step_journal.specs.State.{Row, row_of, prio, same_job, new_row}
use Rattle.step_journal.specs.LockRule.{locks, ceiling_of}
use Rattle.step_journal.specs.Instant.{freed, freed_from, with_row}
use Rattle.law_histories.proofs.Invariant.{IsPending, is_any, IsHolder, Blocks, Protocol, written, written_other, same_job_is}

-- the rows without a job's, each other freed from it
abbrev pub rows_without : List (Option Row) → JobId → List (Option Row)
rows_without rows job = map (option_map (freed job)) (with_item rows job.tx.0 None)

pub self_same : (j : JobId) → same_job j j ≡ true
self_same j = and_from _ _ (eq-eqb j.tx.0 j.tx.0 refl) (eq-eqb j.serial j.serial refl)

-- a row that is left
pub record Left (rows : List (Option Row)) (job : JobId) (y : Row) : Type 0 where
  pub was : Row
  pub here : IsPending rows was
  pub other : was.job.tx.0 ≢ job.tx.0
  pub is : y ≡ freed job was

left_some : (rows : List (Option Row)) (job : JobId) (y : Row) (o : Option Row) → get_or (with_item rows job.tx.0 None) y.job.tx.0 None ≡ o → option_map (freed job) o ≡ Some y → Left rows job y
left_some rows job y None e h = absurd cc
left_some rows job y (Some r) e h =
    let is : y ≡ freed job r = cc in
    let j : y.job ≡ r.job = ap (λ (q : Row). q.job) is in
    elim (cases_eq y.job.tx.0 job.tx.0) [
      | inl same ↦ absurd (gone rows job.tx.0 y.job.tx.0 r same e)
      | inr ne ↦ record {
        was = r;
        here = subst (λ (n : ℕ). get_or rows n None ≡ Some r) (ap (λ (k : JobId). k.tx.0) j) (sym (get_or-set_other rows job.tx.0 y.job.tx.0 None None ne) ∙ e);
        other = λ q. ne (ap (λ (k : JobId). k.tx.0) j ∙ q);
        is = is;
      }
    ] where
      gone_at : (rows : List (Option Row)) (n : ℕ) (r : Row) → get_or (with_item rows n None) n None ≡ Some r → ⊥
      gone_at [] n r e = cc
      gone_at (x ∷ xs) zero r e = cc
      gone_at (x ∷ xs) (suc n) r e = gone_at xs n r e

      gone : (rows : List (Option Row)) (n m : ℕ) (r : Row) → m ≡ n → get_or (with_item rows n None) m None ≡ Some r → ⊥
      gone rows n m r same e = gone_at rows n r (subst (λ (k : ℕ). get_or (with_item rows n None) k None ≡ Some r) same e)

pub left : (rows : List (Option Row)) (job : JobId) (y : Row) → IsPending (rows_without rows job) y → Left rows job y
left rows job y h =
    left_some rows job y (get_or (with_item rows job.tx.0 None) y.job.tx.0 None) refl (sym (get_or-map (option_map (freed job)) (with_item rows job.tx.0 None) y.job.tx.0 None) ∙ h)

pub stays : (rows : List (Option Row)) (job : JobId) (y : Row) → IsPending rows y → y.job.tx.0 ≢ job.tx.0 → IsPending (rows_without rows job) (freed job y)
stays rows job y h ne =
    get_or-map (option_map (freed job)) (with_item rows job.tx.0 None) y.job.tx.0 None ∙ ap (option_map (freed job)) (get_or-set_other rows job.tx.0 y.job.tx.0 None None ne ∙ h)

-- the links

freed_some_at : (job k on : JobId) (b : Bool) → same_job on job ≡ b → cond b None (Some on) ≡ Some k → (Some on ≡ Some k) × (same_job k job ≡ false)
freed_some_at job k on true e h = absurd cc
freed_some_at job k on false e h = let s : on ≡ k = cc in (ap Some s, ap (λ (q : JobId). same_job q job) (sym s) ∙ e)

freed_some : (job k : JobId) (o : Option JobId) → freed_from job o ≡ Some k → (o ≡ Some k) × (same_job k job ≡ false)
freed_some job k None h = absurd cc
freed_some job k (Some on) h = freed_some_at job k on (same_job on job) refl h

freed_other : (job k : JobId) (b : Bool) → same_job k job ≡ b → b ≡ false → cond b None (Some k) ≡ Some k
freed_other job k true e h = absurd cc
freed_other job k false e h = refl

pub freed_keeps : (job k : JobId) (o : Option JobId) → o ≡ Some k → same_job k job ≡ false → freed_from job o ≡ Some k
freed_keeps job k None h e = absurd cc
freed_keeps job k (Some on) h e =
    let s : on ≡ k = cc in
    subst (λ (q : JobId). freed_from job (Some q) ≡ Some k) (sym s) (freed_other job k (same_job k job) refl e)

freed_none : (job : JobId) (o : Option JobId) → o ≡ None → freed_from job o ≡ None
freed_none job None h = refl
freed_none job (Some on) h = absurd cc

freed_ceiling : (set : Set) (job : JobId) (y : Row) → ceiling_of set (freed job y) ≡ ceiling_of set y
unfolding ceiling_of
freed_ceiling set job y = refl

-- whoever is pending at the job's transaction is that job
abbrev pub IsOwn : List (Option Row) → JobId → Type 0
IsOwn rows job = (c : Row) → IsPending rows c → c.job.tx.0 ≡ job.tx.0 → c.job ≡ job

module _ (set : Set) (rows : List (Option Row)) (refused : JobId → Bool) (job : JobId) (inv : Protocol set rows refused) (own : IsOwn rows job) where
  end_ordered : (y z : Row) → IsPending (rows_without rows job) y → IsPending (rows_without rows job) z → IsHolder y → prio set z < prio set y → ceiling_of set z < prio set y
  end_ordered y z hy hz h lt =
      let a = left rows job y hy in
      let b = left rows job z hz in
      let py : prio set y ≡ prio set a.was = ap (prio set) a.is in
      let pz : prio set z ≡ prio set b.was = ap (prio set) b.is in
      let cz : ceiling_of set z ≡ ceiling_of set b.was = ap (ceiling_of set) b.is ∙ freed_ceiling set job b.was in
      let h' : IsHolder a.was = ap (λ (r : Row). is_any (locks r.work)) (sym a.is) ∙ h in
      omega (arith, inv.ordered a.was b.was a.here b.here h' (omega arith), py, cz)

  end_waiter : (y : Row) (j : JobId) → IsPending (rows_without rows job) y → y.waits_on ≡ Some j → (is_any (locks y.work) ≡ false) × (refused y.job ≡ true)
  end_waiter y j hy waits =
      let a = left rows job y hy in
      let w = freed_some job j a.was.waits_on (ap (λ (r : Row). r.waits_on) (sym a.is) ∙ waits) in
      let t = inv.waiter_holds_nothing a.was j a.here w.0 in
      (ap (λ (r : Row). is_any (locks r.work)) a.is ∙ t.0, ap (λ (r : Row). refused r.job) a.is ∙ t.1)

  end_waits : (y : Row) (j : JobId) → IsPending (rows_without rows job) y → y.waits_on ≡ Some j → Blocks set (rows_without rows job) y j
  end_waits y j hy waits =
      let a = left rows job y hy in
      let w = freed_some job j a.was.waits_on (ap (λ (r : Row). r.waits_on) (sym a.is) ∙ waits) in
      let old = inv.wait_has_ceiling a.was j a.here w.0 in
      let py : prio set y ≡ prio set a.was = ap (prio set) a.is in
      let other : old.blocker.job.tx.0 ≢ job.tx.0 = λ e. clash j (sym old.is ∙ own old.blocker old.here e) w.1 in
      record {
        blocker = freed job old.blocker;
        is = old.is;
        here = stays rows job old.blocker old.here other;
        lower = omega (arith, old.lower);
        holds = omega (arith, old.holds, freed_ceiling set job old.blocker);
        runs = freed_none job old.blocker.waits_on old.runs;
      } where
        clash : (j : JobId) → j ≡ job → same_job j job ≡ false → ⊥
        clash j e f = let t : same_job j job ≡ true = ap (λ (q : JobId). same_job q job) e ∙ self_same job in cc

  end_others : (y z : Row) → IsPending (rows_without rows job) y → IsPending (rows_without rows job) z → refused y.job ≡ true → prio set z < prio set y → y.waits_on ≢ Some z.job → ceiling_of set z < prio set y
  end_others y z hy hz was lt free =
      let a = left rows job y hy in
      let b = left rows job z hz in
      let py : prio set y ≡ prio set a.was = ap (prio set) a.is in
      let pz : prio set z ≡ prio set b.was = ap (prio set) b.is in
      let jz : z.job ≡ b.was.job = ap (λ (r : Row). r.job) b.is in
      let cz : ceiling_of set z ≡ ceiling_of set b.was = ap (ceiling_of set) b.is ∙ freed_ceiling set job b.was in
      let was' : refused a.was.job ≡ true = ap (λ (r : Row). refused r.job) (sym a.is) ∙ was in
      let free' : a.was.waits_on ≢ Some b.was.job = λ e. free (ap (λ (r : Row). r.waits_on) a.is ∙ (freed_keeps job b.was.job a.was.waits_on e (apart b.was b.other) ∙ ap Some (sym jz))) in
      omega (arith, inv.others_below a.was b.was a.here b.here was' (omega arith) free', py, cz) where
        apart : (r : Row) → r.job.tx.0 ≢ job.tx.0 → same_job r.job job ≡ false
        apart r ne = elim (cases_Bool (same_job r.job job)) [ inl t ↦ absurd (ne (ap (λ (k : JobId). k.tx.0) (same_job_is _ _ t))) | inr f ↦ f ]

  pub end_keeps : Protocol set (rows_without rows job) refused
  end_keeps = record {
    ordered = end_ordered;
    waiter_holds_nothing = end_waiter;
    wait_has_ceiling = end_waits;
    others_below = end_others;
  }

-- A release.

new_ceiling : (set : Set) (job : JobId) (tick : ℕ) → ceiling_of set (new_row job tick) ≡ 0
unfolding ceiling_of
new_ceiling set job tick = refl

module _ (set : Set) (rows : List (Option Row)) (refused : JobId → Bool) (job : JobId) (tick : ℕ) (inv : Protocol set rows refused)
    (in_set : job.tx.0 < length rows) (free : row_of rows job.tx.0 ≡ None) (fresh : refused job ≡ false) where
  new_case : (y : Row) → IsPending (with_row tick rows job) y → (y ≡ new_row job tick) ⊎ ((y.job.tx.0 ≢ job.tx.0) × IsPending rows y)
  new_case y h = written rows job.tx.0 (new_row job tick) y in_set refl h

  new_ordered : (y z : Row) → IsPending (with_row tick rows job) y → IsPending (with_row tick rows job) z → IsHolder y → prio set z < prio set y → ceiling_of set z < prio set y
  new_ordered y z hy hz h lt =
      elim (new_case y hy) [
        | inl ey ↦ absurd (let e : is_any (locks y.work) ≡ false = ap (λ (r : Row). is_any (locks r.work)) ey in cc (e, h))
        | inr oy ↦ elim (new_case z hz) [
          | inl ez ↦ (let c : ceiling_of set z ≡ 0 = ap (ceiling_of set) ez ∙ new_ceiling set job tick in omega (arith, c))
          | inr oz ↦ inv.ordered y z oy.1 oz.1 h lt
        ]
      ]

  waits_old : (y : Row) (j : JobId) → IsPending (with_row tick rows job) y → y.waits_on ≡ Some j → IsPending rows y
  waits_old y j hy waits =
      elim (new_case y hy) [
        | inl ey ↦ absurd (let e : Some j ≡ None = sym waits ∙ ap (λ (r : Row). r.waits_on) ey in cc (e))
        | inr oy ↦ oy.1
      ]

  new_waits : (y : Row) (j : JobId) → IsPending (with_row tick rows job) y → y.waits_on ≡ Some j → Blocks set (with_row tick rows job) y j
  new_waits y j hy waits =
      let old = inv.wait_has_ceiling y j (waits_old y j hy waits) waits in
      let other : old.blocker.job.tx.0 ≢ job.tx.0 = λ e. (let n : Some old.blocker ≡ None = sym old.here ∙ (ap (λ (k : ℕ). get_or rows k None) e ∙ free) in cc (n)) in
      record { blocker = old.blocker; is = old.is; here = written_other rows job.tx.0 (new_row job tick) old.blocker other old.here; lower = old.lower; holds = old.holds; runs = old.runs }

  new_others : (y z : Row) → IsPending (with_row tick rows job) y → IsPending (with_row tick rows job) z → refused y.job ≡ true → prio set z < prio set y → y.waits_on ≢ Some z.job → ceiling_of set z < prio set y
  new_others y z hy hz was lt not_on =
      elim (new_case y hy) [
        | inl ey ↦ absurd (let e : refused y.job ≡ false = ap (λ (r : Row). refused r.job) ey ∙ fresh in cc (e, was))
        | inr oy ↦ elim (new_case z hz) [
          | inl ez ↦ (let c : ceiling_of set z ≡ 0 = ap (ceiling_of set) ez ∙ new_ceiling set job tick in omega (arith, c))
          | inr oz ↦ inv.others_below y z oy.1 oz.1 was lt not_on
        ]
      ]

  pub release_keeps : Protocol set (with_row tick rows job) refused
  release_keeps = record { ordered = new_ordered; waiter_holds_nothing = λ y j hy waits. inv.waiter_holds_nothing y j (waits_old y j hy waits) waits; wait_has_ceiling = new_waits; others_below = new_others }
