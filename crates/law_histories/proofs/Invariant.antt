-- The protocol's invariant, and what it says of the running job. Of two holders of locks the higher one's priority
-- exceeds every ceiling of the lower one's locks; a waiting job holds nothing, and waits on a lower holder that waits
-- on nobody. So the running job is the highest pending job, or the job on which that one waits, and no holder is
-- higher.
use Rattle.std.proofs.Common.{◌≡◌, ◌≢◌, ◌⊎◌, ℕ, zero, suc, ◌<◌, ◌≤◌, ◌==◌, Bool, true, false, cond, not, List, [], ◌∷◌, map, length, Option, None, Some, get_or, set, refl, ap, sym, ◌∙◌, subst, inl, inr, arith, get_or-set_same, get_or-set_other}
use Rattle.std.proofs.lemmas.List.{get_or_past}
use Rattle.std.proofs.lemmas.Bool.{cases_lt, cases_eq, eqb-true, eq-eqb, ne_eqb, ltb-false, and_parts, not_from_false}
use Rattle.std.specs.Prelude.{nat_lt}
use Rattle.std.specs.Option.{option_map, option_and_then}
use Rattle.rt_base.specs.declared.ids.JobId.{JobId}
use Rattle.txn_set.specs.Set.{Set}
use Rattle.txn_set.specs.Ceilings.{greatest}
use Rattle.step_journal.specs.State.{Row, pending, row_of, prio, same_job}
use Rattle.step_journal.specs.LockRule.{Lock, locks, lock_ceiling, ceiling_of, others, system_ceiling, highest, refusal, Above}
use Rattle.rt_base.specs.LockRule.{blocker, unless_below, topmost}
use Rattle.step_journal.specs.Running.{running, followed, job_row, of_job}
use Rattle.law_histories.proofs.Topmost.{topmost_is}
use Rattle.law_histories.proofs.Members.{In, in_filter, filter_in, in_pending, pending_in, le_greatest, IsHighest, highest_is}

-- the row is the pending row of its transaction
abbrev pub IsPending : List (Option Row) → Row → Type 0
IsPending rows x = row_of rows x.job.tx.0 ≡ Some x

abbrev pub is_any : List Lock → Bool
is_any [] = false
is_any (l ∷ ls) = true

-- the job holds some lock
abbrev pub IsHolder : Row → Type 0
IsHolder x = is_any (locks x.work) ≡ true

-- each row stands at the number of its transaction, and the transactions have priorities of their own, above 0
pub record AreNamed (set : Set) (rows : List (Option Row)) : Type 0 where
  pub named : (n : ℕ) (x : Row) → row_of rows n ≡ Some x → x.job.tx.0 ≡ n
  pub positive : (x : Row) → IsPending rows x → 0 < prio set x
  pub apart : (x y : Row) → IsPending rows x → IsPending rows y → prio set x ≡ prio set y → x.job.tx.0 ≡ y.job.tx.0

-- the job on which x waits
pub record Blocks (set : Set) (rows : List (Option Row)) (x : Row) (j : JobId) : Type 0 where
  pub blocker : Row
  pub is : blocker.job ≡ j
  pub here : IsPending rows blocker
  pub lower : prio set blocker < prio set x
  pub holds : prio set x ≤ ceiling_of set blocker
  pub runs : blocker.waits_on ≡ None

-- ordered: of two holders the higher one's priority exceeds every ceiling of the lower one's locks
-- waiter_holds_nothing: a waiting job holds no lock, and was refused
-- wait_has_ceiling: a waiting job waits on a pending, lower job that holds a lock with a ceiling at least the waiter's
-- priority and does not wait
-- others_below: where a pending job was refused, each lower job has only ceilings below its priority, except for the
-- one on which it waits
pub record Protocol (set : Set) (rows : List (Option Row)) (refused : JobId → Bool) : Type 0 where
  pub ordered : (x y : Row) → IsPending rows x → IsPending rows y → IsHolder x → prio set y < prio set x → ceiling_of set y < prio set x
  pub waiter_holds_nothing : (x : Row) (j : JobId) → IsPending rows x → x.waits_on ≡ Some j → (is_any (locks x.work) ≡ false) × (refused x.job ≡ true)
  pub wait_has_ceiling : (x : Row) (j : JobId) → IsPending rows x → x.waits_on ≡ Some j → Blocks set rows x j
  pub others_below : (x z : Row) → IsPending rows x → IsPending rows z → refused x.job ≡ true → prio set z < prio set x → x.waits_on ≢ Some z.job → ceiling_of set z < prio set x

-- small facts

-- one place by two names. `rw` would rewrite inside the row too, since a row is the record of its fields
moved : (rows : List (Option Row)) (o : Option Row) (n m : ℕ) → n ≡ m → get_or rows n None ≡ o → get_or rows m None ≡ o
moved rows o n m e h = subst (λ (k : ℕ). get_or rows k None ≡ o) e h

pub in_range : (rows : List (Option Row)) (n : ℕ) (x : Row) → row_of rows n ≡ Some x → n < length rows
in_range rows n x h =
    elim (cases_lt n (length rows)) [ inl lt ↦ lt | inr ge ↦ absurd (let e = get_or_past rows n None ge in cc) ]

-- a row after a write at n
pub written : (rows : List (Option Row)) (n : ℕ) (x y : Row) → n < length rows → x.job.tx.0 ≡ n → IsPending (set rows n (Some x)) y
    → (y ≡ x) ⊎ ((y.job.tx.0 ≢ n) × IsPending rows y)
written rows n x y lt own h =
    elim (cases_eq y.job.tx.0 n) [
      | inl e ↦ (let here : get_or (set rows n (Some x)) y.job.tx.0 None ≡ Some x = rw e (get_or-set_same rows n (Some x) None lt) in inl (cc))
      | inr ne ↦ inr (ne, sym (get_or-set_other rows n y.job.tx.0 (Some x) None ne) ∙ h)
    ]

pub written_here : (rows : List (Option Row)) (n : ℕ) (x : Row) → n < length rows → x.job.tx.0 ≡ n → IsPending (set rows n (Some x)) x
written_here rows n x lt own = moved _ _ n x.job.tx.0 (sym own) (get_or-set_same rows n (Some x) None lt)

pub written_other : (rows : List (Option Row)) (n : ℕ) (x y : Row) → y.job.tx.0 ≢ n → IsPending rows y → IsPending (set rows n (Some x)) y
written_other rows n x y ne h = get_or-set_other rows n y.job.tx.0 (Some x) None ne ∙ h

-- two pending rows of one transaction are one
pub same_row : (rows : List (Option Row)) (x y : Row) → IsPending rows x → IsPending rows y → x.job.tx.0 ≡ y.job.tx.0 → x ≡ y
same_row rows x y hx hy e = let h : row_of rows y.job.tx.0 ≡ Some x = moved _ _ _ _ e hx in cc

-- a ceiling above 0 needs a lock
holder_by : (set : Set) (ls : List Lock) → 0 < greatest (map (lock_ceiling set) ls) → is_any ls ≡ true
holder_by set [] h = absurd (omega arith)
holder_by set (l ∷ ls) h = refl

pub holder_from_ceiling : (set : Set) (x : Row) → 0 < ceiling_of set x → IsHolder x
unfolding ceiling_of
holder_from_ceiling set x h = holder_by set (locks x.work) h

-- job names

pub same_job_is : (a b : JobId) → same_job a b ≡ true → a ≡ b
same_job_is a b h =
    let parts = and_parts (a.tx.0 == b.tx.0) (a.serial == b.serial) h in
    let t : a.tx.0 ≡ b.tx.0 = eqb-true _ _ parts.0 in
    let s : a.serial ≡ b.serial = eqb-true _ _ parts.1 in
    ap (λ (n : ℕ). record { tx = record { 0 = n }; serial = a.serial }) t ∙ ap (λ (n : ℕ). record { tx = b.tx; serial = n }) s

of_job_is : (j : JobId) (r y : Row) (b : Bool) → same_job r.job j ≡ b → cond b (Some r) None ≡ Some y → (y ≡ r) × (r.job ≡ j)
of_job_is j r y true e h = (cc, same_job_is _ _ e)
of_job_is j r y false e h = absurd cc

job_row_at : (j : JobId) (y : Row) (o : Option Row) → option_and_then (of_job j) o ≡ Some y → (o ≡ Some y) × (y.job ≡ j)
job_row_at j y None h = absurd cc
job_row_at j y (Some r) h = let p = of_job_is j r y (same_job r.job j) refl h in (ap Some (sym p.0), ap (λ (q : Row). q.job) p.0 ∙ p.1)

pub job_row_is : (rows : List (Option Row)) (j : JobId) (y : Row) → job_row rows j ≡ Some y → IsPending rows y × (y.job ≡ j)
job_row_is rows j y h =
    let p = job_row_at j y (row_of rows j.tx.0) h in
    let e : y.job.tx.0 ≡ j.tx.0 = ap (λ (q : JobId). q.tx.0) p.1 in
    (moved _ _ _ _ (sym e) p.0, p.1)

-- the lock rule

pub below_system : (set : Set) (rows : List (Option Row)) (x y : Row) → IsPending rows y → y.job.tx.0 ≢ x.job.tx.0 → ceiling_of set y ≤ system_ceiling set rows x
unfolding system_ceiling
below_system set rows x y here ne =
    let other : not (y.job.tx.0 == x.job.tx.0) ≡ true = not_from_false _ (ne_eqb _ _ ne) in
    le_greatest (ceiling_of set) y (others rows x) (in_filter _ y (pending rows) (in_pending rows y.job.tx.0 y here) other)

-- what a refusal tells
pub record IsRefused (set : Set) (rows : List (Option Row)) (x : Row) (above : Above) : Type 0 where
  pub blocker : Row
  pub is : above.holder ≡ blocker.job
  pub here : IsPending rows blocker
  pub other : blocker.job.tx.0 ≢ x.job.tx.0
  pub holds : prio set x ≤ ceiling_of set blocker

other_row : (set : Set) (rows : List (Option Row)) (x b : Row) → AreNamed set rows → In b (others rows x) → IsPending rows b × (b.job.tx.0 ≢ x.job.tx.0)
other_row set rows x b ok h =
    let f = filter_in (λ (r : Row). not (r.job.tx.0 == x.job.tx.0)) b (pending rows) h in
    let at = pending_in rows b f.0 in
    (moved rows (Some b) at.0 b.job.tx.0 (sym (ok.named at.0 b at.1)) at.1, λ e. eqb_clash _ _ e f.1) where
      eqb_clash : (m n : ℕ) → m ≡ n → not (m == n) ≡ true → ⊥
      eqb_clash m n e h = let t : (m == n) ≡ true = eq-eqb m n e in let u : not true ≡ true = rw t at h in absurd cc

refusal_by : (set : Set) (rows : List (Option Row)) (x b : Row) (above : Above) (t : Bool) → IsPending rows b → b.job.tx.0 ≢ x.job.tx.0 → nat_lt (ceiling_of set b) (prio set x) ≡ t
    → option_map (λ (r : Row). record { holder = r.job; ceiling = ceiling_of set r }) (cond t None (Some b)) ≡ Some above → IsRefused set rows x above
refusal_by set rows x b above true here other e h = absurd cc
refusal_by set rows x b above false here other e h =
    let same : record { holder = b.job; ceiling = ceiling_of set b } ≡ above = cc in
    record { blocker = b; is = ap (λ (a : Above). a.holder) (sym same); here = here; other = other; holds = ltb-false _ _ e }

refusal_given : (set : Set) (rows : List (Option Row)) (x : Row) (above : Above) (o : Option Row)
    → ((b : Row) → o ≡ Some b → IsPending rows b × (b.job.tx.0 ≢ x.job.tx.0))
    → option_map (λ (r : Row). record { holder = r.job; ceiling = ceiling_of set r }) (unless_below (ceiling_of set) (prio set x) o) ≡ Some above → IsRefused set rows x above
refusal_given set rows x above None tell h = absurd cc
refusal_given set rows x above (Some b) tell h = refusal_by set rows x b above (nat_lt (ceiling_of set b) (prio set x)) (tell b refl).0 (tell b refl).1 refl h

pub refusal_is : (set : Set) (rows : List (Option Row)) (x : Row) (above : Above) → AreNamed set rows → refusal set rows x ≡ Some above → IsRefused set rows x above
unfolding refusal blocker
refusal_is set rows x above ok h =
    refusal_given set rows x above (topmost (prio set) (ceiling_of set) (others rows x))
    (λ b is. other_row set rows x b ok (topmost_is (prio set) (ceiling_of set) (others rows x) b is).here)
    h

-- the running job

-- what holds of the running job x: it waits on nobody, and a higher pending job holds no lock, and if it was refused
-- it waits on x
pub record Runs (set : Set) (rows : List (Option Row)) (refused : JobId → Bool) (x : Row) : Type 0 where
  pub here : IsPending rows x
  pub runs : x.waits_on ≡ None
  pub no_lock : (y : Row) → IsPending rows y → prio set x < prio set y → is_any (locks y.work) ≡ false
  pub waits : (y : Row) → IsPending rows y → prio set x < prio set y → refused y.job ≡ true → y.waits_on ≢ Some x.job → ⊥
  pub holds : (y : Row) → IsPending rows y → prio set x < prio set y → prio set y ≤ ceiling_of set x

-- x is the highest job, or the highest job waits on x
follows_one : (rows : List (Option Row)) (n : ℕ) (b x : Row) → b.waits_on ≡ None → followed rows n b b.waits_on ≡ Some x → b ≡ x
follows_one rows n b x runs h = let e : followed rows n b None ≡ Some x = subst (λ (o : Option JobId). followed rows n b o ≡ Some x) runs h in cc

-- the highest pending row, as the number of its transaction finds it
highest_pending : (set : Set) (rows : List (Option Row)) (h : Row) → AreNamed set rows → IsHighest set (pending rows) h → IsPending rows h
highest_pending set rows h ok top = let at = pending_in rows h top.here in moved rows (Some h) at.0 h.job.tx.0 (sym (ok.named at.0 h at.1)) at.1

top_runs : (set : Set) (rows : List (Option Row)) (refused : JobId → Bool) (h : Row) → IsPending rows h → IsHighest set (pending rows) h → h.waits_on ≡ None → Runs set rows refused h
top_runs set rows refused h here top runs = record {
  here = here;
  runs = runs;
  no_lock = λ y at lt. absurd (let le : prio set y ≤ prio set h = top.above y (in_pending rows y.job.tx.0 y at) in omega arith);
  waits = λ y at lt was not_on. let le : prio set y ≤ prio set h = top.above y (in_pending rows y.job.tx.0 y at) in omega arith;
  holds = λ y at lt. absurd (let le : prio set y ≤ prio set h = top.above y (in_pending rows y.job.tx.0 y at) in omega arith);
}

false_by : (b : Bool) → (b ≡ true → ⊥) → b ≡ false
false_by true h = absurd (h refl)
false_by false h = refl

blocker_runs : (set : Set) (rows : List (Option Row)) (refused : JobId → Bool) (h b : Row) → Protocol set rows refused → IsHighest set (pending rows) h
    → IsPending rows b → prio set h ≤ ceiling_of set b → b.waits_on ≡ None → Runs set rows refused b
blocker_runs set rows refused h b inv top here holds runs = record {
  here = here;
  runs = runs;
  no_lock = λ y at lt. false_by _ (λ is.
      let le : prio set y ≤ prio set h = top.above y (in_pending rows y.job.tx.0 y at) in
      let below : ceiling_of set b < prio set y = inv.ordered y b at here is lt in
      omega arith);
  waits = λ y at lt was not_on.
      let le : prio set y ≤ prio set h = top.above y (in_pending rows y.job.tx.0 y at) in
      let below : ceiling_of set b < prio set y = inv.others_below y b at here was lt not_on in
      omega arith;
  holds = λ y at lt. let le : prio set y ≤ prio set h = top.above y (in_pending rows y.job.tx.0 y at) in omega arith;
}

after_link : (set : Set) (rows : List (Option Row)) (refused : JobId → Bool) (n : ℕ) (j : JobId) (h x : Row) → Protocol set rows refused → IsHighest set (pending rows) h
    → Blocks set rows h j → (o : Option Row) → job_row rows j ≡ o → option_and_then (λ r. followed rows n r r.waits_on) o ≡ Some x → Runs set rows refused x
after_link set rows refused n j h x inv top blocks None e is = absurd cc
after_link set rows refused n j h x inv top blocks (Some r) e is =
    let at = job_row_is rows j r e in
    let job : r.job ≡ blocks.blocker.job = at.1 ∙ sym blocks.is in
    let same : r ≡ blocks.blocker = same_row rows r blocks.blocker at.0 blocks.here (ap (λ (k : JobId). k.tx.0) job) in
    let free : r.waits_on ≡ None = ap (λ (q : Row). q.waits_on) same ∙ blocks.runs in
    let is_x : r ≡ x = follows_one rows n r x free is in
    let holds : prio set h ≤ ceiling_of set r = omega (arith, blocks.holds, ap (ceiling_of set) same) in
    subst (Runs set rows refused) is_x (blocker_runs set rows refused h r inv top at.0 holds free)

runs_from : (set : Set) (rows : List (Option Row)) (refused : JobId → Bool) (n : ℕ) (h x : Row) (o : Option JobId) → AreNamed set rows → Protocol set rows refused → IsHighest set (pending rows) h
    → h.waits_on ≡ o → followed rows n h o ≡ Some x → Runs set rows refused x
runs_from set rows refused n h x None ok inv top e is =
    let same : h ≡ x = cc in
    subst (Runs set rows refused) same (top_runs set rows refused h (highest_pending set rows h ok top) top e)
runs_from set rows refused zero h x (Some j) ok inv top e is = absurd cc
runs_from set rows refused (suc n) h x (Some j) ok inv top e is =
    after_link set rows refused n j h x inv top (inv.wait_has_ceiling h j (highest_pending set rows h ok top) e) (job_row rows j) refl is

running_from : (set : Set) (rows : List (Option Row)) (refused : JobId → Bool) (x : Row) (o : Option Row) → AreNamed set rows → Protocol set rows refused
    → highest set (pending rows) ≡ o → option_and_then (λ r. followed rows (length rows) r r.waits_on) o ≡ Some x → Runs set rows refused x
running_from set rows refused x None ok inv e is = absurd cc
running_from set rows refused x (Some h) ok inv e is = runs_from set rows refused (length rows) h x h.waits_on ok inv (highest_is set (pending rows) h e) refl is

pub running_is : (set : Set) (rows : List (Option Row)) (refused : JobId → Bool) (x : Row) → AreNamed set rows → Protocol set rows refused → running set rows ≡ Some x → Runs set rows refused x
unfolding running
running_is set rows refused x ok inv is = running_from set rows refused x (highest set (pending rows)) ok inv refl is
