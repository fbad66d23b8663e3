-- Totals of a weight over the rows and over the planned releases, and how the events change them.
use Rattle.std.proofs.Common.{◌≡◌, ◌≢◌, ℕ, zero, suc, ◌+◌, ◌<◌, ◌≤◌, ◌==◌, Bool, true, false, cond, not, List, [], ◌∷◌, ◌++◌, length, map, Option, None, Some, get_or, set as with_item, refl, ap, sym, ◌∙◌, subst, inl, inr, arith, get_or-set_same, get_or-set_other}
use Rattle.std.proofs.Math.ListN.{get_or-map}
use Rattle.std.proofs.lemmas.List.{length-set}
use Rattle.std.proofs.lemmas.Bool.{cases_eq}
use Rattle.std.specs.List.{fold, filter}
use Rattle.std.specs.Option.{option_map}
use Rattle.rt_base.specs.declared.ids.JobId.{JobId}
use Rattle.txn_set.specs.Set.{Set, txn_of, IsCompiled}
use Rattle.step_journal.specs.State.{State, Row, row_of, new_row, pending}
use Rattle.rt_base.specs.declared.release.Release.{Release}
use Rattle.step_journal.specs.LockRule.{in_falling_priority}
use Rattle.step_journal.specs.Instant.{freed, with_row, with_end, with_late, is_due, with_cancellations, with_releases, arrived}
use Rattle.law_histories.proofs.Members.{In, filter_in}
use Rattle.law_histories.proofs.Ends.{rows_without}
use Rattle.law_histories.proofs.Calendar.{Sound, late_rows, after_cancelled, due, after_late}
use Rattle.law_histories.proofs.Sums.{sum_below, sum_le, sum_moved, sum_member, sum_zero, sum_some, sum_of}

-- sums over lists

pub sum_append : {A : Type 0} (f : A → ℕ) (xs ys : List A) → sum_of f (xs ++ ys) ≡ sum_of f xs + sum_of f ys
sum_append f [] ys = omega arith
sum_append f (x ∷ xs) ys = omega (arith, sum_append f xs ys)

split_at : {A : Type 0} (f : A → ℕ) (p : A → Bool) (x : A) (xs : List A) (b : Bool) → p x ≡ b → sum_of f xs ≡ sum_of f (filter p xs) + sum_of f (filter (λ y. not (p y)) xs)
    → f x + sum_of f xs ≡ sum_of f (cond b (x ∷ filter p xs) (filter p xs)) + sum_of f (cond (not b) (x ∷ filter (λ y. not (p y)) xs) (filter (λ y. not (p y)) xs))
split_at f p x xs true e h = omega (arith, h)
split_at f p x xs false e h = omega (arith, h)

pub sum_split : {A : Type 0} (f : A → ℕ) (p : A → Bool) (xs : List A) → sum_of f xs ≡ sum_of f (filter p xs) + sum_of f (filter (λ y. not (p y)) xs)
sum_split f p [] = refl
sum_split f p (x ∷ xs) = split_at f p x xs (p x) refl (sum_split f p xs)

-- the declared steps of a row's job
abbrev pub steps_of : Set → Row → ℕ
steps_of set x = (txn_of set x.job.tx.0).steps

-- a weight of the rows: nothing where there is none, and it does not ask whom a job waits on
pub record IsWeight (f : Option Row → ℕ) : Type 0 where
  pub none : f None ≡ 0
  pub freed : (job : JobId) (x : Row) → f (Some (freed job x)) ≡ f (Some x)

pub total : Set → (Option Row → ℕ) → List (Option Row) → ℕ
total set f rows = sum_below (λ n. f (row_of rows n)) (length set.txns)

pub total_written : (set : Set) (f : Option Row → ℕ) (rows : List (Option Row)) (n : ℕ) (x : Row) → n < length set.txns → n < length rows → total set f (with_item rows n (Some x)) + f (row_of rows n) ≡ total set f rows + f (Some x)
unfolding total
total_written set f rows n x lt in_rows =
    let m = sum_moved (λ k. f (row_of rows k)) (λ k. f (row_of (with_item rows n (Some x)) k)) n (length set.txns) lt (λ k ne. ap f (get_or-set_other rows n k (Some x) None ne)) in
    omega (arith, m, ap f (get_or-set_same rows n (Some x) None in_rows))

gone_at : (rows : List (Option Row)) (n : ℕ) → get_or (with_item rows n None) n None ≡ None
gone_at [] n = refl
gone_at (x ∷ xs) zero = refl
gone_at (x ∷ xs) (suc n) = gone_at xs n

freed_weight : (f : Option Row → ℕ) (job : JobId) (o : Option Row) → IsWeight f → f (option_map (freed job) o) ≡ f o
freed_weight f job None w = refl
freed_weight f job (Some x) w = w.freed job x

without_at : (f : Option Row → ℕ) (rows : List (Option Row)) (job : JobId) (n : ℕ) → IsWeight f → f (row_of (rows_without rows job) n) ≡ f (get_or (with_item rows job.tx.0 None) n None)
without_at f rows job n w = ap f (get_or-map (option_map (freed job)) (with_item rows job.tx.0 None) n None) ∙ freed_weight f job (get_or (with_item rows job.tx.0 None) n None) w

gone_weight : (f : Option Row → ℕ) (rows : List (Option Row)) (job : JobId) → IsWeight f → f (row_of (rows_without rows job) job.tx.0) ≡ 0
gone_weight f rows job w = without_at f rows job job.tx.0 w ∙ (ap f (gone_at rows job.tx.0) ∙ w.none)

other_weight : (f : Option Row → ℕ) (rows : List (Option Row)) (job : JobId) (n : ℕ) → IsWeight f → n ≢ job.tx.0 → f (row_of (rows_without rows job) n) ≡ f (row_of rows n)
other_weight f rows job n w ne = without_at f rows job n w ∙ ap f (get_or-set_other rows job.tx.0 n None None ne)

pub total_ended : (set : Set) (f : Option Row → ℕ) (rows : List (Option Row)) (job : JobId) → IsWeight f → job.tx.0 < length set.txns → total set f (rows_without rows job) + f (row_of rows job.tx.0) ≡ total set f rows
unfolding total
total_ended set f rows job w lt =
    let m = sum_moved (λ k. f (row_of rows k)) (λ k. f (row_of (rows_without rows job) k)) job.tx.0 (length set.txns) lt (λ k ne. other_weight f rows job k w ne) in
    omega (arith, m, gone_weight f rows job w)

pub total_left : (set : Set) (f : Option Row → ℕ) (rows : List (Option Row)) (job : JobId) → IsWeight f → total set f (rows_without rows job) ≤ total set f rows
unfolding total
total_left set f rows job w = sum_le (λ k. f (row_of (rows_without rows job) k)) (λ k. f (row_of rows k)) (length set.txns) (λ k lt. elim (cases_eq k job.tx.0) [
  | inl e ↦ (let at : f (row_of (rows_without rows job) k) ≡ 0 = ap (λ (m : ℕ). f (row_of (rows_without rows job) m)) e ∙ gone_weight f rows job w in omega (arith, at))
  | inr ne ↦ omega (arith, other_weight f rows job k w ne)
])

pub total_none : (set : Set) (f : Option Row → ℕ) (rows : List (Option Row)) → ((n : ℕ) → f (row_of rows n) ≡ 0) → total set f rows ≡ 0
unfolding total
total_none set f rows h = sum_zero (λ n. f (row_of rows n)) (length set.txns) (λ n lt. h n)

pub total_member : (set : Set) (f : Option Row → ℕ) (rows : List (Option Row)) (n : ℕ) → n < length set.txns → f (row_of rows n) ≤ total set f rows
unfolding total
total_member set f rows n lt = sum_member (λ k. f (row_of rows k)) n (length set.txns) lt

pub total_some : (set : Set) (f : Option Row → ℕ) (rows : List (Option Row)) → 0 < total set f rows → (n : ℕ) × (0 < f (row_of rows n))
unfolding total
total_some set f rows pos = let k = sum_some (λ k. f (row_of rows k)) (length set.txns) pos in (k.0, k.2)

-- the weights of two lists of rows, one less at one place
pub total_less : (set : Set) (f g : Option Row → ℕ) (rows rows' : List (Option Row)) (n : ℕ) → n < length set.txns → ((k : ℕ) → k ≢ n → g (row_of rows' k) ≤ f (row_of rows k)) → g (row_of rows' n) + 1 ≤ f (row_of rows n) → total set g rows' + 1 ≤ total set f rows
unfolding total
total_less set f g rows rows' n lt other at = less (λ k. f (row_of rows k)) (λ k. g (row_of rows' k)) n (length set.txns) lt other at where
  less : (f g : ℕ → ℕ) (k n : ℕ) → k < n → ((m : ℕ) → m ≢ k → g m ≤ f m) → g k + 1 ≤ f k → sum_below g n + 1 ≤ sum_below f n
  less f g k zero lt h at = absurd (omega arith)
  less f g k (suc n) lt h at = elim (cases_eq k n) [
    | inl e ↦ omega (arith, sum_le g f n (λ m below. h m (λ q. omega arith)), at, ap f e, ap g e)
    | inr ne ↦ omega (arith, less f g k n (omega arith) h at, h n (λ q. ne (sym q)))
  ]

-- the cancellations and the releases of an instant

late_total : (set : Set) (f : Option Row → ℕ) (t : ℕ) (gone : List Row) (s : State) → IsWeight f → total set f (fold (with_late t) s gone).rows ≤ total set f s.rows
unfolding with_end
late_total set f t [] s w = omega arith
late_total set f t (g ∷ gone) s w =
    let a : total set f (rows_without s.rows g.job) ≤ total set f s.rows = total_left set f s.rows g.job w in
    let b : total set f (fold (with_late t) (with_late t s g) gone).rows ≤ total set f (rows_without s.rows g.job) = late_total set f t gone (with_late t s g) w in
    omega (arith, a, b)

released_total : (set : Set) (f : Option Row → ℕ) (t : ℕ) (h : Release → ℕ) (ds : List Release) (rows : List (Option Row)) → length rows ≡ length set.txns → ((d : Release) → In d ds → (d.job.tx.0 < length set.txns) × (f (Some (new_row d.job t)) ≤ h d))
    → total set f (fold (with_row t) rows (map (λ d. d.job) ds)) ≤ total set f rows + sum_of h ds
released_total set f t h [] rows size all = omega arith
released_total set f t h (d ∷ ds) rows size all =
    let o = all d (inl refl) in
    let w = total_written set f rows d.job.tx.0 (new_row d.job t) o.0 (omega (arith, o.0, size)) in
    let r = released_total set f t h ds (with_row t rows d.job) (length-set rows d.job.tx.0 (Some (new_row d.job t)) ∙ size) (λ q i. all q (inr i)) in
    omega (arith, w, r, o.1)

-- to arrive at a tick: what was planned for it becomes rows
pub arrived_total : (set : Set) (refused : JobId → Bool) (t : ℕ) (s : State) (ok : IsCompiled set) (sound : Sound set refused t s) (f : Option Row → ℕ) (h g : Release → ℕ) → IsWeight f → ((d : Release) → In d s.planned → f (Some (new_row d.job t)) ≤ h d)
    → total set f (arrived set t s).rows + sum_of g (arrived set t s).planned + sum_of g (filter (λ q. q.tick == t) s.planned) ≤ total set f s.rows + sum_of g s.planned + sum_of h (filter (λ q. q.tick == t) s.planned)
unfolding arrived with_releases with_cancellations after_cancelled due late_rows
arrived_total set refused t s ok sound f h g w all =
    let a = after_late set refused t s ok sound in
    let l : total set f (after_cancelled set refused t s ok sound).rows ≤ total set f s.rows = late_total set f t (in_falling_priority set (filter (is_due set t) (pending s.rows))) (record s { now = t }) w in
    let r = released_total set f t h (filter (λ q. q.tick == t) s.planned) (after_cancelled set refused t s ok sound).rows a.frame.count (λ d i. let m = (filter_in (λ (q : Release). q.tick == t) d s.planned i).0 in (sound.calendar.in_set d m, all d m)) in
    let r' : total set f (fold (with_row t) (after_cancelled set refused t s ok sound).rows (map (λ d. d.job) (filter (λ q. q.tick == t) (after_cancelled set refused t s ok sound).planned))) ≤ total set f (after_cancelled set refused t s ok sound).rows + sum_of h (filter (λ q. q.tick == t) s.planned) =
    subst (λ (l : List Release). total set f (fold (with_row t) (after_cancelled set refused t s ok sound).rows (map (λ d. d.job) (filter (λ q. q.tick == t) l))) ≤ total set f (after_cancelled set refused t s ok sound).rows + sum_of h (filter (λ q. q.tick == t) s.planned)) (sym a.planned) r in
    let p = ap (λ (l : List Release). sum_of g (filter (λ q. not (q.tick == t)) l)) a.planned in
    omega (arith, l, r', p, sum_split g (λ q. q.tick == t) s.planned)

pub arrived_plans : (set : Set) (refused : JobId → Bool) (t : ℕ) (s : State) (ok : IsCompiled set) (sound : Sound set refused t s) → (arrived set t s).plans ≡ s.plans
unfolding arrived with_releases with_cancellations after_cancelled due late_rows
arrived_plans set refused t s ok sound = (after_late set refused t s ok sound).plans
