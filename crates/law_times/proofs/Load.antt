-- The steps that pending jobs may still take, and those of the jobs that were released, at or above a priority.
use Rattle.std.proofs.Common.{◌≡◌, ◌≢◌, ℕ, suc, ◌+◌, ◌-◌, ◌*◌, ◌<◌, ◌≤◌, ◌==◌, Bool, true, false, cond, List, length, Option, None, Some, set as with_item, refl, ap, inl, inr, arith, suc-mul}
use Rattle.std.proofs.lemmas.Bool.{cases_lt, eq-eqb, ne_eqb, le-leb, lt-leb}
use Rattle.std.specs.Prelude.{nat_le}
use Rattle.rt_base.specs.declared.ids.JobId.{JobId}
use Rattle.txn_set.specs.Set.{Set, txn_of}
use Rattle.step_journal.specs.State.{Row, row_of, prio}
use Rattle.law_histories.proofs.Ends.{rows_without}
use Rattle.law_histories.proofs.Sums.{sum_below, sum_moved}
use Rattle.law_histories.proofs.Totals.{steps_of, IsWeight, total, total_written, total_ended, total_left, total_member, total_some, total_none}

abbrev pub todo_if : Bool → ℕ → ℕ
todo_if b n = cond b n 0

-- what a pending job may still take, where it is at or above a priority
abbrev pub todo : Set → ℕ → Option Row → ℕ
todo set p None = 0
todo set p (Some x) = todo_if (nat_le p (prio set x)) (steps_of set x - x.used)

todo_weight : (set : Set) (p : ℕ) → IsWeight (todo set p)
todo_weight set p = record { none = refl; freed = λ job x. refl }

pub pend : Set → ℕ → List (Option Row) → ℕ
pend set p rows = total set (todo set p) rows

-- a row at its place

pub todo_above : (set : Set) (p : ℕ) (x : Row) → p ≤ prio set x → todo set p (Some x) ≡ steps_of set x - x.used
todo_above set p x le = ap (λ (b : Bool). todo_if b (steps_of set x - x.used)) (le-leb _ _ le)

pub todo_below : (set : Set) (p : ℕ) (x : Row) → prio set x < p → todo set p (Some x) ≡ 0
todo_below set p x lt = ap (λ (b : Bool). todo_if b (steps_of set x - x.used)) (lt-leb _ _ lt)

-- one row is written, and a job ends

pub pend_written : (set : Set) (p : ℕ) (rows : List (Option Row)) (n : ℕ) (x : Row) → n < length set.txns → n < length rows
    → pend set p (with_item rows n (Some x)) + todo set p (row_of rows n) ≡ pend set p rows + todo set p (Some x)
unfolding pend
pend_written set p rows n x lt in_rows = total_written set (todo set p) rows n x lt in_rows

pub pend_ended : (set : Set) (p : ℕ) (rows : List (Option Row)) (job : JobId) → job.tx.0 < length set.txns → pend set p (rows_without rows job) + todo set p (row_of rows job.tx.0) ≡ pend set p rows
unfolding pend
pend_ended set p rows job lt = total_ended set (todo set p) rows job (todo_weight set p) lt

pub pend_left : (set : Set) (p : ℕ) (rows : List (Option Row)) (job : JobId) → pend set p (rows_without rows job) ≤ pend set p rows
unfolding pend
pend_left set p rows job = total_left set (todo set p) rows job (todo_weight set p)

-- a pending job at or above the priority, and none

pub pend_member : (set : Set) (p : ℕ) (rows : List (Option Row)) (x : Row) (n : ℕ) → n < length set.txns → row_of rows n ≡ Some x → p ≤ prio set x → steps_of set x - x.used ≤ pend set p rows
unfolding pend
pend_member set p rows x n lt here le = omega (arith, total_member set (todo set p) rows n lt, ap (todo set p) here, todo_above set p x le)

some_at : (set : Set) (p : ℕ) (n : ℕ) (rows : List (Option Row)) (o : Option Row) → row_of rows n ≡ o → 0 < todo set p o → (x : Row) × (row_of rows n ≡ Some x) × (p ≤ prio set x)
some_at set p n rows None e pos = absurd (omega arith)
some_at set p n rows (Some x) e pos = elim (cases_lt (prio set x) p) [
  | inl lt ↦ absurd (omega (arith, todo_below set p x lt))
  | inr le ↦ (x, e, le)
]

pub pend_some : (set : Set) (p : ℕ) (rows : List (Option Row)) → 0 < pend set p rows → (n : ℕ) × (x : Row) × (row_of rows n ≡ Some x) × (p ≤ prio set x)
unfolding pend
pend_some set p rows pos =
    let k = total_some set (todo set p) rows pos in
    let x = some_at set p k.0 rows (row_of rows k.0) refl k.1 in
    (k.0, x.0, x.1, x.2)

nothing_todo : (set : Set) (p : ℕ) (o : Option Row) → ((x : Row) → o ≡ Some x → ⊥) → todo set p o ≡ 0
nothing_todo set p None h = refl
nothing_todo set p (Some x) h = absurd (h x refl)

pub pend_none : (set : Set) (p : ℕ) (rows : List (Option Row)) → ((n : ℕ) (x : Row) → row_of rows n ≡ Some x → ⊥) → pend set p rows ≡ 0
unfolding pend
pend_none set p rows h = total_none set (todo set p) rows (λ k. nothing_todo set p (row_of rows k) (λ x e. h k x e))

-- released jobs, by their number for each transaction

abbrev pub load : Set → ℕ → (ℕ → ℕ) → ℕ → ℕ
load set p count n = todo_if (nat_le p (txn_of set n).prio) (count n * (txn_of set n).steps)

pub work : Set → ℕ → (ℕ → ℕ) → ℕ
work set p count = sum_below (load set p count) (length set.txns)

pub work_is : (set : Set) (p : ℕ) (count : ℕ → ℕ) → work set p count ≡ sum_below (load set p count) (length set.txns)
unfolding work
work_is set p count = refl

-- one more of a transaction
abbrev pub one_more : (ℕ → ℕ) → ℕ → ℕ → ℕ
one_more count n m = cond (m == n) (suc (count m)) (count m)

pub one_more_here : (count : ℕ → ℕ) (n : ℕ) → one_more count n n ≡ suc (count n)
one_more_here count n = ap (λ (b : Bool). cond b (suc (count n)) (count n)) (eq-eqb n n refl)

pub one_more_there : (count : ℕ → ℕ) (n m : ℕ) → m ≢ n → one_more count n m ≡ count m
one_more_there count n m ne = ap (λ (b : Bool). cond b (suc (count m)) (count m)) (ne_eqb m n ne)

more_at : (b : Bool) (k s : ℕ) → todo_if b (suc k * s) ≡ todo_if b (k * s) + todo_if b s
more_at true k s = suc-mul k s
more_at false k s = refl

pub work_more : (set : Set) (p : ℕ) (count : ℕ → ℕ) (n : ℕ) → n < length set.txns → work set p (one_more count n) ≡ work set p count + todo_if (nat_le p (txn_of set n).prio) (txn_of set n).steps
unfolding work
work_more set p count n lt =
    let f : ℕ → ℕ = load set p count in
    let g : ℕ → ℕ = load set p (one_more count n) in
    let m = sum_moved f g n (length set.txns) lt (λ k ne. ap (λ (c : ℕ). todo_if (nat_le p (txn_of set k).prio) (c * (txn_of set k).steps)) (one_more_there count n k ne)) in
    let at : g n ≡ todo_if (nat_le p (txn_of set n).prio) (suc (count n) * (txn_of set n).steps) = ap (λ (c : ℕ). todo_if (nat_le p (txn_of set n).prio) (c * (txn_of set n).steps)) (one_more_here count n) in
    omega (arith, m, at, more_at (nat_le p (txn_of set n).prio) (count n) (txn_of set n).steps)
