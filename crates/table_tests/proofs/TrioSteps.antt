-- The rows of the tests after each call.
use Rattle.std.proofs.Common.{◌≡◌, ℕ, zero, suc, ◌^◌, ◌<◌, List, [], ◌∷◌, length, map, pos, Option, None, Some, get_or, refl, ap, sym, ◌∙◌, subst, arith}
use Rattle.rt_base.specs.declared.ids.JobId.{JobId}
use Rattle.rt_base.specs.declared.operation.Op.{Op}
use Rattle.rt_base.specs.declared.operation.Op.TheVariants.{Read, Write}
use Rattle.item_model.specs.declared.stored.Stored.{Stored}
use Rattle.ceiling_table.specs.Held.{HasItem}
use Rattle.txn_set.specs.Set.{Set}
use Rattle.step_journal.specs.State.{Row, row_of, new_row}
use Rattle.step_journal.specs.Instant.{with_row}
use Rattle.core_tables.specs.Rows.{Accesses, PendingSeen, AreFactsOf, AreRows, IsDeclared, accesses_of, accesses_at, no_access, rows_stepped, rows_waiting, rows_ended}
use Rattle.core_tables.specs.Waiting.{MayWait}
use Rattle.table_tests.specs.Trio.{x, trio, read_row, read_rows, both_rows, trio_txns, trio_stored, first_job, no_rows, written_row, high_row, written_rows}

pub opened : (set : Set) (p : PendingSeen) → set ≡ trio → AreRows set p (map (λ t. None) set.txns) → AreRows trio p no_rows
opened set p e a = subst (λ (s : Set). AreRows s p (map (λ t. None) s.txns)) e a

pub within : (p : PendingSeen) (rows : List (Option Row)) (n : ℕ) → AreRows trio p rows → n < length rows → n < length p.rows
within p rows n a lt = omega (arith, lt, ap length a.rows)

pub within_job : (p : PendingSeen) (rows : List (Option Row)) (job j : JobId) → AreRows trio p rows → job ≡ j → j.tx.0 < length rows → job.tx.0 < length p.rows
within_job p rows job j a e lt = omega (arith, lt, ap length a.rows, ap (λ (k : JobId). k.tx.0) e)

pub free_job : (p : PendingSeen) (rows : List (Option Row)) (job j : JobId) → AreRows trio p rows → job ≡ j → row_of rows j.tx.0 ≡ None → row_of p.rows job.tx.0 ≡ None
free_job p rows job j a e none = ap (λ (r : List (Option Row)). row_of r job.tx.0) a.rows ∙ (ap (λ (k : JobId). row_of rows k.tx.0) e ∙ none)

changed : (p q : PendingSeen) (rows : List (Option Row)) (f : List (Option Row) → List (Option Row)) → AreRows trio p rows → q ≡ record p { rows = f p.rows } → AreRows trio q (f rows)
changed p q rows f a e = record {
  facts = subst (AreFactsOf trio) (sym (ap (λ (s : PendingSeen). s.facts) e)) a.facts;
  rows = ap (λ (s : PendingSeen). s.rows) e ∙ ap f a.rows;
}

pub released : (p q : PendingSeen) (rows : List (Option Row)) (job j : JobId) (tick : ℕ) → AreRows trio p rows → job ≡ j → q ≡ record p { rows = with_row tick p.rows job } → AreRows trio q (with_row tick rows j)
released p q rows job j tick a e h = subst (λ (k : JobId). AreRows trio q (with_row tick rows k)) e (changed p q rows (λ r. with_row tick r job) a h)

pub stepped : (p q : PendingSeen) (rows : List (Option Row)) (items : List Stored) (op : Op) (tx : ℕ) (row : Row) → AreRows trio p rows → row_of rows tx ≡ Some row → items ≡ trio_stored
    → ((r : Row) → row_of p.rows tx ≡ Some r → q ≡ record p { rows = rows_stepped p.rows items op r }) → AreRows trio q (rows_stepped rows trio_stored op row)
stepped p q rows items op tx row a here e h =
    subst (λ (s : List Stored). AreRows trio q (rows_stepped rows s op row)) e
    (changed p q rows (λ r. rows_stepped r items op row) a (h row (ap (λ (r : List (Option Row)). row_of r tx) a.rows ∙ here)))

pub waited : (p q : PendingSeen) (rows : List (Option Row)) (tx : ℕ) (row : Row) (job j : JobId) → AreRows trio p rows → row_of rows tx ≡ Some row → job ≡ j
    → ((r : Row) → row_of p.rows tx ≡ Some r → q ≡ record p { rows = rows_waiting p.rows r job }) → AreRows trio q (rows_waiting rows row j)
waited p q rows tx row job j a here e h =
    subst (λ (k : JobId). AreRows trio q (rows_waiting rows row k)) e
    (changed p q rows (λ r. rows_waiting r row job) a (h row (ap (λ (r : List (Option Row)). row_of r tx) a.rows ∙ here)))

pub ended : (p q : PendingSeen) (rows : List (Option Row)) (tx : ℕ) (row : Row) → AreRows trio p rows → row_of rows tx ≡ Some row
    → ((r : Row) → row_of p.rows tx ≡ Some r → q ≡ record p { rows = rows_ended p.rows r }) → AreRows trio q (rows_ended rows row)
ended p q rows tx row a here h = changed p q rows (λ r. rows_ended r row) a (h row (ap (λ (r : List (Option Row)). row_of r tx) a.rows ∙ here))

-- the conditions of a step

pub declared : (p : PendingSeen) (rows : List (Option Row)) (tx : ℕ) (op : Op) → AreRows trio p rows → IsDeclared (get_or (map accesses_of trio_txns) tx no_access) op → IsDeclared (accesses_at p.facts tx) op
declared p rows tx op a h = subst (λ (l : List Accesses). IsDeclared (get_or l tx no_access) op) (sym a.facts.accesses) h

pub has_item : (p : PendingSeen) (rows : List (Option Row)) (op : Op) → AreRows trio p rows → HasItem 1 op → HasItem (length p.facts.ceilings) op
has_item p rows op a h = subst (λ (n : ℕ). HasItem n op) (sym a.facts.items) h

pub as_many : (p : PendingSeen) (rows : List (Option Row)) (items : List Stored) → AreRows trio p rows → items ≡ trio_stored → length items ≡ length p.facts.ceilings
as_many p rows items a e = ap length e ∙ sym a.facts.items

pub little_used : (p : PendingSeen) (rows : List (Option Row)) (tx : ℕ) (row : Row) → AreRows trio p rows → row_of rows tx ≡ Some row → row.used < 2 ^ 63 → (r : Row) → row_of p.rows tx ≡ Some r → r.used < 2 ^ 63
little_used p rows tx row a here small r h =
    let one : Some r ≡ Some row = sym h ∙ (ap (λ (l : List (Option Row)). row_of l tx) a.rows ∙ here) in
    let same : r ≡ row = cc in
    omega (arith, small, ap (λ (q : Row). q.used) same)

-- the condition of the wait

no_wait : (n : ℕ) (row : Row) (j : JobId) → row_of written_rows n ≡ Some row → row.waits_on ≡ Some j → ⊥
no_wait zero row j h e = let same : high_row ≡ row = cc in let free : None ≡ row.waits_on = ap (λ (r : Row). r.waits_on) same in cc (free, e)
no_wait (suc zero) row j h e = cc
no_wait (suc (suc zero)) row j h e = let same : written_row ≡ row = cc in let free : None ≡ row.waits_on = ap (λ (r : Row). r.waits_on) same in cc (free, e)
no_wait (suc (suc (suc n))) row j h e = cc

high_may_wait : MayWait written_rows 0 (first_job 2)
high_may_wait = record {
  waiter = high_row;
  pending = refl;
  free = refl;
  blocker = written_row;
  here = refl;
  is = refl;
  runs = refl;
  differ = λ e. omega (arith, e);
  no_waiters = λ n row j h e. absurd (no_wait n row j h e);
}

pub may_wait_now : (p : PendingSeen) (job : JobId) → AreRows trio p written_rows → job ≡ first_job 2 → MayWait p.rows 0 job
may_wait_now p job a e = subst (λ (r : List (Option Row)). MayWait r 0 job) (sym a.rows) (subst (MayWait written_rows 0) (sym e) high_may_wait)

-- the rows on the way

abbrev pub low_released : List (Option Row)
low_released = None ∷ None ∷ Some (new_row (first_job 2) 0) ∷ []

abbrev pub low_rows : List (Option Row)
low_rows = None ∷ None ∷ Some written_row ∷ []

abbrev pub waiting_rows : List (Option Row)
waiting_rows = Some (record high_row { waits_on = Some (first_job 2) }) ∷ None ∷ Some written_row ∷ []

abbrev pub three_rows : List (Option Row)
three_rows = Some (record high_row { waits_on = Some (first_job 2) }) ∷ Some (new_row (first_job 1) 2) ∷ Some written_row ∷ []

abbrev pub left_rows : List (Option Row)
left_rows = Some high_row ∷ Some (new_row (first_job 1) 2) ∷ None ∷ []

abbrev pub middle_released : List (Option Row)
middle_released = None ∷ Some (new_row (first_job 1) 0) ∷ None ∷ []

abbrev pub middle_rows : List (Option Row)
middle_rows = None ∷ Some read_row ∷ None ∷ []

pub low_written : (p q r : PendingSeen) (job : JobId) (items : List Stored) → AreRows trio p no_rows → job ≡ first_job 2 → items ≡ trio_stored → q ≡ record p { rows = with_row 0 p.rows job }
    → ((row : Row) → row_of q.rows 2 ≡ Some row → r ≡ record q { rows = rows_stepped q.rows items (Write x (pos 9)) row }) → AreRows trio r low_rows
low_written p q r job items a e i h k = stepped q r low_released items (Write x (pos 9)) 2 (new_row (first_job 2) 0) (released p q no_rows job (first_job 2) 0 a e h) refl i k

pub middle_done : (p q r : PendingSeen) (job : JobId) (items : List Stored) → AreRows trio p no_rows → job ≡ first_job 1 → items ≡ trio_stored → q ≡ record p { rows = with_row 0 p.rows job }
    → ((row : Row) → row_of q.rows 1 ≡ Some row → r ≡ record q { rows = rows_stepped q.rows items (Read x) row }) → AreRows trio r middle_rows
middle_done p q r job items a e i h k = stepped q r middle_released items (Read x) 1 (new_row (first_job 1) 0) (released p q no_rows job (first_job 1) 0 a e h) refl i k

pub high_after_low : (r s : PendingSeen) (job : JobId) → AreRows trio r low_rows → job ≡ first_job 0 → s ≡ record r { rows = with_row 1 r.rows job } → AreRows trio s written_rows
high_after_low r s job a e h = released r s low_rows job (first_job 0) 1 a e h

pub high_after_middle : (r s : PendingSeen) (job : JobId) → AreRows trio r middle_rows → job ≡ first_job 0 → s ≡ record r { rows = with_row 1 r.rows job } → AreRows trio s read_rows
high_after_middle r s job a e h = released r s middle_rows job (first_job 0) 1 a e h

pub high_waits : (p q : PendingSeen) (job : JobId) → AreRows trio p written_rows → job ≡ first_job 2 → ((r : Row) → row_of p.rows 0 ≡ Some r → q ≡ record p { rows = rows_waiting p.rows r job }) → AreRows trio q waiting_rows
high_waits p q job a e h = waited p q written_rows 0 high_row job (first_job 2) a refl e h

pub middle_stands_by : (p q : PendingSeen) (job : JobId) → AreRows trio p waiting_rows → job ≡ first_job 1 → q ≡ record p { rows = with_row 2 p.rows job } → AreRows trio q three_rows
middle_stands_by p q job a e h = released p q waiting_rows job (first_job 1) 2 a e h

pub low_ends : (p q : PendingSeen) → AreRows trio p three_rows → ((r : Row) → row_of p.rows 2 ≡ Some r → q ≡ record p { rows = rows_ended p.rows r }) → AreRows trio q left_rows
low_ends p q a h = ended p q three_rows 2 written_row a refl h

pub high_reads : (p q : PendingSeen) (items : List Stored) → AreRows trio p read_rows → items ≡ trio_stored → ((row : Row) → row_of p.rows 0 ≡ Some row → q ≡ record p { rows = rows_stepped p.rows items (Read x) row }) → AreRows trio q both_rows
high_reads p q items a e h = stepped p q read_rows items (Read x) 0 high_row a refl e h

pub low_last : (p q : PendingSeen) (job : JobId) → AreRows trio p both_rows → job ≡ first_job 2 → q ≡ record p { rows = with_row 2 p.rows job } → AreRows trio q (with_row 2 both_rows (first_job 2))
low_last p q job a e h = released p q both_rows job (first_job 2) 2 a e h
