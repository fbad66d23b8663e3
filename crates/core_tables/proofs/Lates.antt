-- The jobs that are late at a tick: the highest of them ends, and the others stay in their order.
use Rattle.std.proofs.Common.{◌≡◌, ◌≢◌, ℕ, zero, suc, ◌+◌, ◌<◌, ◌≤◌, Bool, true, false, cond, List, [], ◌∷◌, ◌++◌, map, length, Option, None, Some, get_or, set as with_item, refl, ap, sym, ◌∙◌, subst, inl, inr, arith, length-append, get_or-set_other}
use Rattle.std.proofs.lemmas.Bool.{cases_lt, cases_order, cases_eq, lt-ltb, le-ltb}
use Rattle.std.proofs.lemmas.List.Elements.{filter-append}
use Rattle.std.specs.Prelude.{nat_lt, slice_get}
use Rattle.std.specs.List.{filter}
use Rattle.std.specs.Option.{option_map}
use Rattle.rt_base.specs.declared.ids.JobId.{JobId}
use Rattle.txn_set.specs.Set.{Set, IsCompiled}
use Rattle.step_journal.specs.State.{Row, row_of, pending, prio}
use Rattle.step_journal.specs.LockRule.{placed, in_falling_priority, highest}
use Rattle.step_journal.specs.Instant.{freed, is_due}
use Rattle.law_histories.proofs.Members.{In, filter_in, pending_in, highest_is}
use Rattle.law_histories.proofs.Holding.{in_left}
use Rattle.law_histories.proofs.Calendar.{Frame, named_from, sorted_in}
use Rattle.core_tables.specs.Changes.{rows_without, late_jobs}

-- a row that is there parts the pending ones

pub record Split (rows : List (Option Row)) (n : ℕ) (r : Row) : Type 0 where
  pub before : List Row
  pub after : List Row
  pub whole : pending rows ≡ before ++ r ∷ after
  pub without : pending (with_item rows n None) ≡ before ++ after

pub split : (rows : List (Option Row)) (n : ℕ) (r : Row) → row_of rows n ≡ Some r → Split rows n r
split [] n r h = absurd cc
split (None ∷ rows) zero r h = absurd cc
split (Some x ∷ rows) zero r h =
    let e : x ≡ r = cc in
    record { before = []; after = pending rows; whole = ap (λ (y : Row). y ∷ pending rows) e; without = refl }
split (None ∷ rows) (suc n) r h = let s = split rows n r h in record { before = s.before; after = s.after; whole = s.whole; without = s.without }
split (Some x ∷ rows) (suc n) r h =
    let s = split rows n r h in
    record { before = x ∷ s.before; after = s.after; whole = ap (λ (l : List Row). x ∷ l) s.whole; without = ap (λ (l : List Row). x ∷ l) s.without }

-- rows in falling priority

placed_before : (set : Set) (r x : Row) (xs : List Row) → prio set x < prio set r → placed set r (x ∷ xs) ≡ r ∷ x ∷ xs
placed_before set r x xs lt = ap (λ (b : Bool). cond b (r ∷ x ∷ xs) (x ∷ placed set r xs)) (lt-ltb _ _ lt)

placed_after : (set : Set) (r x : Row) (xs : List Row) → prio set r ≤ prio set x → placed set r (x ∷ xs) ≡ x ∷ placed set r xs
placed_after set r x xs le = ap (λ (b : Bool). cond b (r ∷ x ∷ xs) (x ∷ placed set r xs)) (le-ltb _ _ le)

-- a is higher than r
swap_lt : (set : Set) (a r : Row) (l : List Row) → prio set r < prio set a → placed set a (placed set r l) ≡ placed set r (placed set a l)
swap_lt set a r [] lt = placed_before set a r [] lt ∙ sym (placed_after set r a [] (omega arith))
swap_lt set a r (x ∷ xs) lt =
    elim (cases_lt (prio set x) (prio set r)) [
      | inl low ↦ ap (placed set a) (placed_before set r x xs low)
          ∙ (placed_before set a r (x ∷ xs) lt
          ∙ sym (ap (placed set r) (placed_before set a x xs (omega arith))
          ∙ (placed_after set r a (x ∷ xs) (omega arith)
          ∙ ap (λ (l : List Row). a ∷ l) (placed_before set r x xs low))))
      | inr high ↦ elim (cases_lt (prio set x) (prio set a)) [
        | inl low ↦ ap (placed set a) (placed_after set r x xs high)
            ∙ (placed_before set a x (placed set r xs) low
            ∙ sym (ap (placed set r) (placed_before set a x xs low)
            ∙ (placed_after set r a (x ∷ xs) (omega arith)
            ∙ ap (λ (l : List Row). a ∷ l) (placed_after set r x xs high))))
        | inr top ↦ ap (placed set a) (placed_after set r x xs high)
            ∙ (placed_after set a x (placed set r xs) top
            ∙ (ap (λ (l : List Row). x ∷ l) (swap_lt set a r xs lt)
            ∙ sym (ap (placed set r) (placed_after set a x xs top)
            ∙ placed_after set r x (placed set a xs) high)))
      ]
    ]

swap_placed : (set : Set) (a r : Row) (l : List Row) → prio set a ≢ prio set r → placed set a (placed set r l) ≡ placed set r (placed set a l)
swap_placed set a r l ne =
    elim (cases_order (prio set a) (prio set r)) [
      | inl e ↦ absurd (ne e)
      | inr o ↦ elim o [ inl lt ↦ sym (swap_lt set r a l lt) | inr gt ↦ swap_lt set a r l gt ]
    ]

-- one of the rows, placed last
placed_last : (set : Set) (r : Row) (xs ys : List Row) → ((x : Row) → In x xs → prio set x ≢ prio set r)
    → in_falling_priority set (xs ++ r ∷ ys) ≡ placed set r (in_falling_priority set (xs ++ ys))
placed_last set r [] ys apart = refl
placed_last set r (x ∷ xs) ys apart =
    ap (placed set x) (placed_last set r xs ys (λ y i. apart y (inr i)))
    ∙ swap_placed set x r (in_falling_priority set (xs ++ ys)) (apart x (inl refl))

-- where it is the first, the others are as they were
first_placed : (set : Set) (r : Row) (l : List Row) → ((x : Row) → In x l → prio set x ≢ prio set r) → slice_get (placed set r l) 0 ≡ Some r → placed set r l ≡ r ∷ l
first_placed set r [] apart h = refl
first_placed set r (x ∷ xs) apart h =
    elim (cases_lt (prio set x) (prio set r)) [
      | inl lt ↦ placed_before set r x xs lt
      | inr ge ↦ absurd (
          let e : slice_get (x ∷ placed set r xs) 0 ≡ Some r = ap (λ (l : List Row). slice_get l 0) (sym (placed_after set r x xs ge)) ∙ h in
          let same : x ≡ r = cc in
          apart x (inl refl) (ap (prio set) same))
    ]

-- rows that are freed keep their order

placed_freed_at : (set : Set) (job : JobId) (r x : Row) (xs ys : List Row) (b : Bool)
    → cond b (freed job r ∷ freed job x ∷ map (freed job) xs) (freed job x ∷ map (freed job) ys) ≡ map (freed job) (cond b (r ∷ x ∷ xs) (x ∷ ys))
placed_freed_at set job r x xs ys true = refl
placed_freed_at set job r x xs ys false = refl

placed_freed : (set : Set) (job : JobId) (r : Row) (l : List Row) → placed set (freed job r) (map (freed job) l) ≡ map (freed job) (placed set r l)
placed_freed set job r [] = refl
placed_freed set job r (x ∷ xs) =
    ap (λ (l : List Row). cond (nat_lt (prio set x) (prio set r)) (freed job r ∷ freed job x ∷ map (freed job) xs) (freed job x ∷ l)) (placed_freed set job r xs)
    ∙ placed_freed_at set job r x xs (placed set r xs) (nat_lt (prio set x) (prio set r))

falling_freed : (set : Set) (job : JobId) (l : List Row) → in_falling_priority set (map (freed job) l) ≡ map (freed job) (in_falling_priority set l)
falling_freed set job [] = refl
falling_freed set job (r ∷ rs) = ap (placed set (freed job r)) (falling_freed set job rs) ∙ placed_freed set job r (in_falling_priority set rs)

due_freed_at : (job : JobId) (r : Row) (rs ls : List Row) (b : Bool) → ls ≡ map (freed job) rs → cond b (freed job r ∷ ls) ls ≡ map (freed job) (cond b (r ∷ rs) rs)
due_freed_at job r rs ls true e = ap (λ (l : List Row). freed job r ∷ l) e
due_freed_at job r rs ls false e = e

due_freed : (set : Set) (tick : ℕ) (job : JobId) (l : List Row) → filter (is_due set tick) (map (freed job) l) ≡ map (freed job) (filter (is_due set tick) l)
due_freed set tick job [] = refl
due_freed set tick job (r ∷ rs) = due_freed_at job r (filter (is_due set tick) rs) (filter (is_due set tick) (map (freed job) rs)) (is_due set tick r) (due_freed set tick job rs)

pending_freed : (job : JobId) (rows : List (Option Row)) → pending (map (option_map (freed job)) rows) ≡ map (freed job) (pending rows)
pending_freed job [] = refl
pending_freed job (None ∷ rows) = pending_freed job rows
pending_freed job (Some r ∷ rows) = ap (λ (l : List Row). freed job r ∷ l) (pending_freed job rows)

jobs_freed : (job : JobId) (l : List Row) → map (λ (r : Row). r.job) (map (freed job) l) ≡ map (λ (r : Row). r.job) l
jobs_freed job [] = refl
jobs_freed job (r ∷ rs) = ap (λ (l : List JobId). r.job ∷ l) (jobs_freed job rs)

length_freed : (job : JobId) (l : List Row) → length (map (freed job) l) ≡ length l
length_freed job [] = refl
length_freed job (r ∷ rs) = ap suc (length_freed job rs)

abbrev pub late_rows : Set → ℕ → List (Option Row) → List Row
late_rows set tick rows = in_falling_priority set (filter (is_due set tick) (pending rows))

late_freed : (set : Set) (tick : ℕ) (job : JobId) (rows : List (Option Row)) → late_jobs set tick (map (option_map (freed job)) rows) ≡ late_jobs set tick rows
late_freed set tick job rows =
    ap (λ (l : List Row). map (λ (r : Row). r.job) (in_falling_priority set (filter (is_due set tick) l))) (pending_freed job rows)
    ∙ (ap (λ (l : List Row). map (λ (r : Row). r.job) (in_falling_priority set l)) (due_freed set tick job (pending rows))
    ∙ (ap (map (λ (r : Row). r.job)) (falling_freed set job (filter (is_due set tick) (pending rows)))
    ∙ jobs_freed job (late_rows set tick rows)))

-- the highest late row

pub record IsLate (set : Set) (tick : ℕ) (rows : List (Option Row)) (r : Row) : Type 0 where
  pub here : row_of rows r.job.tx.0 ≡ Some r
  pub due : is_due set tick r ≡ true

pub late_is : (set : Set) (tick : ℕ) (rows : List (Option Row)) (r : Row) → Frame set rows → highest set (filter (is_due set tick) (pending rows)) ≡ Some r → IsLate set tick rows r
late_is set tick rows r frame top =
    let i : In r (filter (is_due set tick) (pending rows)) = (highest_is set (filter (is_due set tick) (pending rows)) r top).here in
    let f = filter_in (is_due set tick) r (pending rows) i in
    let at = pending_in rows r f.0 in
    record {
      here = subst (λ (k : ℕ). get_or rows k None ≡ Some r) (sym (frame.named at.0 r at.1)) at.1;
      due = f.1;
    }

gone_at : (rows : List (Option Row)) (n : ℕ) (x : Row) → row_of (with_item rows n None) n ≡ Some x → ⊥
gone_at [] n x h = cc
gone_at (r ∷ rs) zero x h = cc
gone_at (r ∷ rs) (suc n) x h = gone_at rs n x h

-- a row that is left has another priority
apart_left : (set : Set) (rows : List (Option Row)) (r x : Row) (m : ℕ) → IsCompiled set → Frame set rows → row_of rows r.job.tx.0 ≡ Some r
    → row_of (with_item rows r.job.tx.0 None) m ≡ Some x → prio set x ≢ prio set r
apart_left set rows r x m ok frame here h =
    elim (cases_eq m r.job.tx.0) [
      | inl e ↦ absurd (gone_at rows r.job.tx.0 x (subst (λ (k : ℕ). row_of (with_item rows r.job.tx.0 None) k ≡ Some x) e h))
      | inr ne ↦ (λ same.
          let old : row_of rows m ≡ Some x = sym (get_or-set_other rows r.job.tx.0 m None None ne) ∙ h in
          let own : x.job.tx.0 ≡ m = frame.named m x old in
          let there : row_of rows x.job.tx.0 ≡ Some x = subst (λ (k : ℕ). row_of rows k ≡ Some x) (sym own) old in
          ne (sym own ∙ (named_from set rows ok frame).apart x r there here same))
    ]

module _ (set : Set) (tick : ℕ) (rows : List (Option Row)) (r : Row) (ok : IsCompiled set) (frame : Frame set rows) (top : highest set (filter (is_due set tick) (pending rows)) ≡ Some r) where
  abbrev left : List (Option Row)
  left = with_item rows r.job.tx.0 None

  is_late : IsLate set tick rows r
  is_late = late_is set tick rows r frame top

  parts : Split rows r.job.tx.0 r
  parts = split rows r.job.tx.0 r is_late.here

  abbrev due_before : List Row
  due_before = filter (is_due set tick) parts.before

  abbrev due_after : List Row
  due_after = filter (is_due set tick) parts.after

  due_whole : filter (is_due set tick) (pending rows) ≡ due_before ++ r ∷ due_after
  due_whole =
      ap (filter (is_due set tick)) parts.whole
      ∙ (filter-append (is_due set tick) parts.before (r ∷ parts.after)
      ∙ ap (λ (b : Bool). due_before ++ cond b (r ∷ due_after) due_after) is_late.due)

  due_left : filter (is_due set tick) (pending left) ≡ due_before ++ due_after
  due_left = ap (filter (is_due set tick)) parts.without ∙ filter-append (is_due set tick) parts.before parts.after

  others_apart : (x : Row) → In x (due_before ++ due_after) → prio set x ≢ prio set r
  others_apart x i =
      let f = filter_in (is_due set tick) x (pending left) (subst (λ (l : List Row). In x l) (sym due_left) i) in
      let at = pending_in left x f.0 in
      apart_left set rows r x at.0 ok frame is_late.here at.1

  late_left : late_rows set tick rows ≡ placed set r (late_rows set tick left)
  late_left =
      ap (in_falling_priority set) due_whole
      ∙ (placed_last set r due_before due_after (λ x i. others_apart x (in_left x due_before due_after i))
      ∙ ap (λ (l : List Row). placed set r (in_falling_priority set l)) (sym due_left))

  late_apart : (x : Row) → In x (late_rows set tick left) → prio set x ≢ prio set r
  late_apart x i = others_apart x (subst (λ (l : List Row). In x l) due_left (sorted_in set x (filter (is_due set tick) (pending left)) i))

  first_late : slice_get (late_rows set tick rows) 0 ≡ Some r
  unfolding highest
  first_late = top

  -- the highest late job ends, and the later ones are as before
  pub late_next : late_jobs set tick rows ≡ r.job ∷ late_jobs set tick (rows_without rows r.job)
  late_next =
      ap (map (λ (x : Row). x.job)) (late_left
      ∙ first_placed set r (late_rows set tick left) late_apart (ap (λ (l : List Row). slice_get l 0) (sym late_left) ∙ first_late))
      ∙ ap (λ (l : List JobId). r.job ∷ l) (sym (late_freed set tick r.job left))

  -- and one job less is pending
  pub pending_less : length (pending (rows_without rows r.job)) + 1 ≡ length (pending rows)
  pending_less =
      omega (
        arith,
        ap (λ (l : List Row). length l) parts.whole,
        ap (λ (l : List Row). length l) parts.without,
        ap (λ (l : List Row). length l) (pending_freed r.job left),
        length_freed r.job (pending left),
        length-append parts.before (r ∷ parts.after),
        length-append parts.before parts.after,
      )
