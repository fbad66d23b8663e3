-- What is in a list: filtered lists, the greatest member, the highest row of a list in falling priority, and the rows
-- that are pending.
use Rattle.std.proofs.Common.{◌≡◌, ◌⊎◌, ℕ, zero, suc, ◌<◌, ◌≤◌, Bool, true, false, cond, List, [], ◌∷◌, map, Option, None, Some, slice_get, set, refl, ap, sym, ◌∙◌, subst, inl, inr, arith}
use Rattle.std.proofs.Math.Nat.{le-max_left, le-max_right}
use Rattle.std.proofs.lemmas.Bool.{cases_lt, ltb-true, ltb-false}
use Rattle.std.specs.Prelude.{nat_lt}
use Rattle.std.specs.List.{filter}
use Rattle.txn_set.specs.Set.{Set}
use Rattle.txn_set.specs.Ceilings.{greatest}
use Rattle.step_journal.specs.State.{Row, pending, row_of, prio}
use Rattle.step_journal.specs.LockRule.{placed, in_falling_priority, highest}

-- x is an element of the list
abbrev pub In : {A : Type 0} → A → List A → Type 0
In x [] = ⊥
In x (y ∷ ys) = (x ≡ y) ⊎ In x ys

pub in_at : {A : Type 0} (xs : List A) (k : ℕ) (a : A) → slice_get xs k ≡ Some a → In a xs
in_at [] k a h = absurd cc
in_at (x ∷ xs) zero a h = inl (cc)
in_at (x ∷ xs) (suc k) a h = inr (in_at xs k a h)

in_filter_at : {A : Type 0} (p : A → Bool) (x y : A) (ys : List A) (b : Bool) → p y ≡ b → p x ≡ true → (x ≡ y) ⊎ In x (filter p ys) → In x (cond b (y ∷ filter p ys) (filter p ys))
in_filter_at p x y ys true e t h = h
in_filter_at p x y ys false e t (inl same) = absurd (cc (ap p same))
in_filter_at p x y ys false e t (inr rest) = rest

pub in_filter : {A : Type 0} (p : A → Bool) (x : A) (xs : List A) → In x xs → p x ≡ true → In x (filter p xs)
in_filter p x [] h t = h
in_filter p x (y ∷ ys) (inl e) t = in_filter_at p x y ys (p y) refl t (inl e)
in_filter p x (y ∷ ys) (inr h) t = in_filter_at p x y ys (p y) refl t (inr (in_filter p x ys h t))

filter_in_at : {A : Type 0} (p : A → Bool) (x y : A) (ys : List A) (b : Bool) → p y ≡ b → (In x (filter p ys) → In x ys × (p x ≡ true)) → In x (cond b (y ∷ filter p ys) (filter p ys)) → ((x ≡ y) ⊎ In x ys) × (p x ≡ true)
filter_in_at p x y ys true e rest (inl same) = (inl same, ap p same ∙ e)
filter_in_at p x y ys true e rest (inr h) = (inr (rest h).0, (rest h).1)
filter_in_at p x y ys false e rest h = (inr (rest h).0, (rest h).1)

pub filter_in : {A : Type 0} (p : A → Bool) (x : A) (xs : List A) → In x (filter p xs) → In x xs × (p x ≡ true)
filter_in p x [] h = absurd h
filter_in p x (y ∷ ys) h = filter_in_at p x y ys (p y) refl (filter_in p x ys) h

-- a pending row, by its place and by the list of pending rows
pub in_pending : (rows : List (Option Row)) (n : ℕ) (y : Row) → row_of rows n ≡ Some y → In y (pending rows)
in_pending [] n y h = absurd cc
in_pending (None ∷ rows) zero y h = absurd cc
in_pending (Some r ∷ rows) zero y h = inl (cc)
in_pending (None ∷ rows) (suc n) y h = in_pending rows n y h
in_pending (Some r ∷ rows) (suc n) y h = inr (in_pending rows n y h)

pub pending_in : (rows : List (Option Row)) (y : Row) → In y (pending rows) → (n : ℕ) × (row_of rows n ≡ Some y)
pending_in [] y h = absurd h
pending_in (None ∷ rows) y h = let r = pending_in rows y h in (suc r.0, r.1)
pending_in (Some x ∷ rows) y (inl e) = (zero, ap Some (sym e))
pending_in (Some x ∷ rows) y (inr h) = let r = pending_in rows y h in (suc r.0, r.1)

-- the greatest member bounds each, and is one of them
pub le_greatest : {A : Type 0} (f : A → ℕ) (x : A) (xs : List A) → In x xs → f x ≤ greatest (map f xs)
le_greatest f x [] h = absurd h
le_greatest f x (y ∷ ys) (inl e) = omega (arith, ap f e, le-max_left (f y) (greatest (map f ys)))
le_greatest f x (y ∷ ys) (inr h) = omega (arith, le_greatest f x ys h, le-max_right (f y) (greatest (map f ys)))

pub greatest_in : {A : Type 0} (f : A → ℕ) (xs : List A) → 0 < greatest (map f xs) → (x : A) × In x xs × (f x ≡ greatest (map f xs))
greatest_in f [] h = absurd (omega arith)
greatest_in f (y ∷ ys) h =
    elim (cases_lt (f y) (greatest (map f ys))) [
      | inl lt ↦ (let r = greatest_in f ys (omega arith) in (r.0, inr r.1, omega (arith, r.2)))
      | inr ge ↦ (y, inl refl, omega arith)
    ]

-- The highest row is in the list, and no row of the list is higher.
pub record IsHighest (set : Set) (rows : List Row) (h : Row) : Type 0 where
  pub here : In h rows
  pub above : (y : Row) → In y rows → prio set y ≤ prio set h

placed_head : (set : Set) (r x : Row) (rs xs : List Row) (h : Row) (b : Bool) → nat_lt (prio set x) (prio set r) ≡ b → IsHighest set rs x
    → slice_get (cond b (r ∷ x ∷ xs) (x ∷ placed set r xs)) 0 ≡ Some h → IsHighest set (r ∷ rs) h
placed_head set r x rs xs h true e top is =
    let same : r ≡ h = cc in
    let lt : prio set x < prio set r = ltb-true _ _ e in
    subst (IsHighest set (r ∷ rs)) same (record {
      here = inl refl;
      above = λ y i. elim i [ inl s ↦ omega (arith, ap (prio set) s) | inr t ↦ omega (arith, top.above y t) ];
    })
placed_head set r x rs xs h false e top is =
    let same : x ≡ h = cc in
    let le : prio set r ≤ prio set x = ltb-false _ _ e in
    subst (IsHighest set (r ∷ rs)) same (record {
      here = inr top.here;
      above = λ y i. elim i [ inl s ↦ omega (arith, ap (prio set) s) | inr t ↦ top.above y t ];
    })

head_step : (set : Set) (r : Row) (rs sorted : List Row) (h : Row) → (sorted ≡ [] → rs ≡ []) → ((x : Row) → slice_get sorted 0 ≡ Some x → IsHighest set rs x)
    → slice_get (placed set r sorted) 0 ≡ Some h → IsHighest set (r ∷ rs) h
head_step set r rs [] h none top is =
    let same : r ≡ h = cc in
    subst (λ q. IsHighest set (r ∷ q) h) (sym (none refl)) (record { here = inl (sym same); above = λ y i. elim i [ inl s ↦ omega (arith, ap (prio set) s, ap (prio set) same) | inr t ↦ absurd t ] })
head_step set r rs (x ∷ xs) h none top is = placed_head set r x rs xs h (nat_lt (prio set x) (prio set r)) refl (top x refl) is

placed_some : (set : Set) (r : Row) (rs : List Row) → placed set r rs ≡ [] → ⊥
placed_some set r [] e = cc
placed_some set r (x ∷ xs) e = placed_some_at (nat_lt (prio set x) (prio set r)) e where
  placed_some_at : (b : Bool) → cond b (r ∷ x ∷ xs) (x ∷ placed set r xs) ≡ [] → ⊥
  placed_some_at true e = cc
  placed_some_at false e = cc

sorted_nil : (set : Set) (rs : List Row) → in_falling_priority set rs ≡ [] → rs ≡ []
sorted_nil set [] e = refl
sorted_nil set (r ∷ rs) e = absurd (placed_some set r (in_falling_priority set rs) e)

sorted_head : (set : Set) (rs : List Row) (h : Row) → slice_get (in_falling_priority set rs) 0 ≡ Some h → IsHighest set rs h
sorted_head set [] h is = absurd cc
sorted_head set (r ∷ rs) h is = head_step set r rs (in_falling_priority set rs) h (sorted_nil set rs) (sorted_head set rs) is

pub highest_is : (set : Set) (rs : List Row) (h : Row) → highest set rs ≡ Some h → IsHighest set rs h
unfolding highest
highest_is set rs h is = sorted_head set rs h is

nil_head : {A : Type 0} (xs : List A) → slice_get xs 0 ≡ None → xs ≡ []
nil_head [] e = refl
nil_head (x ∷ xs) e = absurd cc

pub highest_none : (set : Set) (rs : List Row) → highest set rs ≡ None → rs ≡ []
unfolding highest
highest_none set rs e = sorted_nil set rs (nil_head _ e)
