-- The topmost of a list of numbers, by what is in it.
use Rattle.std.proofs.Common.{◌≡◌, ◌⊎◌, ℕ, zero, suc, ◌<◌, ◌==◌, Bool, true, false, ◌&&◌, cond, List, [], ◌∷◌, Option, None, Some, refl, ap, sym, ◌∙◌, subst, inl, inr, arith}
use Rattle.std.proofs.lemmas.Bool.{cases_eq, ltb-true, eqb-true, or_cases, and_parts, false_from_ne_true}
use Rattle.std.specs.Prelude.{nat_lt}
use Rattle.std.specs.List.{filter}
use Rattle.rt_base.specs.LockRule.{stands_above, upper, topmost}
use Rattle.ceiling_table.specs.Held.{numbers_below}

-- x is an element of the list
abbrev pub In : ℕ → List ℕ → Type 0
In x [] = ⊥
In x (y ∷ ys) = (x ≡ y) ⊎ In x ys

in_filter_at : (p : ℕ → Bool) (x y : ℕ) (ys : List ℕ) (b : Bool) → p y ≡ b → p x ≡ true → (x ≡ y) ⊎ In x (filter p ys) → In x (cond b (y ∷ filter p ys) (filter p ys))
in_filter_at p x y ys true e t h = h
in_filter_at p x y ys false e t (inl same) = absurd (cc (ap p same))
in_filter_at p x y ys false e t (inr rest) = rest

pub in_filter : (p : ℕ → Bool) (x : ℕ) (xs : List ℕ) → In x xs → p x ≡ true → In x (filter p xs)
in_filter p x [] h t = h
in_filter p x (y ∷ ys) (inl e) t = in_filter_at p x y ys (p y) refl t (inl e)
in_filter p x (y ∷ ys) (inr h) t = in_filter_at p x y ys (p y) refl t (inr (in_filter p x ys h t))

filter_in_at : (p : ℕ → Bool) (x y : ℕ) (ys : List ℕ) (b : Bool) → p y ≡ b → (In x (filter p ys) → In x ys × (p x ≡ true)) → In x (cond b (y ∷ filter p ys) (filter p ys)) → ((x ≡ y) ⊎ In x ys) × (p x ≡ true)
filter_in_at p x y ys true e rest (inl same) = (inl same, ap p same ∙ e)
filter_in_at p x y ys true e rest (inr h) = (inr (rest h).0, (rest h).1)
filter_in_at p x y ys false e rest h = (inr (rest h).0, (rest h).1)

pub filter_in : (p : ℕ → Bool) (x : ℕ) (xs : List ℕ) → In x (filter p xs) → In x xs × (p x ≡ true)
filter_in p x [] h = absurd h
filter_in p x (y ∷ ys) h = filter_in_at p x y ys (p y) refl (filter_in p x ys) h

pub in_numbers : (n x : ℕ) → x < n → In x (numbers_below n)
in_numbers zero x h = absurd (omega arith)
in_numbers (suc n) x h = elim (cases_eq x n) [ inl e ↦ inl e | inr ne ↦ inr (in_numbers n x (omega arith)) ]

pub numbers_in : (n x : ℕ) → In x (numbers_below n) → x < n
numbers_in zero x h = absurd h
numbers_in (suc n) x (inl e) = omega (arith, e)
numbers_in (suc n) x (inr h) = omega (arith, numbers_in n x h)

-- the number is in the list and stands above each other one
pub record IsTop (p c : ℕ → ℕ) (xs : List ℕ) (top : ℕ) : Type 0 where
  pub here : In top xs
  pub above : (y : ℕ) → In y xs → (y ≡ top → ⊥) → stands_above p c top y ≡ true

-- of two, one does not stand above the one above it
above_one_way : (p c : ℕ → ℕ) (a b : ℕ) → stands_above p c a b ≡ true → stands_above p c b a ≡ false
above_one_way p c a b h = false_from_ne_true _ (λ (k : stands_above p c b a ≡ true). both (or_cases _ _ h) (or_cases _ _ k)) where
  both : (nat_lt (c b) (c a) ≡ true) ⊎ ((c a == c b && nat_lt (p b) (p a)) ≡ true) → (nat_lt (c a) (c b) ≡ true) ⊎ ((c b == c a && nat_lt (p a) (p b)) ≡ true) → ⊥
  both (inl x) (inl y) = omega (arith, ltb-true (c b) (c a) x, ltb-true (c a) (c b) y)
  both (inl x) (inr y) = omega (arith, ltb-true (c b) (c a) x, eqb-true (c b) (c a) (and_parts _ _ y).0)
  both (inr x) (inl y) = omega (arith, ltb-true (c a) (c b) y, eqb-true (c a) (c b) (and_parts _ _ x).0)
  both (inr x) (inr y) = omega (arith, ltb-true (p b) (p a) (and_parts _ _ x).1, ltb-true (p a) (p b) (and_parts _ _ y).1)

-- the topmost is in the list
in_upper_at : (p c : ℕ → ℕ) (x t s : ℕ) (xs : List ℕ) (b : Bool) → In s xs → cond b s x ≡ t → (t ≡ x) ⊎ In t xs
in_upper_at p c x t s xs true i k = inr (subst (λ (n : ℕ). In n xs) k i)
in_upper_at p c x t s xs false i k = inl (sym k)

in_upper : (p c : ℕ → ℕ) (x t : ℕ) (xs : List ℕ) (o : Option ℕ) → ((s : ℕ) → o ≡ Some s → In s xs) → upper p c x o ≡ t → (t ≡ x) ⊎ In t xs
in_upper p c x t xs None i k = inl (sym k)
in_upper p c x t xs (Some s) i k = in_upper_at p c x t s xs (stands_above p c s x) (i s refl) k

pub topmost_in : (p c : ℕ → ℕ) (xs : List ℕ) (t : ℕ) → topmost p c xs ≡ Some t → In t xs
topmost_in p c [] t h = absurd cc
topmost_in p c (x ∷ xs) t h =
    let same : upper p c x (topmost p c xs) ≡ t = cc in
    in_upper p c x t xs (topmost p c xs) (λ s e. topmost_in p c xs s e) same

keeps_at : (p c : ℕ → ℕ) (x s top : ℕ) (xs : List ℕ) (b : Bool) → stands_above p c s x ≡ b → top ≡ x → IsTop p c (x ∷ xs) top → In s xs → cond b s x ≡ top
keeps_at p c x s top xs true e same h i =
    elim (cases_eq s top) [
      | inl q ↦ q
      | inr ne ↦ (let up : stands_above p c x s ≡ true = subst (λ (k : ℕ). stands_above p c k s ≡ true) same (h.above s (inr i) ne) in absurd (cc (e, above_one_way p c x s up)))
    ]
keeps_at p c x s top xs false e same h i = sym same

keeps : (p c : ℕ → ℕ) (x top : ℕ) (xs : List ℕ) (o : Option ℕ) → topmost p c xs ≡ o → top ≡ x → IsTop p c (x ∷ xs) top → upper p c x o ≡ top
keeps p c x top xs None e same h = sym same
keeps p c x top xs (Some s) e same h = keeps_at p c x s top xs (stands_above p c s x) refl same h (topmost_in p c xs s e)

rises_at : (p c : ℕ → ℕ) (x top : ℕ) (xs : List ℕ) (b : Bool) → stands_above p c top x ≡ b → IsTop p c (x ∷ xs) top → cond b top x ≡ top
rises_at p c x top xs true e h = refl
rises_at p c x top xs false e h = elim (cases_eq x top) [ inl q ↦ q | inr ne ↦ absurd (cc (e, h.above x (inl refl) ne)) ]

topmost_is_at : (p c : ℕ → ℕ) (x top : ℕ) (xs : List ℕ) → IsTop p c (x ∷ xs) top → (top ≡ x) ⊎ In top xs → (IsTop p c xs top → topmost p c xs ≡ Some top) → topmost p c (x ∷ xs) ≡ Some top
topmost_is_at p c x top xs h (inl same) rest = ap Some (keeps p c x top xs (topmost p c xs) refl same h)
topmost_is_at p c x top xs h (inr i) rest =
    let again : topmost p c xs ≡ Some top = rest (record { here = i; above = λ y j ne. h.above y (inr j) ne }) in
    ap (λ (o : Option ℕ). Some (upper p c x o)) again ∙ ap Some (rises_at p c x top xs (stands_above p c top x) refl h)

pub topmost_is : (p c : ℕ → ℕ) (xs : List ℕ) (top : ℕ) → IsTop p c xs top → topmost p c xs ≡ Some top
topmost_is p c [] top h = absurd h.here
topmost_is p c (x ∷ xs) top h = topmost_is_at p c x top xs h h.here (topmost_is p c xs top)
