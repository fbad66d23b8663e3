-- Members of lists, the first that passes a test, and lists that have each element once.
use Rattle.std.proofs.Common.{◌≡◌, ◌⊎◌, ℕ, zero, suc, ◌+◌, ◌<◌, ◌≤◌, ◌||◌, Bool, true, false, List, [], ◌∷◌, ◌++◌, map, slice_get, Option, None, Some, refl, ap, sym, ◌∙◌, subst, inl, inr, arith}
use Rattle.std.specs.List.{filter_map, flat_map, cons_option, list_any, Contains}
use Rattle.law_histories.proofs.Members.{In, in_at}
use Rattle.law_histories.proofs.Holding.{in_left, in_right, append_in}
use Rattle.job_rows.proofs.Releasing.{contains_in}
use Rattle.law_texts.specs.Ceilings.{ticks_from}
use Rattle.law_texts.specs.Drawn.{ShowsExactly}

-- ---- members

pub flat_map_in : {A B : Type 0} (f : A → List B) (y : B) (xs : List A) → In y (flat_map f xs) → (x : A) × In x xs × In y (f x)
flat_map_in f y [] h = absurd h
flat_map_in f y (x ∷ xs) h = elim (append_in y (f x) (flat_map f xs) h) [
  | inl here ↦ (x, inl refl, here)
  | inr later ↦ (let r = flat_map_in f y xs later in (r.0, inr r.1, r.2))
]

pub in_flat_map : {A B : Type 0} (f : A → List B) (x : A) (y : B) (xs : List A) → In x xs → In y (f x) → In y (flat_map f xs)
in_flat_map f x y [] i j = absurd i
in_flat_map f x y (z ∷ zs) (inl e) j = in_left y (f z) (flat_map f zs) (subst (λ q. In y (f q)) e j)
in_flat_map f x y (z ∷ zs) (inr i) j = in_right y (f z) (flat_map f zs) (in_flat_map f x y zs i j)

pub in_cons_option : {A : Type 0} (x : A) (o : Option A) (xs : List A) → In x (cons_option o xs) → (o ≡ Some x) ⊎ In x xs
in_cons_option x None xs h = inr h
in_cons_option x (Some y) xs (inl e) = inl (ap Some (sym e))
in_cons_option x (Some y) xs (inr h) = inr h

pub cons_option_here : {A : Type 0} (x : A) (o : Option A) (xs : List A) → o ≡ Some x → In x (cons_option o xs)
cons_option_here x None xs e = absurd cc
cons_option_here x (Some y) xs e = inl cc

pub cons_option_later : {A : Type 0} (x : A) (o : Option A) (xs : List A) → In x xs → In x (cons_option o xs)
cons_option_later x None xs h = h
cons_option_later x (Some y) xs h = inr h

pub tick_in : (t a n : ℕ) → In t (ticks_from a n) → (a ≤ t) × (t < a + n)
tick_in t a zero h = absurd h
tick_in t a (suc n) (inl e) = (omega (arith, e), omega (arith, e))
tick_in t a (suc n) (inr h) = let r = tick_in t (a + 1) n h in (omega (arith, r.0), omega (arith, r.1))

pub from_contains : {A : Type 0} (xs : List A) (x : A) → Contains xs x → In x xs
from_contains xs x h = contains_in xs h.0 x h.1 h.2

pub in_contains : {A : Type 0} (xs : List A) (x : A) → In x xs → Contains xs x
in_contains [] x i = absurd i
in_contains (y ∷ ys) x (inl e) = (zero, omega arith, sym e)
in_contains (y ∷ ys) x (inr i) = let r = in_contains ys x i in (suc r.0, omega (arith, r.1), r.2)

pub empty_of : {A : Type 0} (xs : List A) → ((x : A) → In x xs → ⊥) → xs ≡ []
empty_of [] h = refl
empty_of (x ∷ xs) h = absurd (h x (inl refl))

-- ---- parts of a list

-- the parts of a list about a member
pub record About {A : Type 0} (x : A) (xs : List A) : Type 0 where
  pub front : List A
  pub back : List A
  pub parts : xs ≡ front ++ x ∷ back

pub about : {A : Type 0} (x : A) (xs : List A) → In x xs → About x xs
about x [] i = absurd i
about x (y ∷ ys) (inl e) = record { front = []; back = ys; parts = ap (λ z. z ∷ ys) (sym e) }
about x (y ∷ ys) (inr i) = let r = about x ys i in record { front = y ∷ r.front; back = r.back; parts = ap (λ l. y ∷ l) r.parts }

-- the first element that passes a test
pub record First {A : Type 0} (p : A → Bool) (xs : List A) : Type 0 where
  pub front : List A
  pub here : A
  pub rest : List A
  pub parts : xs ≡ front ++ here ∷ rest
  pub passes : p here ≡ true
  pub none : list_any p front ≡ false

pub first_that : {A : Type 0} (p : A → Bool) (xs : List A) → list_any p xs ≡ true → First p xs
first_that p [] h = absurd cc
first_that p (x ∷ xs) h = at (first_that p xs) (p x) refl h where
  at : (list_any p xs ≡ true → First p xs) → (b : Bool) → p x ≡ b → (b || list_any p xs) ≡ true → First p (x ∷ xs)
  at rec true e k = record { front = []; here = x; rest = xs; parts = refl; passes = e; none = refl }
  at rec false e k =
      let r = rec k in
      record {
        front = x ∷ r.front;
        here = r.here;
        rest = r.rest;
        parts = ap (λ l. x ∷ l) r.parts;
        passes = r.passes;
        none = ap (λ b. b || list_any p r.front) e ∙ r.none;
      }

-- ---- each element once

abbrev pub AreApart : {A : Type 0} → List A → Type 0
AreApart [] = Unit {0}
AreApart (x ∷ xs) = (In x xs → ⊥) × AreApart xs

pub apart_at : {A : Type 0} (xs : List A) (x : A) (n m : ℕ) → AreApart xs → slice_get xs n ≡ Some x → slice_get xs m ≡ Some x → n ≡ m
apart_at [] x n m a g h = absurd cc
apart_at (y ∷ ys) x zero zero a g h = refl
apart_at (y ∷ ys) x zero (suc m) a g h = let e : y ≡ x = cc in absurd (a.0 (subst (λ z. In z ys) (sym e) (in_at ys m x h)))
apart_at (y ∷ ys) x (suc n) zero a g h = let e : y ≡ x = cc in absurd (a.0 (subst (λ z. In z ys) (sym e) (in_at ys n x g)))
apart_at (y ∷ ys) x (suc n) (suc m) a g h = ap suc (apart_at ys x n m a.1 g h)

pub apart_append : {A : Type 0} (xs ys : List A) → AreApart xs → AreApart ys → ((x : A) → In x xs → In x ys → ⊥) → AreApart (xs ++ ys)
apart_append [] ys a b h = b
apart_append (x ∷ xs) ys a b h = (
  λ i. elim (append_in x xs ys i) [ inl old ↦ a.0 old | inr new ↦ h x (inl refl) new ],
  apart_append xs ys a.1 b (λ z i. h z (inr i)),
)

-- what is picked of elements by their names is apart where the names are
picked_named : {A B : Type 0} (f : A → Option B) (name : A → B) (y : B) (xs : List A) → ((x : A) (z : B) → f x ≡ Some z → z ≡ name x) → In y (filter_map f xs) → In y (map name xs)
picked_named f name y [] h i = absurd i
picked_named f name y (x ∷ xs) h i = elim (in_cons_option y (f x) (filter_map f xs) i) [ inl e ↦ inl (h x y e) | inr later ↦ inr (picked_named f name y xs h later) ]

pub apart_picked : {A B : Type 0} (f : A → Option B) (name : A → B) (xs : List A) → ((x : A) (z : B) → f x ≡ Some z → z ≡ name x) → AreApart (map name xs) → AreApart (filter_map f xs)
apart_picked f name [] h a = tt
apart_picked f name (x ∷ xs) h a = at (f x) refl (apart_picked f name xs h a.1) where
  at : (o : Option _) → f x ≡ o → AreApart (filter_map f xs) → AreApart (cons_option o (filter_map f xs))
  at None e rest = rest
  at (Some y) e rest = (λ i. a.0 (subst (λ q. In q (map name xs)) (h x y e) (picked_named f name y xs h i)), rest)

-- ---- what is drawn, and what is there

pub shows_exactly : {A : Type 0} (drawn there : List A) → ((x : A) → In x drawn → In x there) → ((x : A) → In x there → In x drawn) → AreApart drawn → ShowsExactly drawn there
shows_exactly drawn there a b c = record {
  is_there = λ x h. in_contains there x (a x (from_contains drawn x h));
  is_drawn = λ x h. in_contains drawn x (b x (from_contains there x h));
  once = λ n m x g h. apart_at drawn x n m c g h;
}
