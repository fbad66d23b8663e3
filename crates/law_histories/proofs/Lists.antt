-- Members of lists: of their mapped, filtered and tested lists.
use Rattle.std.proofs.Common.{◌≡◌, ◌≢◌, ◌⊎◌, ℕ, zero, suc, ◌<◌, ◌≤◌, Bool, true, false, cond, ◌||◌, List, [], ◌∷◌, length, Option, None, Some, get_or, refl, ap, sym, ◌∙◌, subst, inl, inr, arith}
use Rattle.std.proofs.lemmas.Bool.{or_left, or_right, and_parts}
use Rattle.std.specs.List.{All, find, filter_map, cons_option, list_any, list_all}
use Rattle.law_histories.proofs.Members.{In}
use Rattle.law_histories.proofs.Conflict.{in_get_or}

pub all_from : {A : Type 0} (P : A → Type 0) (xs : List A) → ((x : A) → In x xs → P x) → All P xs
all_from P xs h k d lt = h (get_or xs k d) (in_get_or xs k d lt)

-- the place of a member
place_of : {A : Type 0} (x : A) (xs : List A) → In x xs → (k : ℕ) × (k < length xs) × (get_or xs k x ≡ x)
place_of x [] i = absurd i
place_of x (y ∷ ys) (inl e) = (zero, omega arith, sym e)
place_of x (y ∷ ys) (inr i) = let r = place_of x ys i in (suc r.0, omega (arith, r.1), r.2)

pub all_at : {A : Type 0} (P : A → Type 0) (xs : List A) (x : A) → All P xs → In x xs → P x
all_at P xs x h i = let r = place_of x xs i in subst P r.2 (h r.0 x r.1)

pub in_any : {A : Type 0} (p : A → Bool) (x : A) (xs : List A) → In x xs → p x ≡ true → list_any p xs ≡ true
in_any p x [] i t = absurd i
in_any p x (y ∷ ys) (inl e) t = or_left (p y) (list_any p ys) (ap p (sym e) ∙ t)
in_any p x (y ∷ ys) (inr i) t = or_right (p y) (list_any p ys) (in_any p x ys i t)

any_in_at : {A : Type 0} (p : A → Bool) (x : A) (xs : List A) (b : Bool) → p x ≡ b → (list_any p xs ≡ true → (y : A) × In y xs × (p y ≡ true)) → (b || list_any p xs) ≡ true → (y : A) × ((y ≡ x) ⊎ In y xs) × (p y ≡ true)
any_in_at p x xs true e rest h = (x, inl refl, e)
any_in_at p x xs false e rest h = let r = rest h in (r.0, inr r.1, r.2)

pub any_in : {A : Type 0} (p : A → Bool) (xs : List A) → list_any p xs ≡ true → (x : A) × In x xs × (p x ≡ true)
any_in p [] h = absurd cc
any_in p (x ∷ xs) h = any_in_at p x xs (p x) refl (any_in p xs) h

pub all_pass : {A : Type 0} (p : A → Bool) (x : A) (xs : List A) → list_all p xs ≡ true → In x xs → p x ≡ true
all_pass p x [] h i = absurd i
all_pass p x (y ∷ ys) h (inl e) = ap p e ∙ (and_parts _ _ h).0
all_pass p x (y ∷ ys) h (inr i) = all_pass p x ys (and_parts _ _ h).1 i

-- what find gives

pub record IsFound {A : Type 0} (p : A → Bool) (xs : List A) (x : A) : Type 0 where
  pub here : In x xs
  pub passes : p x ≡ true

find_at : {A : Type 0} (p : A → Bool) (x y : A) (ys : List A) (b : Bool) → p y ≡ b → (find p ys ≡ Some x → IsFound p ys x) → cond b (Some y) (find p ys) ≡ Some x → IsFound p (y ∷ ys) x
find_at p x y ys true e rest h = let s : y ≡ x = cc in record { here = inl (sym s); passes = ap p (sym s) ∙ e }
find_at p x y ys false e rest h = let r = rest h in record { here = inr r.here; passes = r.passes }

pub find_some : {A : Type 0} (p : A → Bool) (xs : List A) (x : A) → find p xs ≡ Some x → IsFound p xs x
find_some p [] x h = absurd cc
find_some p (y ∷ ys) x h = find_at p x y ys (p y) refl (find_some p ys x) h

none_at : {A : Type 0} (p : A → Bool) (x y : A) (ys : List A) (b : Bool) → p y ≡ b → (find p ys ≡ None → In x ys → p x ≡ false) → cond b (Some y) (find p ys) ≡ None → (x ≡ y) ⊎ In x ys → p x ≡ false
none_at p x y ys true e rest h i = absurd cc
none_at p x y ys false e rest h (inl s) = ap p s ∙ e
none_at p x y ys false e rest h (inr i) = rest h i

pub find_none : {A : Type 0} (p : A → Bool) (xs : List A) (x : A) → find p xs ≡ None → In x xs → p x ≡ false
find_none p [] x h i = absurd i
find_none p (y ∷ ys) x h i = none_at p x y ys (p y) refl (find_none p ys x) h i

-- filter_map

pub in_filter_map : {A B : Type 0} (f : A → Option B) (x : A) (y : B) (xs : List A) → In x xs → f x ≡ Some y → In y (filter_map f xs)
in_filter_map f x y [] i e = absurd i
in_filter_map f x y (z ∷ zs) (inl s) e = at (f z) (ap f (sym s) ∙ e) where
  at : (o : Option _) → o ≡ Some y → In y (cons_option o (filter_map f zs))
  at None h = absurd cc
  at (Some w) h = inl cc
in_filter_map f x y (z ∷ zs) (inr i) e = skip (f z) (filter_map f zs) (in_filter_map f x y zs i e) where
  skip : (o : Option _) (ys : List _) → In y ys → In y (cons_option o ys)
  skip None ys h = h
  skip (Some w) ys h = inr h

cons_cases : {B : Type 0} (o : Option B) (ys : List B) (y : B) → In y (cons_option o ys) → (o ≡ Some y) ⊎ In y ys
cons_cases None ys y h = inr h
cons_cases (Some w) ys y (inl e) = inl (ap Some (sym e))
cons_cases (Some w) ys y (inr h) = inr h

pub filter_map_in : {A B : Type 0} (f : A → Option B) (y : B) (xs : List A) → In y (filter_map f xs) → (x : A) × In x xs × (f x ≡ Some y)
filter_map_in f y [] h = absurd h
filter_map_in f y (z ∷ zs) h = elim (cons_cases (f z) (filter_map f zs) y h) [ inl e ↦ (z, inl refl, e) | inr i ↦ (let r = filter_map_in f y zs i in (r.0, inr r.1, r.2)) ]

pub filter_map_same : {A B : Type 0} (f g : A → Option B) (xs : List A) → ((x : A) → f x ≡ g x) → filter_map f xs ≡ filter_map g xs
filter_map_same f g [] h = refl
filter_map_same f g (x ∷ xs) h = ap (λ o. cons_option o (filter_map f xs)) (h x) ∙ ap (cons_option (g x)) (filter_map_same f g xs h)

-- two members that differ
pub two_members : {A : Type 0} (a b : A) (xs : List A) → In a xs → In b xs → a ≢ b → 2 ≤ length xs
two_members a b [] i j ne = absurd i
two_members a b (x ∷ []) (inl e) (inl f) ne = absurd (ne (e ∙ sym f))
two_members a b (x ∷ []) (inl e) (inr j) ne = absurd j
two_members a b (x ∷ []) (inr i) j ne = absurd i
two_members a b (x ∷ y ∷ ys) i j ne = omega arith
