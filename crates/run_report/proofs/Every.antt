-- What holds of every element of a list.
use Rattle.std.proofs.Common.{ℕ, zero, suc, ◌≤◌, Bool, true, false, cond, List, [], ◌∷◌, ◌++◌, length, map, Option, Some, None, get_or, set as with_item, refl, sym, subst, inl, inr, arith}
use Rattle.std.specs.List.{All, filter, filter_map, cons_option}
use Rattle.txn_set.specs.Ceilings.{greatest}
use Rattle.law_histories.proofs.Members.{In}

abbrev pub Every : {A : Type 0} → (A → Type 0) → List A → Type 0
Every P [] = Unit {0}
Every P (x ∷ xs) = P x × Every P xs

pub every_in : {A : Type 0} (P : A → Type 0) (xs : List A) (x : A) → Every P xs → In x xs → P x
every_in P [] x h i = absurd i
every_in P (y ∷ ys) x h (inl e) = subst P (sym e) h.0
every_in P (y ∷ ys) x h (inr i) = every_in P ys x h.1 i

pub every_or : {A : Type 0} (P : A → Type 0) (xs : List A) (n : ℕ) (d : A) → Every P xs → P d → P (get_or xs n d)
every_or P [] n d h k = k
every_or P (x ∷ xs) zero d h k = h.0
every_or P (x ∷ xs) (suc n) d h k = every_or P xs n d h.1 k

pub every_all : {A : Type 0} (P : A → Type 0) (xs : List A) → All P xs → Every P xs
every_all P [] h = tt
every_all P (x ∷ xs) h = (h 0 x (omega arith), every_all P xs (λ k d lt. h (suc k) d (omega arith)))

pub all_every : {A : Type 0} (P : A → Type 0) (xs : List A) → Every P xs → All P xs
all_every P [] h k d lt = absurd (omega arith)
all_every P (x ∷ xs) h zero d lt = h.0
all_every P (x ∷ xs) h (suc k) d lt = all_every P xs h.1 k d (omega arith)

pub every_set : {A : Type 0} (P : A → Type 0) (xs : List A) (n : ℕ) (x : A) → Every P xs → P x → Every P (with_item xs n x)
every_set P [] n x h k = tt
every_set P (y ∷ ys) zero x h k = (k, h.1)
every_set P (y ∷ ys) (suc n) x h k = (h.0, every_set P ys n x h.1 k)

pub every_map : {A B : Type 0} (P : A → Type 0) (Q : B → Type 0) (f : A → B) (xs : List A) → ((x : A) → P x → Q (f x))
    → Every P xs → Every Q (map f xs)
every_map P Q f [] g h = tt
every_map P Q f (x ∷ xs) g h = (g x h.0, every_map P Q f xs g h.1)

pub every_append : {A : Type 0} (P : A → Type 0) (xs ys : List A) → Every P xs → Every P ys → Every P (xs ++ ys)
every_append P [] ys h k = k
every_append P (x ∷ xs) ys h k = (h.0, every_append P xs ys h.1 k)

-- a choice of two that both have it
pub chosen : {A : Type 0} (P : A → Type 0) (b : Bool) (x y : A) → P x → P y → P (cond b x y)
chosen P true x y h k = h
chosen P false x y h k = k

pub every_filter : {A : Type 0} (P : A → Type 0) (p : A → Bool) (xs : List A) → Every P xs → Every P (filter p xs)
every_filter P p [] h = tt
every_filter P p (x ∷ xs) h =
    chosen (Every P) (p x) (x ∷ filter p xs) (filter p xs) (h.0, every_filter P p xs h.1) (every_filter P p xs h.1)

pub every_mapped : {A B : Type 0} (Q : B → Type 0) (f : A → B) (xs : List A) → ((x : A) → In x xs → Q (f x))
    → Every Q (map f xs)
every_mapped Q f [] h = tt
every_mapped Q f (x ∷ xs) h = (h x (inl refl), every_mapped Q f xs (λ y i. h y (inr i)))

pub every_both : {A : Type 0} (P Q R : A → Type 0) (xs : List A) → ((x : A) → P x → Q x → R x) → Every P xs
    → Every Q xs → Every R xs
every_both P Q R [] f h k = tt
every_both P Q R (x ∷ xs) f h k = (f x h.0 k.0, every_both P Q R xs f h.1 k.1)

pub every_greatest : (c : ℕ) (ns : List ℕ) → Every (λ (n : ℕ). n ≤ c) ns → greatest ns ≤ c
every_greatest c [] h = omega arith
every_greatest c (n ∷ ns) h = omega (arith, h.0, every_greatest c ns h.1)

cons_length : {B : Type 0} (o : Option B) (ys : List B) → length (cons_option o ys) ≤ suc (length ys)
cons_length None ys = omega arith
cons_length (Some y) ys = omega arith

pub filter_map_length : {A B : Type 0} (f : A → Option B) (xs : List A) → length (filter_map f xs) ≤ length xs
filter_map_length f [] = omega arith
filter_map_length f (x ∷ xs) = omega (arith, cons_length (f x) (filter_map f xs), filter_map_length f xs)
