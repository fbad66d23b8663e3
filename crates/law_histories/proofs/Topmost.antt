-- The topmost row of the lock rule: it is in the list, and none in the list has a greater ceiling.
use Rattle.std.proofs.Common.{◌≡◌, ℕ, ◌<◌, ◌≤◌, Bool, true, false, cond, List, [], ◌∷◌, Option, None, Some, refl, ap, sym, subst, inl, inr, arith}
use Rattle.std.proofs.lemmas.Bool.{cases_lt, ltb-true, lt-ltb, eqb-true, or_cases, or_left, and_parts}
use Rattle.rt_base.specs.LockRule.{stands_above, upper, topmost}
use Rattle.law_histories.proofs.Members.{In}

-- the row is in the list, and no row of the list has a greater ceiling
pub record IsTopmost {A : Type 0} (ceiling : A → ℕ) (xs : List A) (top : A) : Type 0 where
  pub here : In top xs
  pub above : (y : A) → In y xs → ceiling y ≤ ceiling top

above_is : {A : Type 0} (p c : A → ℕ) (a b : A) → stands_above p c a b ≡ true → c b ≤ c a
above_is p c a b h =
    elim (or_cases _ _ h) [
      | inl t ↦ (let lt : c b < c a = ltb-true _ _ t in omega arith)
      | inr both ↦ (let e : c a ≡ c b = eqb-true _ _ (and_parts _ _ both).0 in omega (arith, e))
    ]

not_above_is : {A : Type 0} (p c : A → ℕ) (a b : A) → stands_above p c a b ≡ false → c a ≤ c b
not_above_is p c a b h =
    elim (cases_lt (c b) (c a)) [ inl lt ↦ absurd (let t : stands_above p c a b ≡ true = or_left _ _ (lt-ltb _ _ lt) in cc) | inr ge ↦ ge ]

upper_at : {A : Type 0} (p c : A → ℕ) (x s top : A) (xs : List A) (b : Bool) → stands_above p c s x ≡ b → IsTopmost c xs s → cond b s x ≡ top → IsTopmost c (x ∷ xs) top
upper_at p c x s top xs true e h is =
    subst (IsTopmost c (x ∷ xs)) is (record {
      here = inr h.here;
      above = λ y i. elim i [ inl same ↦ omega (arith, ap c same, above_is p c s x e) | inr rest ↦ h.above y rest ];
    })
upper_at p c x s top xs false e h is =
    subst (IsTopmost c (x ∷ xs)) is (record {
      here = inl refl;
      above = λ y i. elim i [ inl same ↦ omega (arith, ap c same) | inr rest ↦ omega (arith, not_above_is p c s x e, h.above y rest) ];
    })

pub topmost_none : {A : Type 0} (p c : A → ℕ) (xs : List A) → topmost p c xs ≡ None → xs ≡ []
topmost_none p c [] e = refl
topmost_none p c (x ∷ xs) e = absurd cc

upper_is : {A : Type 0} (p c : A → ℕ) (x top : A) (xs : List A) (o : Option A) → topmost p c xs ≡ o → ((s : A) → o ≡ Some s → IsTopmost c xs s) → upper p c x o ≡ top
    → IsTopmost c (x ∷ xs) top
upper_is {A = A} p c x top xs None e rest is =
    let none : xs ≡ [] = topmost_none p c xs e in
    subst (λ (l : List A). IsTopmost c (x ∷ l) top) (sym none)
    (subst (IsTopmost c (x ∷ [])) is (record { here = inl refl; above = λ y i. elim i [ inl same ↦ omega (arith, ap c same) | inr gone ↦ absurd gone ] }))
upper_is p c x top xs (Some s) e rest is = upper_at p c x s top xs (stands_above p c s x) refl (rest s refl) is

pub topmost_is : {A : Type 0} (p c : A → ℕ) (xs : List A) (top : A) → topmost p c xs ≡ Some top → IsTopmost c xs top
topmost_is p c [] top h = absurd cc
topmost_is p c (x ∷ xs) top h =
    let is : upper p c x (topmost p c xs) ≡ top = cc in
    upper_is p c x top xs (topmost p c xs) refl (λ s e. topmost_is p c xs s e) is
