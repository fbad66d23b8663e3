-- The lock rule's blocker by what is in the list, and that two lists with the same holders have the same one.
use Rattle.std.proofs.Common.{◌≡◌, ◌==◌, ◌&&◌, ℕ, ◌<◌, ◌≤◌, Bool, true, false, cond, List, [], ◌∷◌, Option, None, Some, refl, sym, subst, inl, inr, arith}
use Rattle.std.proofs.lemmas.Bool.{cases_order, ltb-true, ltb-false, eq-eqb, lt-ltb, eqb-true, or_cases, or_left, or_right, and_parts, and_from}
use Rattle.std.specs.Prelude.{nat_lt}
use Rattle.rt_base.specs.LockRule.{stands_above, upper, topmost, unless_below, blocker}
use Rattle.law_histories.proofs.Members.{In}
use Rattle.law_histories.proofs.Topmost.{topmost_none}

-- y does not stand above a: by numbers
pub record IsNotAbove {A : Type 0} (p c : A → ℕ) (y a : A) : Type 0 where
  pub ceiling : c y ≤ c a
  pub prio : c y ≡ c a → p y ≤ p a

not_above : {A : Type 0} (p c : A → ℕ) (y a : A) → stands_above p c y a ≡ false → IsNotAbove p c y a
not_above p c y a h = record {
  ceiling = elim (cases_order (c y) (c a)) [
    | inl e ↦ omega (arith, e)
    | inr (inl lt) ↦ omega (arith, lt)
    | inr (inr gt) ↦ absurd (let t : stands_above p c y a ≡ true = or_left (nat_lt (c a) (c y)) _ (lt-ltb (c a) (c y) gt) in cc (t, h))
  ];
  prio = λ e. elim (cases_order (p y) (p a)) [
    | inl q ↦ omega (arith, q)
    | inr (inl lt) ↦ omega (arith, lt)
    | inr (inr gt) ↦ absurd (let t : stands_above p c y a ≡ true = or_right (nat_lt (c a) (c y)) _ (and_from _ _ (eq-eqb (c y) (c a) e) (lt-ltb (p a) (p y) gt)) in cc (t, h))
  ];
}

is_above : {A : Type 0} (p c : A → ℕ) (s x : A) → stands_above p c s x ≡ true → IsNotAbove p c x s
is_above p c s x h = elim (or_cases (nat_lt (c x) (c s)) (c s == c x && nat_lt (p x) (p s)) h) [ inl t ↦ by_ceiling t | inr b ↦ by_prio b ] where
  by_ceiling : nat_lt (c x) (c s) ≡ true → IsNotAbove p c x s
  by_ceiling t = let lt : c x < c s = ltb-true (c x) (c s) t in record { ceiling = omega (arith, lt); prio = λ e. omega (arith, lt, e) }

  by_prio : (c s == c x && nat_lt (p x) (p s)) ≡ true → IsNotAbove p c x s
  by_prio b =
      let parts = and_parts (c s == c x) (nat_lt (p x) (p s)) b in
      let e : c s ≡ c x = eqb-true (c s) (c x) parts.0 in
      let lt : p x < p s = ltb-true (p x) (p s) parts.1 in
      record { ceiling = omega (arith, e); prio = λ q. omega (arith, lt) }

not_above_self : {A : Type 0} (p c : A → ℕ) (a : A) → IsNotAbove p c a a
not_above_self p c a = record { ceiling = omega arith; prio = λ e. omega arith }

not_above_more : {A : Type 0} (p c : A → ℕ) (x y z : A) → IsNotAbove p c x y → IsNotAbove p c y z → IsNotAbove p c x z
not_above_more p c x y z a b = record {
  ceiling = omega (arith, a.ceiling, b.ceiling);
  prio = λ e. (let u : c x ≡ c y = omega (arith, e, a.ceiling, b.ceiling) in let v : c y ≡ c z = omega (arith, e, u) in omega (arith, a.prio u, b.prio v));
}

-- the topmost is in the list, and none in the list stands above it
pub record IsTop {A : Type 0} (p c : A → ℕ) (xs : List A) (a : A) : Type 0 where
  pub here : In a xs
  pub above : (y : A) → In y xs → IsNotAbove p c y a

upper_at : {A : Type 0} (p c : A → ℕ) (x s a : A) (xs : List A) (b : Bool) → stands_above p c s x ≡ b → IsTop p c xs s → cond b s x ≡ a → IsTop p c (x ∷ xs) a
upper_at p c x s a xs true e top is =
    subst (IsTop p c (x ∷ xs)) is (record { here = inr top.here; above = λ y i. elim i [ inl same ↦ subst (λ z. IsNotAbove p c z s) (sym same) (is_above p c s x e) | inr rest ↦ top.above y rest ] })
upper_at p c x s a xs false e top is =
    subst (IsTop p c (x ∷ xs)) is (record {
      here = inl refl;
      above = λ y i. elim i [ inl same ↦ subst (λ z. IsNotAbove p c z x) (sym same) (not_above_self p c x) | inr rest ↦ not_above_more p c y s x (top.above y rest) (not_above p c s x e) ];
    })

upper_is : {A : Type 0} (p c : A → ℕ) (x a : A) (xs : List A) (o : Option A) → topmost p c xs ≡ o → ((s : A) → o ≡ Some s → IsTop p c xs s) → upper p c x o ≡ a → IsTop p c (x ∷ xs) a
upper_is {A = A} p c x a xs None e rest is =
    let none : xs ≡ [] = topmost_none p c xs e in
    subst (λ (l : List A). IsTop p c (x ∷ l) a) (sym none)
    (subst (IsTop p c (x ∷ [])) is (record { here = inl refl; above = λ y i. elim i [ inl same ↦ subst (λ z. IsNotAbove p c z x) (sym same) (not_above_self p c x) | inr gone ↦ absurd gone ] }))
upper_is p c x a xs (Some s) e rest is = upper_at p c x s a xs (stands_above p c s x) refl (rest s refl) is

topmost_is : {A : Type 0} (p c : A → ℕ) (xs : List A) (a : A) → topmost p c xs ≡ Some a → IsTop p c xs a
topmost_is p c [] a h = absurd cc
topmost_is p c (x ∷ xs) a h =
    let is : upper p c x (topmost p c xs) ≡ a = cc in
    upper_is p c x a xs (topmost p c xs) refl (λ s e. topmost_is p c xs s e) is

-- the blocker

pub record IsBlocker {A : Type 0} (p c : A → ℕ) (own : ℕ) (xs : List A) (a : A) : Type 0 where
  pub top : IsTop p c xs a
  pub holds : own ≤ c a

some_at : {A : Type 0} (p c : A → ℕ) (own : ℕ) (xs : List A) (a t : A) (b : Bool) → nat_lt (c t) own ≡ b → IsTop p c xs t → cond b None (Some t) ≡ Some a → IsBlocker p c own xs a
some_at p c own xs a t true e top h = absurd cc
some_at p c own xs a t false e top h = let same : t ≡ a = cc in subst (IsBlocker p c own xs) same (record { top = top; holds = ltb-false (c t) own e })

some_of : {A : Type 0} (p c : A → ℕ) (own : ℕ) (xs : List A) (a : A) (o : Option A) → ((t : A) → o ≡ Some t → IsTop p c xs t) → unless_below c own o ≡ Some a → IsBlocker p c own xs a
some_of p c own xs a None top h = absurd cc
some_of p c own xs a (Some t) top h = some_at p c own xs a t (nat_lt (c t) own) refl (top t refl) h

pub blocker_some : {A : Type 0} (p c : A → ℕ) (own : ℕ) (xs : List A) (a : A) → blocker p c own xs ≡ Some a → IsBlocker p c own xs a
unfolding blocker
blocker_some p c own xs a h = some_of p c own xs a (topmost p c xs) (λ t e. topmost_is p c xs t e) h

none_at : {A : Type 0} (p c : A → ℕ) (own : ℕ) (xs : List A) (t : A) (b : Bool) → nat_lt (c t) own ≡ b → IsTop p c xs t → cond b None (Some t) ≡ None → (y : A) → In y xs → c y < own
none_at p c own xs t true e top h y i = let le : c y ≤ c t = (top.above y i).ceiling in let lt : c t < own = ltb-true (c t) own e in omega arith
none_at p c own xs t false e top h y i = absurd cc

none_of : {A : Type 0} (p c : A → ℕ) (own : ℕ) (xs : List A) (o : Option A) → topmost p c xs ≡ o → ((t : A) → o ≡ Some t → IsTop p c xs t) → unless_below c own o ≡ None → (y : A) → In y xs → c y < own
none_of {A = A} p c own xs None e top h y i = absurd (subst (In y) (topmost_none p c xs e) i)
none_of p c own xs (Some t) e top h y i = none_at p c own xs t (nat_lt (c t) own) refl (top t refl) h y i

pub blocker_none : {A : Type 0} (p c : A → ℕ) (own : ℕ) (xs : List A) → blocker p c own xs ≡ None → (y : A) → In y xs → c y < own
unfolding blocker
blocker_none p c own xs h y i = none_of p c own xs (topmost p c xs) refl (λ t e. topmost_is p c xs t e) h y i

-- two lists of which each member that may block is in the other too
pub record SameBlockers {A B : Type 0} (p c : A → ℕ) (q d : B → ℕ) (own : ℕ) (xs : List A) (ys : List B) (Same : A → B → Type 0) : Type 0 where
  pub there : (a : A) → In a xs → own ≤ c a → (b : B) × In b ys × Same a b
  pub back : (b : B) → In b ys → own ≤ d b → (a : A) × In a xs × Same a b
  pub ceiling : (a : A) (b : B) → Same a b → c a ≡ d b
  pub prio : (a : A) (b : B) → Same a b → p a ≡ q b
  pub one : (a a' : A) (b b' : B) → Same a b → Same a' b' → p a ≡ p a' → Same a b'

-- the answers are both none, or are the same member
pub data Answers {A B : Type 0} (Same : A → B → Type 0) (x : Option A) (y : Option B) : Type 0 where
  Neither : x ≡ None → y ≡ None → Answers Same x y
  Both : (a : A) (b : B) → x ≡ Some a → y ≡ Some b → Same a b → Answers Same x y

module _ {A B : Type 0} (p c : A → ℕ) (q d : B → ℕ) (own : ℕ) (xs : List A) (ys : List B) (Same : A → B → Type 0) (same : SameBlockers p c q d own xs ys Same) where
  both_are : (a : A) (b : B) → IsBlocker p c own xs a → IsBlocker q d own ys b → Same a b
  both_are a b x y =
      let to = same.there a x.top.here x.holds in
      let from = same.back b y.top.here y.holds in
      let ab : IsNotAbove q d to.0 b = y.top.above to.0 to.1 in
      let ba : IsNotAbove p c from.0 a = x.top.above from.0 from.1 in
      let ca : c a ≡ d to.0 = same.ceiling a to.0 to.2 in
      let cb : c from.0 ≡ d b = same.ceiling from.0 b from.2 in
      let pa : p a ≡ q to.0 = same.prio a to.0 to.2 in
      let pb : p from.0 ≡ q b = same.prio from.0 b from.2 in
      let level : c from.0 ≡ c a = omega (arith, ca, cb, ab.ceiling, ba.ceiling) in
      let level' : d to.0 ≡ d b = omega (arith, ca, cb, level) in
      let high : p a ≡ p from.0 = omega (arith, pa, pb, ba.prio level, ab.prio level') in
      same.one a from.0 to.0 b to.2 from.2 high

  answers_at : (x : Option A) (y : Option B) → blocker p c own xs ≡ x → blocker q d own ys ≡ y → Answers Same x y
  answers_at None None e f = Neither refl refl
  answers_at None (Some b) e f =
      let is = blocker_some q d own ys b f in
      let from = same.back b is.top.here is.holds in
      let cb : c from.0 ≡ d b = same.ceiling from.0 b from.2 in
      absurd (let lt : c from.0 < own = blocker_none p c own xs e from.0 from.1 in omega (arith, cb, is.holds))
  answers_at (Some a) None e f =
      let is = blocker_some p c own xs a e in
      let to = same.there a is.top.here is.holds in
      let ca : c a ≡ d to.0 = same.ceiling a to.0 to.2 in
      absurd (let lt : d to.0 < own = blocker_none q d own ys f to.0 to.1 in omega (arith, ca, is.holds))
  answers_at (Some a) (Some b) e f = Both a b refl refl (both_are a b (blocker_some p c own xs a e) (blocker_some q d own ys b f))

  pub answers : Answers Same (blocker p c own xs) (blocker q d own ys)
  answers = answers_at (blocker p c own xs) (blocker q d own ys) refl refl
