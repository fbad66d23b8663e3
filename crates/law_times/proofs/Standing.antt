-- How the blocking and the higher demand compare for two assignments of priorities.
use Rattle.std.proofs.Common.{◌≡◌, ◌≢◌, ℕ, zero, suc, ◌+◌, ◌-◌, ◌*◌, ◌<◌, ◌≤◌, ◌⊎◌, inl, inr, max, Bool, true, false, cond, ◌&&◌, ◌||◌, List, [], ◌∷◌, map, length, get_or, refl, ⊎_elim, arith}
use Rattle.std.proofs.lemmas.Bool.{cases_lt, lt-ltb, le-ltb, ltb-true, le-leb, leb-true, or_cases, and_parts, and_from, false≢true}
use Rattle.std.specs.Prelude.{nat_lt, nat_le}
use Rattle.std.specs.List.{filter, list_any}
use Rattle.std.specs.Int.{div_ceil}
use Rattle.txn_set.specs.declared.decl.TxnDecl.{TxnDecl}
use Rattle.txn_set.specs.Set.{Set, no_txn, txn_of, may_read, may_write}
use Rattle.txn_set.specs.Ceilings.{greatest, prios, write_ceiling, absolute_ceiling, may_block, blocking}
use Rattle.law_times.specs.Response.{higher_demand}
use Rattle.law_times.specs.Assigned.{txns_with, with_prios}

abbrev pub loud : TxnDecl → ℕ
loud t = t.steps - t.quiet - 1

-- truth values

pub or_left : (a b : Bool) → a ≡ true → (a || b) ≡ true
or_left true b e = refl
or_left false b e = absurd (false≢true e)

pub or_right : (a b : Bool) → b ≡ true → (a || b) ≡ true
or_right true b e = refl
or_right false b e = e

any_from : {A : Type 0} (f g : A → Bool) → ((x : A) → f x ≡ true → g x ≡ true) → (xs : List A) → list_any f xs ≡ true → list_any g xs ≡ true
any_from f g h [] e = absurd (false≢true e)
any_from f g h (x ∷ xs) e =
    elim (or_cases (f x) (list_any f xs) e) [
      | inl here ↦ or_left (g x) (list_any g xs) (h x here)
      | inr later ↦ or_right (g x) (list_any g xs) (any_from f g h xs later)
    ]

-- ceilings: who is at the one level or above it is at the other level or above it

abbrev pub Reaches : ℕ → ℕ → (ℕ → ℕ) → (ℕ → ℕ) → ℕ → Type 0
Reaches l m p q n = (t : ℕ) → t < n → l ≤ p t → m ≤ q t

one_reaches : (b : Bool) (l m : ℕ) (x y : TxnDecl) (xs ys : List TxnDecl) → (l ≤ x.prio → m ≤ y.prio) → (l ≤ greatest (prios xs) → m ≤ greatest (prios ys))
    → l ≤ greatest (prios (cond b (x ∷ xs) xs)) → m ≤ greatest (prios (cond b (y ∷ ys) ys))
one_reaches true l m x y xs ys first rest le =
    ⊎_elim
    (λ (low : x.prio < l). let later : m ≤ greatest (prios ys) = rest (omega (arith, le, low)) in omega (arith, later))
    (λ (high : l ≤ x.prio). omega (arith, first high))
    (cases_lt x.prio l)
one_reaches false l m x y xs ys first rest le = rest le

greatest_reaches : (f : TxnDecl → Bool) → ((t : TxnDecl) (n : ℕ) → f (record t { prio = n }) ≡ f t) → (l m : ℕ) → 1 ≤ l → (p q : ℕ → ℕ) (ts : List TxnDecl) → Reaches l m p q (length ts)
    → l ≤ greatest (prios (filter f (txns_with p ts))) → m ≤ greatest (prios (filter f (txns_with q ts)))
greatest_reaches f same l m some p q [] h = λ le. absurd (omega (arith, some, le))
greatest_reaches f same l m some p q (t ∷ ts) h =
    rw (same t (p 0), same t (q 0))
    (one_reaches (f t) l m (record t { prio = p 0 }) (record t { prio = q 0 }) (filter f (txns_with (λ i. p (suc i)) ts)) (filter f (txns_with (λ i. q (suc i)) ts)) (h 0 (omega arith))
    (greatest_reaches f same l m some (λ i. p (suc i)) (λ i. q (suc i)) ts (λ k less. h (suc k) (omega (arith, less)))))

-- blocking

loud_at : (a b : Bool) (x : ℕ) (s t : TxnDecl) (ss ts : List TxnDecl) → loud s ≡ loud t → (a ≡ true → (b ≡ true) ⊎ (loud s ≤ x)) → greatest (map loud ss) ≤ max x (greatest (map loud ts))
    → greatest (map loud (cond a (s ∷ ss) ss)) ≤ max x (greatest (map loud (cond b (t ∷ ts) ts)))
loud_at true true x s t ss ts same h le = omega (arith, le, same)
loud_at true false x s t ss ts same h le = elim (h refl) [ inl e ↦ absurd (false≢true e) | inr small ↦ omega (arith, small, le) ]
loud_at false true x s t ss ts same h le = omega (arith, le)
loud_at false false x s t ss ts same h le = le

loud_le : (f g : TxnDecl → Bool) (x : ℕ) (p q : ℕ → ℕ) (ts : List TxnDecl)
    → ((t : ℕ) → t < length ts → f (record (get_or ts t no_txn) { prio = p t }) ≡ true → (g (record (get_or ts t no_txn) { prio = q t }) ≡ true) ⊎ (loud (get_or ts t no_txn) ≤ x))
    → greatest (map loud (filter f (txns_with p ts))) ≤ max x (greatest (map loud (filter g (txns_with q ts))))
loud_le f g x p q [] h = omega arith
loud_le f g x p q (t ∷ ts) h =
    loud_at (f (record t { prio = p 0 })) (g (record t { prio = q 0 })) x (record t { prio = p 0 }) (record t { prio = q 0 }) (filter f (txns_with (λ i. p (suc i)) ts)) (filter g (txns_with (λ i. q (suc i)) ts)) refl (h 0 (omega arith))
    (loud_le f g x (λ i. p (suc i)) (λ i. q (suc i)) ts (λ k less. h (suc k) (omega (arith, less))))

module _ (set : Set) (p q : ℕ → ℕ) (l m : ℕ) (some : 1 ≤ l) (reach : Reaches l m p q (length set.txns)) where
  write_reaches : (item : ℕ) → nat_le l (write_ceiling (with_prios p set) item) ≡ true → nat_le m (write_ceiling (with_prios q set) item) ≡ true
  unfolding write_ceiling
  write_reaches item e = le-leb _ _ (greatest_reaches (λ t. may_write t item) (λ t n. refl) l m some p q set.txns reach (leb-true _ _ e))

  absolute_reaches : (item : ℕ) → nat_le l (absolute_ceiling (with_prios p set) item) ≡ true → nat_le m (absolute_ceiling (with_prios q set) item) ≡ true
  unfolding absolute_ceiling
  absolute_reaches item e = le-leb _ _ (greatest_reaches (λ t. may_read t item || may_write t item) (λ t n. refl) l m some p q set.txns reach (leb-true _ _ e))

  block_reaches : (t : TxnDecl) → may_block (with_prios p set) l t ≡ true → may_block (with_prios q set) m t ≡ true
  block_reaches t e =
      elim (or_cases (list_any (λ i. nat_le l (write_ceiling (with_prios p set) i.0)) t.reads) (list_any (λ i. nat_le l (absolute_ceiling (with_prios p set) i.0)) t.writes) e) [
        | inl reads ↦ or_left _ _ (any_from (λ i. nat_le l (write_ceiling (with_prios p set) i.0)) (λ i. nat_le m (write_ceiling (with_prios q set) i.0)) (λ i. write_reaches i.0) t.reads reads)
        | inr writes ↦ or_right _ _ (any_from (λ i. nat_le l (absolute_ceiling (with_prios p set) i.0)) (λ i. nat_le m (absolute_ceiling (with_prios q set) i.0)) (λ i. absolute_reaches i.0) t.writes writes)
      ]

  -- whoever is below the one level and not below the other has at most x such steps
  pub blocking_le : (x : ℕ) → ((t : ℕ) → t < length set.txns → p t < l → (q t < m) ⊎ (loud (txn_of set t) ≤ x)) → blocking (with_prios p set) l ≤ max x (blocking (with_prios q set) m)
  unfolding blocking
  blocking_le x low =
      loud_le (λ t. nat_lt t.prio l && may_block (with_prios p set) l t) (λ t. nat_lt t.prio m && may_block (with_prios q set) m t) x p q set.txns
      (λ t inside e.
      let parts = and_parts (nat_lt (p t) l) (may_block (with_prios p set) l (txn_of set t)) e in
      elim (low t inside (ltb-true _ _ parts.0)) [
        | inl lt ↦ inl (and_from (nat_lt (q t) m) (may_block (with_prios q set) m (txn_of set t)) (lt-ltb _ _ lt) (block_reaches (txn_of set t) parts.1))
        | inr small ↦ inr small
      ])

-- the demand of the higher ones

part_at : (a b : Bool) (n : ℕ) → (a ≡ true → b ≡ true) → cond a n 0 ≤ cond b n 0
part_at true true n h = omega arith
part_at true false n h = absurd (false≢true (h refl))
part_at false true n h = omega arith
part_at false false n h = omega arith

above_from : (l m x y : ℕ) → (l < x → m < y) → nat_lt l x ≡ true → nat_lt m y ≡ true
above_from l m x y h e = lt-ltb m y (h (ltb-true l x e))

pub higher_le : (l m w : ℕ) (p q : ℕ → ℕ) (ts : List TxnDecl) → ((t : ℕ) → t < length ts → l < p t → m < q t) → higher_demand l w (txns_with p ts) ≤ higher_demand m w (txns_with q ts)
higher_le l m w p q [] h = omega arith
higher_le l m w p q (t ∷ ts) h =
    let first = part_at (nat_lt l (p 0)) (nat_lt m (q 0)) (div_ceil w t.period * t.steps) (above_from l m (p 0) (q 0) (h 0 (omega arith))) in
    let rest = higher_le l m w (λ i. p (suc i)) (λ i. q (suc i)) ts (λ k less. h (suc k) (omega (arith, less))) in
    omega (arith, first, rest)

-- one of them comes in
pub higher_less : (l m w : ℕ) (p q : ℕ → ℕ) (ts : List TxnDecl) (j : ℕ) → j < length ts → p j ≤ l → m < q j → ((t : ℕ) → t < length ts → t ≢ j → l < p t → m < q t)
    → higher_demand l w (txns_with p ts) + div_ceil w (get_or ts j no_txn).period * (get_or ts j no_txn).steps ≤ higher_demand m w (txns_with q ts)
higher_less l m w p q [] j inside low high h = absurd (omega (arith, inside))
higher_less l m w p q (t ∷ ts) zero inside low high h =
    let none : nat_lt l (p 0) ≡ false = le-ltb l (p 0) low in
    let some : nat_lt m (q 0) ≡ true = lt-ltb m (q 0) high in
    let rest = higher_le l m w (λ i. p (suc i)) (λ i. q (suc i)) ts (λ k less. h (suc k) (omega (arith, less)) (λ e. omega (arith, e))) in
    rw (none, some) (omega (arith, rest))
higher_less l m w p q (t ∷ ts) (suc j) inside low high h =
    let first = part_at (nat_lt l (p 0)) (nat_lt m (q 0)) (div_ceil w t.period * t.steps) (above_from l m (p 0) (q 0) (h 0 (omega arith) (λ e. omega (arith, e)))) in
    let rest = higher_less l m w (λ i. p (suc i)) (λ i. q (suc i)) ts j (omega (arith, inside)) low high (λ k less other. h (suc k) (omega (arith, less)) (λ e. other (omega (arith, e)))) in
    omega (arith, first, rest)
