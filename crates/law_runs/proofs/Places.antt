-- Lists in parts, and entries at places that rise.
use Rattle.std.proofs.Common.{◌≡◌, ◌≢◌, ℕ, zero, suc, ◌+◌, ◌<◌, ◌≤◌, Bool, cond, List, [], ◌∷◌, ◌++◌, length, refl, ap, sym, ◌∙◌, inl, inr, arith, nat_eq}
use mathlib.Core.Option.{some}
use lib.ListN.{get_elem?}
use Rattle.std.proofs.lemmas.Bool.{cases_eq, eq-eqb, ne_eqb}
use Rattle.std.proofs.lemmas.Bool.Decides.{nat_tests}
use Rattle.step_journal.specs.declared.entry.Entry.{Entry}
use Rattle.turn_cell.specs.Turn.{times, total, below}
use Rattle.txn_threads.specs.Rising.{AreRising}

-- lists in parts

pub at_middle : {A : Type 0} (xs : List A) (x : A) (ys : List A) → get_elem? (xs ++ x ∷ ys) (length xs) ≡ some x
at_middle [] x ys = refl
at_middle (a ∷ xs) x ys = at_middle xs x ys

-- two ways to part a list, where the one first part is at least as long as the other
pub part_after : {A : Type 0} (xs ys before tail : List A) → xs ++ ys ≡ before ++ tail → length xs ≤ length before
    → (more : List A) × (before ≡ xs ++ more) × (ys ≡ more ++ tail)
part_after [] ys before tail h le = (before, refl, h)
part_after (x ∷ xs) ys [] tail h le = absurd (omega arith)
part_after {A = A} (x ∷ xs) ys (b ∷ bs) tail h le =
    let head : b ≡ x = cc in
    let rest : xs ++ ys ≡ bs ++ tail = cc in
    let r = part_after xs ys bs tail rest (omega arith) in
    (r.0, ap (λ (y : A). y ∷ bs) head ∙ ap (λ (l : List A). x ∷ l) r.1, r.2)

-- or is shorter, with one more element
pub part_before : {A : Type 0} (xs ys before : List A) (e : A) (tail : List A) → xs ++ ys ≡ before ++ e ∷ tail
    → length before < length xs → (more : List A) × (xs ≡ before ++ e ∷ more)
part_before [] ys before e tail h lt = absurd (omega arith)
part_before {A = A} (x ∷ xs) ys [] e tail h lt = let head : x ≡ e = cc in (xs, ap (λ (y : A). y ∷ xs) head)
part_before {A = A} (x ∷ xs) ys (b ∷ bs) e tail h lt =
    let head : x ≡ b = cc in
    let rest : xs ++ ys ≡ bs ++ e ∷ tail = cc in
    let r = part_before xs ys bs e tail rest (omega arith) in
    (r.0, ap (λ (y : A). y ∷ xs) head ∙ ap (λ (l : List A). b ∷ l) r.1)

-- how often a place stands in a list

pub bit_same : (a b : ℕ) → a ≡ b → cond {A = ℕ} (nat_eq a b) 1 0 ≡ 1
bit_same a b e = ap {B = ℕ} (λ (t : Bool). cond t 1 0) (eq-eqb a b e)

pub bit_other : (a b : ℕ) → a ≢ b → cond {A = ℕ} (nat_eq a b) 1 0 ≡ 0
bit_other a b ne = ap {B = ℕ} (λ (t : Bool). cond t 1 0) (ne_eqb a b ne)

pub below_in : (n m : ℕ) → n < m → below n m ≡ 1
below_in n m lt = grind (arith, nat_tests)

pub below_out : (n m : ℕ) → m ≤ n → below n m ≡ 0
below_out n m le = grind (arith, nat_tests)

-- where a total counts something, one of the list does
pub total_some : {A : Type 0} (g : A → ℕ) (l : List A) → 0 < total g l → (k : ℕ) × (x : A) × (get_elem? l k ≡ some x) × (0 < g x)
total_some g [] lt = absurd (omega arith)
total_some g (x ∷ xs) lt = elim (cases_eq (g x) 0) [
  | inl none ↦ (let r = total_some g xs (omega (arith, lt, none)) in (suc r.0, r.1, r.2, r.3))
  | inr some_here ↦ (zero, x, refl, omega (arith, some_here))
]

-- places that rise

pub rise_le : (xs : List (ℕ × Entry)) (a b : ℕ) → AreRising a b xs → a ≤ b
rise_le [] a b h = h
rise_le (x ∷ xs) a b h = omega (arith, h.0, rise_le xs (x.0 + 1) b h.1)

pub rise_up : (xs : List (ℕ × Entry)) (a b c : ℕ) → AreRising a b xs → b ≤ c → AreRising a c xs
rise_up [] a b c h le = omega (arith, h, le)
rise_up (x ∷ xs) a b c h le = (h.0, rise_up xs (x.0 + 1) b c h.1 le)

-- no place below the first, and none from the last number on
pub rise_low : (xs : List (ℕ × Entry)) (a b n : ℕ) → AreRising a b xs → n < a → times n xs ≡ 0
rise_low [] a b n h lt = refl
rise_low (x ∷ xs) a b n h lt = omega (arith, bit_other n x.0 (λ e. omega (arith, e, lt, h.0)), rise_low xs (x.0 + 1) b n h.1 (omega (arith, lt, h.0)))

pub rise_high : (xs : List (ℕ × Entry)) (a b n : ℕ) → AreRising a b xs → b ≤ n → times n xs ≡ 0
rise_high [] a b n h le = refl
rise_high (x ∷ xs) a b n h le = omega (arith, bit_other n x.0 (λ e. omega (arith, e, le, rise_le xs (x.0 + 1) b h.1)), rise_high xs (x.0 + 1) b n h.1 le)

-- where the first possible place stands in the list, it is the first
pub record IsFirst (n : ℕ) (xs : List (ℕ × Entry)) : Type 0 where
  pub entry : Entry
  pub others : List (ℕ × Entry)
  pub is : xs ≡ (n, entry) ∷ others

pub rise_first : (xs : List (ℕ × Entry)) (a b : ℕ) → AreRising a b xs → 0 < times a xs → IsFirst a xs
rise_first [] a b h lt = absurd (omega arith)
rise_first (x ∷ xs) a b h lt = elim (cases_eq x.0 a) [
  | inl here ↦ record { entry = x.1; others = xs; is = ap (λ (n : ℕ). (n, x.1) ∷ xs) here }
  | inr ne ↦ absurd (omega (arith, lt, bit_other a x.0 (λ e. ne (sym e)), rise_low xs (x.0 + 1) b a h.1 (omega (arith, h.0, ne))))
]

-- where it does not, the places rise from the next one on
pub rise_next : (xs : List (ℕ × Entry)) (a b : ℕ) → AreRising a b xs → times a xs ≡ 0 → a < b → AreRising (a + 1) b xs
rise_next [] a b h none lt = omega (arith, lt)
rise_next (x ∷ xs) a b h none lt = elim (cases_eq x.0 a) [
  | inl here ↦ absurd (omega (arith, none, bit_same a x.0 (sym here)))
  | inr ne ↦ (omega (arith, h.0, ne), h.1)
]
