-- Counts and sums over the numbers that pass a test, as a loop over the numbers takes them.
use Rattle.std.proofs.Common.{◌≡◌, ℕ, suc, ◌+◌, ◌-◌, ◌*◌, ◌^◌, ◌<◌, ◌≤◌, Bool, true, false, List, ◌∷◌, length, refl, ap, arith}
use Rattle.std.specs.List.{filter, range_with_len, sum_by}
use Rattle.std.specs.Int.{div_ceil}
use Rattle.std.proofs.Math.Nat.{mul-le-mul}
use Rattle.std.proofs.lemmas.List.Sums.{sum_by-cons}
use Rattle.response_test.proofs.Quotients.{div_ceil-le}

-- the numbers from one on, below an end
abbrev pub rest_of : ℕ → ℕ → List ℕ
rest_of i n = range_with_len i (n - i)

rest-next : (i n : ℕ) → i < n → rest_of i n ≡ i ∷ rest_of (i + 1) n
rest-next i n less = let e : n - i ≡ suc (n - (i + 1)) = omega arith in rw e refl

pub rest-start : (n : ℕ) → rest_of 0 n ≡ range_with_len 0 n
rest-start n = let e : n - 0 ≡ n = omega arith in ap (range_with_len 0) e

pub count-passes : (p : ℕ → Bool) (i n place all : ℕ) → i < n → p i ≡ true → place + length (filter p (rest_of i n)) ≡ all → (place + 1) + length (filter p (rest_of (i + 1) n)) ≡ all
count-passes p i n place all less passes e =
    let next : length (filter p (rest_of i n)) ≡ suc (length (filter p (rest_of (i + 1) n))) = rw (rest-next i n less, passes) refl in
    omega (arith, next, e)

pub count-fails : (p : ℕ → Bool) (i n place all : ℕ) → i < n → p i ≡ false → place + length (filter p (rest_of i n)) ≡ all → place + length (filter p (rest_of (i + 1) n)) ≡ all
count-fails p i n place all less fails e =
    let next : length (filter p (rest_of i n)) ≡ length (filter p (rest_of (i + 1) n)) = rw (rest-next i n less, fails) refl in
    omega (arith, next, e)

pub sum-passes : (p : ℕ → Bool) (f : ℕ → ℕ) (i n total all term : ℕ) → i < n → p i ≡ true → term ≡ f i → total + sum_by f (filter p (rest_of i n)) ≡ all → (total + term) + sum_by f (filter p (rest_of (i + 1) n)) ≡ all
sum-passes p f i n total all term less passes is e =
    let next : filter p (rest_of i n) ≡ i ∷ filter p (rest_of (i + 1) n) = rw (rest-next i n less, passes) refl in
    let one = sum_by-cons f i (filter p (rest_of (i + 1) n)) in
    omega (arith, ap (λ (xs : List ℕ). sum_by f xs) next, one, is, e)

pub sum-fails : (p : ℕ → Bool) (f : ℕ → ℕ) (i n total all : ℕ) → i < n → p i ≡ false → total + sum_by f (filter p (rest_of i n)) ≡ all → total + sum_by f (filter p (rest_of (i + 1) n)) ≡ all
sum-fails p f i n total all less fails e =
    let next : filter p (rest_of i n) ≡ filter p (rest_of (i + 1) n) = rw (rest-next i n less, fails) refl in
    omega (arith, ap (λ (xs : List ℕ). sum_by f xs) next, e)

-- one term of a load is small
pub term-le : (t w steps : ℕ) → 1 ≤ t → w ≤ 2 ^ 30 → steps ≤ 10000 → div_ceil w t * steps ≤ 2 ^ 30 * 10000
term-le t w steps some few low =
    let a : div_ceil w t ≤ 2 ^ 30 = omega (arith, div_ceil-le t w some) in
    mul-le-mul a low
