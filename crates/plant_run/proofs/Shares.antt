-- How many transactions go to one list.
use Rattle.std.proofs.Common.{◌≡◌, ℕ, zero, suc, ◌+◌, ◌*◌, ◌/◌, ◌%◌, ◌<◌, ◌≤◌, if◌then◌else◌, nat_eq, nat_lt, length, List, Vec, Global, vec_len, vec_capacity, All, ap, subst, ◌∙◌, arith}
use Rattle.std.proofs.lemmas.Bool.Decides.{nat_tests}
use Rattle.std.proofs.lemmas.Nat.{div-add-mod', mod-mul-add, mod_below}
use Rattle.plant_run.specs.Deals.{share, HavePlaces}

abbrev is_at : ℕ → ℕ → ℕ
is_at n j = if nat_eq n j then 1 else 0

abbrev is_before : ℕ → ℕ → ℕ
is_before j r = if nat_lt j r then 1 else 0

mod_row : (w j q r : ℕ) → r < w → is_at ((q * w + r) % w) j ≡ is_at r j
mod_row w j q r lt = ap (λ (n : ℕ). is_at n j) (mod-mul-add q w r lt)

share_row : (w j q r : ℕ) → r ≤ w → share w j (q * w) ≡ q → share w j (q * w + r) ≡ q + is_before j r
share_row w j q zero le is =
    let none : is_before j 0 ≡ 0 = grind (arith, nat_tests) in
    let at : q * w + 0 ≡ q * w = omega arith in
    ap (share w j) at ∙ omega (arith, is, none)
share_row w j q (suc r) le is =
    let before = share_row w j q r (omega arith) is in
    let here = mod_row w j q r (omega arith) in
    let one : is_before j (suc r) ≡ is_before j r + is_at r j = grind (arith, nat_tests) in
    let at : q * w + suc r ≡ suc (q * w + r) = omega arith in
    ap (share w j) at ∙ omega (arith, before, here, one)

share_rows : (w j q : ℕ) → j < w → share w j (q * w) ≡ q
share_rows w j zero lt = let at : 0 * w ≡ 0 = omega arith in ap (share w j) at
share_rows w j (suc q) lt =
    let all = share_row w j q w (omega arith) (share_rows w j q lt) in
    let last : is_before j w ≡ 1 = grind (arith, nat_tests) in
    let at : (suc q) * w ≡ q * w + w = omega arith in
    ap (share w j) at ∙ (all ∙ omega (arith, last))

share_le : (w j n : ℕ) → j < w → share w j n ≤ n / w + 1
share_le w j n lt =
    let low = mod_below n w (omega arith) in
    let all = share_row w j (n / w) (n % w) (omega arith) (share_rows w j (n / w) lt) in
    let most : is_before j (n % w) ≤ 1 = grind (arith, nat_tests) in
    subst (λ (k : ℕ). share w j k ≤ n / w + 1) (div-add-mod' n w) (omega (arith, all, most))

pub places_enough : {X : Type 0} (txs w : ℕ) (lists : List (Vec X Global)) → length lists ≡ w
    → All (λ (l : Vec X Global). (vec_len l ≡ 0) × (txs / w + 1 ≤ vec_capacity l)) lists → HavePlaces txs lists
places_enough txs w lists is all j d lt =
    let here = all j d lt in
    let most = share_le (length lists) j txs lt in
    let same : txs / length lists ≡ txs / w = ap (λ (n : ℕ). txs / n) is in
    omega (arith, here.0, here.1, most, same)
