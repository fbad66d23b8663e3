-- The load of a later updater is no less, so its deadline is not either: a job of the earlier one is in each window.
use Rattle.std.proofs.Common.{◌≡◌, ℕ, zero, suc, ◌+◌, ◌*◌, ◌<◌, ◌≤◌, Bool, true, false, List, length, get_or, Some, ap, subst, ⊎_elim, arith}
use Rattle.std.specs.List.{filter, range_with_len, sum_by}
use Rattle.std.specs.Int.{div_ceil}
use Rattle.std.proofs.Math.Nat.{mul-le-mul_right}
use Rattle.std.proofs.lemmas.Bool.{cases_lt, cases_eq, cases_Bool}
use Rattle.std.proofs.lemmas.List.{get_or_default}
use Rattle.std.proofs.lemmas.List.Sums.{sum_by-cons}
use Rattle.response_test.proofs.Quotients.{div_ceil-some}
use Rattle.update_rates.specs.declared.updaters.Updater.{Updater}
use Rattle.update_rates.specs.declared.order.Ranked.{Ranked}
use Rattle.update_rates.specs.Updaters.{updater_at}
use Rattle.update_rates.specs.Rates.{is_earlier, load, deadline, period}
use Rattle.update_rates.specs.Ranking.{AreRanked, IsTooShort}
use Rattle.update_rates.proofs.Places.{not-earlier, earlier-follows, less-place, place-alone}
use Rattle.update_rates.proofs.Greatest.{deadline-is, period-is}

-- sums over the numbers that pass a wider test

sum-wide : (p q : ℕ → Bool) (f : ℕ → ℕ) (a n : ℕ) → ((i : ℕ) → p i ≡ true → q i ≡ true) → sum_by f (filter p (range_with_len a n)) ≤ sum_by f (filter q (range_with_len a n))
sum-wide p q f a zero wide = omega arith
sum-wide p q f a (suc n) wide =
    let rest = sum-wide p q f (a + 1) n wide in
    let more = sum_by-cons f a (filter q (range_with_len (a + 1) n)) in
    ⊎_elim
    (λ (yes : p a ≡ true).
    let also : q a ≡ true = wide a yes in
    let here = sum_by-cons f a (filter p (range_with_len (a + 1) n)) in
    rw (yes, also) (omega (arith, rest, here, more)))
    (λ (no : p a ≡ false).
    ⊎_elim
    (λ (passes : q a ≡ true). rw (no, passes) (omega (arith, rest, more)))
    (λ (neither : q a ≡ false). rw (no, neither) rest)
    (cases_Bool (q a)))
    (cases_Bool (p a))

sum-wider : (p q : ℕ → Bool) (f : ℕ → ℕ) (a n k : ℕ) → ((i : ℕ) → p i ≡ true → q i ≡ true) → a ≤ k → k < a + n → p k ≡ false → q k ≡ true → sum_by f (filter p (range_with_len a n)) + f k ≤ sum_by f (filter q (range_with_len a n))
sum-wider p q f a zero k wide low high out inside = absurd (omega arith)
sum-wider p q f a (suc n) k wide low high out inside =
    let more = sum_by-cons f a (filter q (range_with_len (a + 1) n)) in
    ⊎_elim
    (λ (later : a < k).
    let rest = sum-wider p q f (a + 1) n k wide (omega arith) (omega arith) out inside in
    ⊎_elim
    (λ (yes : p a ≡ true).
    let also : q a ≡ true = wide a yes in
    let here = sum_by-cons f a (filter p (range_with_len (a + 1) n)) in
    rw (yes, also) (omega (arith, rest, here, more)))
    (λ (no : p a ≡ false).
    ⊎_elim
    (λ (passes : q a ≡ true). rw (no, passes) (omega (arith, rest, more)))
    (λ (neither : q a ≡ false). rw (no, neither) rest)
    (cases_Bool (q a)))
    (cases_Bool (p a)))
    (λ (here : k ≤ a).
    let same : k ≡ a = omega arith in
    let fails : p a ≡ false = subst (λ (i : ℕ). p i ≡ false) same out in
    let passes : q a ≡ true = subst (λ (i : ℕ). q i ≡ true) same inside in
    rw (fails, passes) (omega (arith, sum-wide p q f (a + 1) n wide, more, ap f same)))
    (cases_lt a k)

load-grows : (us : List Updater) (h tx w : ℕ) → h < length us → is_earlier us h tx ≡ true → 1 ≤ period us h → 1 ≤ w → load us (period us) h w ≤ load us (period us) tx w
unfolding load
load-grows us h tx w inside before some one =
    let sum = sum-wider (λ g. is_earlier us g h) (λ g. is_earlier us g tx) (λ g. div_ceil w (period us g) * (updater_at us g).steps) 0 (length us) h (λ g e. earlier-follows us g h tx e before) (omega arith) (omega arith) (not-earlier us h) before in
    let job : 1 * (updater_at us h).steps ≤ div_ceil w (period us h) * (updater_at us h).steps = mul-le-mul_right (updater_at us h).steps (div_ceil-some (period us h) w some one) in
    omega (arith, sum, job)

-- a window that is too short for an updater is too short for the next
abbrev pub IsShortAt : List Updater → List Ranked → ℕ → ℕ → Type 0
IsShortAt us ranking k from = (d : Ranked) → k < length ranking → IsTooShort us (get_or ranking k d).tx from

pub short-next : (us : List Updater) (ranking : List Ranked) (k found : ℕ) (d : Ranked) → AreRanked us ranking → k < length ranking → deadline us (get_or ranking k d).tx ≡ Some found → IsShortAt us ranking (k + 1) found
short-next us ranking k found d t here is = λ d2 next.
    let now = t.each k d here in
    let then = t.each (k + 1) d2 next in
    let least = deadline-is us (get_or ranking k d).tx found now.in_range is in
    let some = (period-is us (get_or ranking k d).tx found least).some in
    let up = t.rising k (k + 1) d2 (omega arith) next in
    let same = ap (λ (ranked : Ranked). ranked.place) (get_or_default ranking k d2 d here) in
    record {
      some = least.low;
      below =
          λ w some-ticks less.
          ⊎_elim
          (λ (alone : (get_or ranking k d).tx ≡ (get_or ranking (k + 1) d2).tx). subst (λ (tx : ℕ). w < load us (period us) tx w) alone (least.before w some-ticks less))
          (λ (other : (get_or ranking k d).tx ≡ (get_or ranking (k + 1) d2).tx → ⊥).
          let before = less-place us (get_or ranking k d).tx (get_or ranking (k + 1) d2).tx now.in_range then.in_range (omega (arith, place-alone us (get_or ranking k d).tx (get_or ranking (k + 1) d2).tx now.in_range then.in_range other, now.place, then.place, up, same)) in
          omega (arith, least.before w some-ticks less, load-grows us (get_or ranking k d).tx (get_or ranking (k + 1) d2).tx w now.in_range before some some-ticks))
          (cases_eq (get_or ranking k d).tx (get_or ranking (k + 1) d2).tx);
    }
