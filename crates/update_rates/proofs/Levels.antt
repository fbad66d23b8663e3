-- The deadlines by levels: with as many levels as updaters, each deadline is the least window by the earlier deadlines.
use Rattle.std.proofs.Common.{◌≡◌, ℕ, zero, suc, ◌+◌, ◌*◌, ◌<◌, ◌≤◌, Bool, true, false, leb, List, length, ap, ⊎_elim, arith}
use Rattle.std.specs.List.{filter, range_with_len, sum_by}
use Rattle.std.specs.Int.{div_ceil}
use Rattle.std.proofs.Math.Nat.{mul-le-mul_left, mul-le-mul_right}
use Rattle.std.proofs.lemmas.Grind.{div_ceil_times}
use Rattle.std.proofs.lemmas.Bool.{cases_lt, cases_Bool}
use Rattle.std.proofs.lemmas.List.Sums.{sum_by-cons}
use Rattle.response_test.proofs.Least.{least_from-same}
use Rattle.update_rates.specs.declared.updaters.Updater.{Updater}
use Rattle.update_rates.specs.Updaters.{updater_at}
use Rattle.update_rates.specs.Rates.{is_earlier, place_of, load, cap, least_window, period_after, deadline_by, deadline}
use Rattle.update_rates.specs.Laws.{DeadlinesAreLeast}
use Rattle.update_rates.proofs.Places.{place-less, place-inside}

-- sums over the numbers that pass a test

sum-le : (p : ℕ → Bool) (f g : ℕ → ℕ) (a n : ℕ) → ((h : ℕ) → a ≤ h → h < a + n → p h ≡ true → f h ≤ g h) → sum_by f (filter p (range_with_len a n)) ≤ sum_by g (filter p (range_with_len a n))
sum-le p f g a zero le = omega arith
sum-le p f g a (suc n) le =
    let rest = sum-le p f g (a + 1) n (λ h low high. le h (omega arith) (omega arith)) in
    ⊎_elim
    (λ (yes : p a ≡ true).
    let here : f a ≤ g a = le a (omega arith) (omega arith) yes in
    let x = sum_by-cons f a (filter p (range_with_len (a + 1) n)) in
    let y = sum_by-cons g a (filter p (range_with_len (a + 1) n)) in
    rw yes (omega (arith, x, y, here, rest)))
    (λ (no : p a ≡ false). rw no rest)
    (cases_Bool (p a))

-- a shorter period begins more often
shorter : (s t w : ℕ) → 1 ≤ s → s ≤ t → div_ceil w t ≤ div_ceil w s
shorter s t w some le =
    ⊎_elim
    (λ (more : div_ceil w s < div_ceil w t).
    let up : div_ceil w s + 1 ≤ div_ceil w t = omega arith in
    let a : (div_ceil w s + 1) * t ≤ div_ceil w t * t = mul-le-mul_right t up in
    let b : div_ceil w s * s ≤ div_ceil w s * t = mul-le-mul_left (div_ceil w s) le in
    let ps : 0 < s = omega arith in
    let pt : 0 < t = omega arith in
    let from = div_ceil_times w s ps in
    let to = div_ceil_times w t pt in
    absurd (omega (arith, a, b, from.0, to.1)))
    (λ fine. fine)
    (cases_lt (div_ceil w s) (div_ceil w t))

-- with longer periods of the earlier updaters the load is no greater
pub load-le : (us : List Updater) (f g : ℕ → ℕ) (tx w : ℕ) → ((h : ℕ) → h < length us → is_earlier us h tx ≡ true → (1 ≤ f h) × (f h ≤ g h)) → load us g tx w ≤ load us f tx w
unfolding load
load-le us f g tx w le =
    let sum = sum-le (λ h. is_earlier us h tx) (λ h. div_ceil w (g h) * (updater_at us h).steps) (λ h. div_ceil w (f h) * (updater_at us h).steps) 0 (length us)
    (λ h low high first.
    let both = le h (omega arith) first in
    mul-le-mul_right (updater_at us h).steps (shorter (f h) (g h) w both.0 both.1)) in
    omega (arith, sum)

-- the load is by the periods of the earlier updaters alone
pub load-same : (us : List Updater) (f g : ℕ → ℕ) (tx w : ℕ) → ((h : ℕ) → h < length us → is_earlier us h tx ≡ true → f h ≡ g h) → load us f tx w ≡ load us g tx w
unfolding load
load-same us f g tx w same =
    let term : (h : ℕ) → h < length us → is_earlier us h tx ≡ true → div_ceil w (f h) * (updater_at us h).steps ≡ div_ceil w (g h) * (updater_at us h).steps = λ h inside first.
    ap (λ (t : ℕ). div_ceil w t * (updater_at us h).steps) (same h inside first) in
    let up = sum-le (λ h. is_earlier us h tx) (λ h. div_ceil w (f h) * (updater_at us h).steps) (λ h. div_ceil w (g h) * (updater_at us h).steps) 0 (length us)
    (λ h low high first. omega (arith, term h (omega arith) first)) in
    let down = sum-le (λ h. is_earlier us h tx) (λ h. div_ceil w (g h) * (updater_at us h).steps) (λ h. div_ceil w (f h) * (updater_at us h).steps) 0 (length us)
    (λ h low high first. omega (arith, term h (omega arith) first)) in
    omega (arith, up, down)

least_window-same : (us : List Updater) (f g : ℕ → ℕ) (tx : ℕ) → ((h : ℕ) → h < length us → is_earlier us h tx ≡ true → f h ≡ g h) → least_window us f tx ≡ least_window us g tx
unfolding least_window
least_window-same us f g tx same =
    least_from-same (λ w. leb (load us f tx w) w) (λ w. leb (load us g tx w) w) 1 (cap us tx) (λ w. ap (λ (n : ℕ). leb n w) (load-same us f g tx w same))

-- more levels than the place change nothing
levels-same : (us : List Updater) (m k tx : ℕ) → tx < length us → place_of us tx < m → place_of us tx < k → deadline_by us m tx ≡ deadline_by us k tx
levels-same us zero k tx inside a b = absurd (omega arith)
levels-same us (suc m) zero tx inside a b = absurd (omega arith)
levels-same us (suc m) (suc k) tx inside a b =
    least_window-same us (λ h. period_after us h (deadline_by us m h)) (λ h. period_after us h (deadline_by us k h)) tx
    (λ h in-h first.
    let less = place-less us h tx in-h first in
    ap (period_after us h) (levels-same us m k h in-h (omega (arith, less)) (omega (arith, less))))

pub deadlines-are-least : DeadlinesAreLeast
unfolding deadline
deadlines-are-least us tx inside =
    let low = place-inside us tx inside in
    levels-same us (length us) (suc (length us)) tx inside low (omega (arith, low))
