-- The periods that the deadlines leave keep the validities, and no assignment that keeps them has a greater one.
use Rattle.std.proofs.Common.{◌≡◌, ℕ, zero, suc, ◌+◌, ◌-◌, ◌<◌, ◌≤◌, min, leb, List, length, Option, Some, None, refl, sym, ◌∙◌, ap, ⊎_elim, arith}
use Rattle.std.proofs.lemmas.Bool.{cases_lt, leb-true, leb-false}
use Rattle.response_test.proofs.Least.{IsLeastFrom, least_from-is, least_from-fails}
use Rattle.update_rates.specs.declared.updaters.Updater.{Updater}
use Rattle.update_rates.specs.Updaters.{updater_at}
use Rattle.update_rates.specs.Rates.{place_of, load, longest, cap, least_window, period_after, deadline, period}
use Rattle.update_rates.specs.Laws.{KeepsValidity}
use Rattle.update_rates.proofs.Places.{place-less, place-inside}
use Rattle.update_rates.proofs.Levels.{load-le, deadlines-are-least}

-- what a deadline tells
pub record IsDeadline (us : List Updater) (tx d : ℕ) : Type 0 where
  pub low : 1 ≤ d
  pub high : d ≤ cap us tx
  pub fits : load us (period us) tx d ≤ d
  pub before : (w : ℕ) → 1 ≤ w → w < d → w < load us (period us) tx w
  pub period_is : period us tx ≡ min ((updater_at us tx).validity - d) longest

window-is : (us : List Updater) (tx d : ℕ) → least_window us (period us) tx ≡ Some d → IsLeastFrom (λ w. leb (load us (period us) tx w) w) 1 (cap us tx) d
unfolding least_window
window-is us tx d e = least_from-is (λ w. leb (load us (period us) tx w) w) 1 (cap us tx) d e

window-none : (us : List Updater) (tx : ℕ) → least_window us (period us) tx ≡ None → (w : ℕ) → 1 ≤ w → w ≤ cap us tx → w < load us (period us) tx w
unfolding least_window
window-none us tx e w low high =
    leb-false (load us (period us) tx w) w (least_from-fails (λ w. leb (load us (period us) tx w) w) 1 (cap us tx) e w low (omega arith))

pub deadline-is : (us : List Updater) (tx d : ℕ) → tx < length us → deadline us tx ≡ Some d → IsDeadline us tx d
deadline-is us tx d inside e =
    let h = window-is us tx d (sym (deadlines-are-least us tx inside) ∙ e) in
    record {
      low = h.low;
      high = omega (arith, h.high);
      fits = leb-true (load us (period us) tx d) d h.passes;
      before = λ w low less. leb-false (load us (period us) tx w) w (h.before w low less);
      period_is = ap (period_after us tx) e;
    }

pub deadline-none : (us : List Updater) (tx : ℕ) → tx < length us → deadline us tx ≡ None → (w : ℕ) → 1 ≤ w → w ≤ cap us tx → w < load us (period us) tx w
deadline-none us tx inside e = window-none us tx (sym (deadlines-are-least us tx inside) ∙ e)

-- the period that a deadline leaves
pub record IsPeriod (us : List Updater) (tx d : ℕ) : Type 0 where
  pub some : 1 ≤ period us tx
  pub few : period us tx ≤ longest
  pub within : d ≤ period us tx
  pub valid : period us tx + d ≤ (updater_at us tx).validity

pub period-is : (us : List Updater) (tx d : ℕ) → IsDeadline us tx d → IsPeriod us tx d
period-is us tx d h =
    let low = h.low in
    let high = h.high in
    let is = h.period_is in
    record {
      some = omega arith;
      few = omega arith;
      within = omega arith;
      valid = omega arith;
    }

-- the period of an updater with a deadline keeps the validity
pub keeps-one : (us : List Updater) (tx d : ℕ) → IsDeadline us tx d → KeepsValidity us (period us) tx
keeps-one us tx d h =
    let p = period-is us tx d h in
    record {
      some = p.some;
      few = p.few;
      window = d;
      from = h.low;
      fits = h.fits;
      least =
          λ w from fits.
          ⊎_elim
          (λ (less : w < d). absurd (omega (arith, h.before w from less, fits)))
          (λ (le : d ≤ w). le)
          (cases_lt w d);
      within = p.within;
      valid = p.valid;
    }

-- an updater has a deadline, and its period is no less than that of an assignment
pub record IsAtMost (us : List Updater) (others : ℕ → ℕ) (tx : ℕ) : Type 0 where
  pub d : ℕ
  pub found : deadline us tx ≡ Some d
  pub at_most : others tx ≤ period us tx

at-window : (us : List Updater) (others : ℕ → ℕ) (tx : ℕ) → tx < length us → (k : KeepsValidity us others tx) → load us (period us) tx k.window ≤ load us others tx k.window → (o : Option ℕ) → deadline us tx ≡ o → IsAtMost us others tx
at-window us others tx inside k le None e =
    let within : k.window ≤ cap us tx = omega (arith, k.within, k.valid, k.few) in
    let more = deadline-none us tx inside e k.window k.from within in
    absurd (omega (arith, more, le, k.fits))
at-window us others tx inside k le (Some d) e =
    let h = deadline-is us tx d inside e in
    let low : d ≤ k.window =
    ⊎_elim
    (λ (less : k.window < d). absurd (omega (arith, h.before k.window k.from less, le, k.fits)))
    (λ (fine : d ≤ k.window). fine)
    (cases_lt k.window d) in
    record { d = d; found = e; at_most = omega (arith, h.period_is, low, k.valid, k.few) }

at-most-below : (us : List Updater) (others : ℕ → ℕ) → ((tx : ℕ) → tx < length us → KeepsValidity us others tx) → (n tx : ℕ) → tx < length us → place_of us tx < n → IsAtMost us others tx
at-most-below us others keeps zero tx inside less = absurd (omega arith)
at-most-below us others keeps (suc n) tx inside less =
    at-window us others tx inside (keeps tx inside)
    (load-le us others (period us) tx (keeps tx inside).window
    (λ h in-h first.
    let lower = place-less us h tx in-h first in
    ((keeps h in-h).some, (at-most-below us others keeps n h in-h (omega (arith, lower, less))).at_most)))
    (deadline us tx) refl

-- whatever assignment keeps the validities, each updater has a deadline and no lesser period
pub at-most : (us : List Updater) (others : ℕ → ℕ) → ((tx : ℕ) → tx < length us → KeepsValidity us others tx) → (tx : ℕ) → tx < length us → IsAtMost us others tx
at-most us others keeps tx inside = at-most-below us others keeps (length us) tx inside (place-inside us tx inside)
