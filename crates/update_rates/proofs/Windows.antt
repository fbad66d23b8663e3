-- What the loops over the updaters begin with, and the deadline as the least window of loads.
use Rattle.std.proofs.Common.{◌≡◌, ℕ, ◌+◌, ◌*◌, ◌<◌, ◌≤◌, ◌^◌, List, [], true, length, get_or, leb, arith, ◌∙◌, ap, sym}
use Rattle.std.specs.List.{filter, sum_by}
use Rattle.std.specs.Int.{div_ceil}
use Rattle.response_test.specs.declared.windows.Load.{Load}
use Rattle.response_test.specs.Loads.{uses, window}
use Rattle.response_test.proofs.Least.{least_from-same}
use Rattle.update_rates.specs.declared.updaters.Updater.{Updater}
use Rattle.update_rates.specs.declared.rates.Rate.{Rate}
use Rattle.update_rates.specs.Updaters.{updater_at}
use Rattle.update_rates.specs.Rates.{is_earlier, place_of, load, cap, least_window, deadline, period}
use Rattle.update_rates.specs.Ranking.{IsRated, StandForEarlier}
use Rattle.update_rates.proofs.Levels.{deadlines-are-least}
use Rattle.update_rates.proofs.Greatest.{deadline-is, period-is}
use Rattle.update_rates.proofs.Ranges.{rest_of, rest-start, sum-passes}

-- the loops over the updaters begin with all numbers

pub place-starts : (us : List Updater) (tx : ℕ) → 0 + length (filter (λ h. is_earlier us h tx) (rest_of 0 (length us))) ≡ place_of us tx
unfolding place_of
place-starts us tx =
    let e = ap (λ (xs : List ℕ). length (filter (λ h. is_earlier us h tx) xs)) (rest-start (length us)) in
    omega (arith, e)

abbrev pub term_of : List Updater → ℕ → ℕ → ℕ
term_of us ticks h = div_ceil ticks (period us h) * (updater_at us h).steps

pub load-starts : (us : List Updater) (tx ticks : ℕ) → (updater_at us tx).steps + sum_by (term_of us ticks) (filter (λ h. is_earlier us h tx) (rest_of 0 (length us))) ≡ load us (period us) tx ticks
unfolding load
load-starts us tx ticks =
    let e = ap (λ (xs : List ℕ). sum_by (term_of us ticks) (filter (λ h. is_earlier us h tx) xs)) (rest-start (length us)) in
    omega (arith, e)

pub rated-period : (us : List Updater) (rates : List Rate) (h : ℕ) → h < length us → IsRated us rates h → 1 ≤ period us h
rated-period us rates h inside r = (period-is us h _ (deadline-is us h _ inside r.found)).some

-- what stands for a rate that a table does not have
abbrev pub no_rate : Rate
no_rate = record { prio = 0; period = 0; deadline = 0 }

-- the period in the table is that of the updater
pub period-at : (us : List Updater) (rates : List Rate) (h : ℕ) (d : Rate) → IsRated us rates h → (get_or rates h d).period ≡ period us h
period-at us rates h d r = ap (λ (rate : Rate). rate.period) (r.rate d)

-- the loads that the loop begins with, and one more
pub loads-start : (us : List Updater) (tx w : ℕ) (loads : List Load) → loads ≡ [] → (updater_at us tx).steps + uses w loads + sum_by (term_of us w) (filter (λ h. is_earlier us h tx) (rest_of 0 (length us))) ≡ load us (period us) tx w
loads-start us tx w loads e = rw e (omega (arith, load-starts us tx w))

pub rated-row : (us : List Updater) (rates : List Rate) (h : ℕ) (d : Rate) → h < length us → IsRated us rates h → (1 ≤ (get_or rates h d).period) × ((get_or rates h d).period ≤ 2 ^ 30)
rated-row us rates h d inside r =
    let p = period-is us h _ (deadline-is us h _ inside r.found) in
    (omega (arith, p.some, period-at us rates h d r), omega (arith, p.few, period-at us rates h d r))

pub loads-more : (us : List Updater) (rates : List Rate) (tx other w : ℕ) (loads more : List Load) → other < length us → is_earlier us other tx ≡ true → IsRated us rates other → uses w more ≡ uses w loads + div_ceil w (get_or rates other no_rate).period * (updater_at us other).steps
    → (updater_at us tx).steps + uses w loads + sum_by (term_of us w) (filter (λ h. is_earlier us h tx) (rest_of other (length us))) ≡ load us (period us) tx w → (updater_at us tx).steps + uses w more + sum_by (term_of us w) (filter (λ h. is_earlier us h tx) (rest_of (other + 1) (length us))) ≡ load us (period us) tx w
loads-more us rates tx other w loads more inside passes r one is =
    let term : div_ceil w (get_or rates other no_rate).period * (updater_at us other).steps ≡ term_of us w other = ap (λ (t : ℕ). div_ceil w t * (updater_at us other).steps) (period-at us rates other no_rate r) in
    omega (arith, one, sum-passes (λ h. is_earlier us h tx) (term_of us w) other (length us) ((updater_at us tx).steps + uses w loads) (load us (period us) tx w) _ inside passes term is)

-- the deadline is the least window of the loads that stand for the earlier updaters
pub deadline-window : (us : List Updater) (tx : ℕ) (loads : List Load) → tx < length us → StandForEarlier us tx loads → deadline us tx ≡ window loads (updater_at us tx).steps (cap us tx)
unfolding least_window window
deadline-window us tx loads inside stand =
    deadlines-are-least us tx inside
    ∙ least_from-same (λ w. leb (load us (period us) tx w) w) (λ w. leb ((updater_at us tx).steps + uses w loads) w) 1 (cap us tx) (λ w. ap (λ (n : ℕ). leb n w) (sym (stand w)))
