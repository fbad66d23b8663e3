-- What the response of a transaction depends on, and that it does not grow when another one comes to stand below.
use Rattle.std.proofs.Common.{◌≡◌, ℕ, zero, suc, ◌+◌, ◌*◌, ◌<◌, ◌≤◌, ◌⊎◌, inl, inr, max, List, [], ◌∷◌, length, get_or, Option, None, Some, refl, sym, ◌∙◌, ap, arith, mul-le-mul_right}
use Rattle.std.proofs.lemmas.Bool.{cases_eq, cases_lt}
use Rattle.std.specs.Int.{div_ceil}
use Rattle.txn_set.specs.declared.decl.TxnDecl.{TxnDecl}
use Rattle.txn_set.specs.Set.{Set, no_txn, txn_of, IsCompiled}
use Rattle.txn_set.specs.Ceilings.{blocking}
use Rattle.law_times.specs.Response.{higher_demand, demand, HoldsDemand, first_window, response, IsResponse}
use Rattle.law_times.proofs.Demand.{response_found, response_none}
use Rattle.response_test.proofs.Quotients.{div_ceil-some}
use Rattle.law_times.specs.Assigned.{txns_with, with_prios, RespondsWithin}
use Rattle.law_times.specs.Laws.{StandsAlike, RespondsAlike, SetsAlone, GoesAbove, IsNoWorse}
use Rattle.law_times.proofs.Standing.{loud, blocking_le, higher_le, higher_less}

-- a set with priorities

pub with-length : (p : ℕ → ℕ) (ts : List TxnDecl) → length (txns_with p ts) ≡ length ts
with-length p [] = refl
with-length p (t ∷ ts) = ap suc (with-length (λ i. p (suc i)) ts)

pub with-at : (p : ℕ → ℕ) (ts : List TxnDecl) (tx : ℕ) → tx < length ts → get_or (txns_with p ts) tx no_txn ≡ record (get_or ts tx no_txn) { prio = p tx }
with-at p [] tx inside = absurd (omega (arith, inside))
with-at p (t ∷ ts) zero inside = refl
with-at p (t ∷ ts) (suc tx) inside = with-at (λ i. p (suc i)) ts tx (omega (arith, inside))

pub demand-with : (set : Set) (p : ℕ → ℕ) (tx w : ℕ) → tx < length set.txns
    → demand (with_prios p set) tx w ≡ (txn_of set tx).steps + blocking (with_prios p set) (p tx) + higher_demand (p tx) w (txns_with p set.txns)
unfolding demand
demand-with set p tx w inside =
    ap (λ (t : TxnDecl). t.steps + blocking (with_prios p set) t.prio + higher_demand t.prio w (txns_with p set.txns)) (with-at p set.txns tx inside)

pub deadline-with : (set : Set) (p : ℕ → ℕ) (tx : ℕ) → tx < length set.txns → (txn_of (with_prios p set) tx).deadline ≡ (txn_of set tx).deadline
deadline-with set p tx inside = ap (λ (t : TxnDecl). t.deadline) (with-at p set.txns tx inside)

-- a response that is found, and one for no greater demand

responds-at : (set : Set) (tx r : ℕ) → HoldsDemand set tx r → (o : Option ℕ) → response set tx ≡ o → RespondsWithin set tx r
responds-at set tx r holds None e = absurd (response_none set tx e r holds)
responds-at set tx r holds (Some w) e = let is = response_found set tx w e in record { response = w; is = is; within = is.least r holds }

pub less-response : (set : Set) (p q : ℕ → ℕ) (tx : ℕ) → tx < length set.txns → ((w : ℕ) → 1 ≤ w → demand (with_prios q set) tx w ≤ demand (with_prios p set) tx w)
    → (r : ℕ) → IsResponse (with_prios p set) tx r → RespondsWithin (with_prios q set) tx r
less-response set p q tx inside less r is =
    let holds : HoldsDemand (with_prios q set) tx r = record {
      positive = is.holds.positive;
      in_deadline = omega (arith, is.holds.in_deadline, deadline-with set p tx inside, deadline-with set q tx inside);
      enough = omega (arith, less r is.holds.positive, is.holds.enough);
    } in
    responds-at (with_prios q set) tx r holds (response (with_prios q set) tx) refl

pub less-within : (set : Set) (p q : ℕ → ℕ) (tx most : ℕ) → tx < length set.txns → ((w : ℕ) → 1 ≤ w → demand (with_prios q set) tx w ≤ demand (with_prios p set) tx w)
    → RespondsWithin (with_prios p set) tx most → RespondsWithin (with_prios q set) tx most
less-within set p q tx most inside less h =
    let found = less-response set p q tx inside less h.response h.is in
    record { response = found.response; is = found.is; within = omega (arith, found.within, h.within) }

-- the same above and the same below

pub flip : (set : Set) (p q : ℕ → ℕ) (tx : ℕ) → StandsAlike set p q tx → StandsAlike set q p tx
flip set p q tx alike = record {
  above = λ t inside. ((alike.above t inside).1, (alike.above t inside).0);
  below = λ t inside. ((alike.below t inside).1, (alike.below t inside).0);
}

blocking-half : (set : Set) (p q : ℕ → ℕ) (tx : ℕ) → 1 ≤ p tx → StandsAlike set p q tx → blocking (with_prios p set) (p tx) ≤ blocking (with_prios q set) (q tx)
blocking-half set p q tx some alike =
    let half = blocking_le set p q (p tx) (q tx) some reach 0 (λ t inside low. inl ((alike.below t inside).0 low)) in
    omega (arith, half)
  where
    reach : (t : ℕ) → t < length set.txns → p tx ≤ p t → q tx ≤ q t
    reach t inside high = elim (cases_lt (q t) (q tx)) [
      | inl low ↦ (let below = (alike.below t inside).1 low in absurd (omega (arith, below, high)))
      | inr le ↦ le
    ]

module _ (set : Set) (p q : ℕ → ℕ) (tx : ℕ) (inside : tx < length set.txns) (some-p : 1 ≤ p tx) (some-q : 1 ≤ q tx) (alike : StandsAlike set p q tx) where
  same-blocking : blocking (with_prios p set) (p tx) ≡ blocking (with_prios q set) (q tx)
  same-blocking = omega (arith, blocking-half set p q tx some-p alike, blocking-half set q p tx some-q (flip set p q tx alike))

  pub same-demand : (w : ℕ) → demand (with_prios p set) tx w ≡ demand (with_prios q set) tx w
  same-demand w =
      let a = higher_le (p tx) (q tx) w p q set.txns (λ t less high. (alike.above t less).0 high) in
      let b = higher_le (q tx) (p tx) w q p set.txns (λ t less high. (alike.above t less).1 high) in
      omega (arith, demand-with set p tx w inside, demand-with set q tx w inside, same-blocking, a, b)

  windows : (w n : ℕ) → first_window (with_prios p set) tx w n ≡ first_window (with_prios q set) tx w n
  windows w zero = refl
  windows w (suc n) = rw (same-demand w, windows (w + 1) n) refl

  same-response : response (with_prios p set) tx ≡ response (with_prios q set) tx
  unfolding response
  same-response =
      ap (first_window (with_prios p set) tx 1) (deadline-with set p tx inside ∙ sym (deadline-with set q tx inside)) ∙ windows 1 (txn_of (with_prios q set) tx).deadline

  responds-alike : RespondsAlike set p q tx
  responds-alike = record { one_blocking = same-blocking; one_demand = same-demand; one_response = same-response }

pub alike-within : (set : Set) (p q : ℕ → ℕ) (tx most : ℕ) → tx < length set.txns → 1 ≤ p tx → 1 ≤ q tx → StandsAlike set p q tx
    → RespondsWithin (with_prios p set) tx most → RespondsWithin (with_prios q set) tx most
alike-within set p q tx most inside some-p some-q alike h =
    less-within set p q tx most inside (λ w one. let same = same-demand set p q tx inside some-p some-q alike w in omega (arith, same)) h

pub sets-alone : SetsAlone
sets-alone set p q tx inside some-p some-q alike = responds-alike set p q tx inside some-p some-q alike

-- one that was above stands below

module _ (set : Set) (p q : ℕ → ℕ) (tx other : ℕ) (ok : IsCompiled set) (inside : tx < length set.txns) (some-p : 1 ≤ p tx) (some-q : 1 ≤ q tx) (up : GoesAbove set p q tx other) where
  reach-up : (t : ℕ) → t < length set.txns → q tx ≤ q t → p tx ≤ p t
  reach-up t less high = elim (cases_eq t other) [
    | inl e ↦ (let same : q t ≡ q other = ap q e in absurd (omega (arith, same, up.after, high)))
    | inr ne ↦ elim (cases_lt (p t) (p tx)) [
      | inl low ↦ (let below = (up.below t less ne).0 low in absurd (omega (arith, below, high)))
      | inr le ↦ le
    ]
  ]

  low-up : (t : ℕ) → t < length set.txns → q t < q tx → (p t < p tx) ⊎ (loud (txn_of set t) ≤ loud (txn_of set other))
  low-up t less low = elim (cases_eq t other) [
    | inl e ↦ (let same : loud (txn_of set t) ≡ loud (txn_of set other) = ap (λ (k : ℕ). loud (txn_of set k)) e in inr (omega (arith, same)))
    | inr ne ↦ inl ((up.below t less ne).1 low)
  ]

  blocked-up : blocking (with_prios q set) (q tx) ≤ max (loud (txn_of set other)) (blocking (with_prios p set) (p tx))
  blocked-up = blocking_le set q p (q tx) (p tx) some-q reach-up (loud (txn_of set other)) low-up

  pub less-demand : (w : ℕ) → 1 ≤ w → demand (with_prios q set) tx w ≤ demand (with_prios p set) tx w
  less-demand w one =
      let times = ok.times other no_txn up.in_range in
      let own = (txn_of set other).steps in
      let first = div_ceil w (txn_of set other).period in
      let job : 1 * own ≤ first * own = mul-le-mul_right own (div_ceil-some (txn_of set other).period w times.period.0 one) in
      let higher : higher_demand (q tx) w (txns_with q set.txns) + first * own ≤ higher_demand (p tx) w (txns_with p set.txns) =
      higher_less (q tx) (p tx) w q p set.txns other up.in_range (omega (arith, up.after)) up.before (λ t less ne high. (up.above t less ne).1 high) in
      omega (arith, demand-with set p tx w inside, demand-with set q tx w inside, blocked-up, higher, job, times.steps.0)

  pub no-worse : IsNoWorse set p q tx
  no-worse = record { no_more = less-demand; no_later = less-response set p q tx inside less-demand }
