-- The search by halves finds the margin.
use Rattle.std.proofs.Common.{◌≡◌, ℕ, zero, suc, ◌+◌, ◌-◌, ◌*◌, ◌%◌, ◌^◌, ◌<◌, ◌≤◌, Bool, true, false, cond, Option, None, Some, is_none, inl, inr, refl, sym, ◌∙◌, ap, subst, ⊎_elim, arith, min, pow_pos, pow_mono}
use Rattle.std.proofs.Math.Pow.{shl_exact}
use Rattle.std.proofs.lemmas.Bool.{cases_lt, le-leb, lt-leb}
use Rattle.txn_set.specs.Set.{Set, IsCompiled}
use Rattle.scale_margin.specs.declared.barrier.Barrier.{Barrier}
use Rattle.scale_margin.specs.declared.barrier.Margin.{Margin}
use Rattle.scale_margin.specs.Barriers.{barrier_at, IsCause}
use Rattle.scale_margin.specs.Margins.{accepted_to, percent_of, barrier_within, IsMargin, IsBetween}
use Rattle.scale_margin.proofs.Percents.{accepted_falls_once}

within_is : (set : Set) (k : ℕ) → k ≤ 1000 → barrier_within set k ≡ barrier_at set k
within_is set k le = rw (le-leb k 1000 le) refl

above_is : (set : Set) (k : ℕ) → 1000 < k → barrier_within set k ≡ None
above_is set k lt = rw (lt-leb k 1000 lt) refl

-- the steps of the search

pub between_first : (set : Set) (found : Margin) → found.percent ≡ 0 → found.barrier ≡ None → IsBetween set 1024 found
between_first set found start none = record {
  in_range = omega (arith, start);
  low = inl start;
  high = none ∙ sym (above_is set (found.percent + 1024) (omega arith));
  refused = λ h. omega arith;
  cause = (λ e. cc, λ e. cc);
}

-- the half would lead above 1000
pub between_above : (set : Set) (half : ℕ) (found : Margin) → IsBetween set (half + half) found → 1000 < found.percent + half → IsBetween set half found
between_above set half found h above = record {
  in_range = h.in_range;
  low = h.low;
  high = h.high ∙ above_is set (found.percent + (half + half)) (omega arith) ∙ sym (above_is set (found.percent + half) above);
  refused = λ none. omega arith;
  cause = h.cause;
}

pub between_accepted : (set : Set) (half : ℕ) (found next : Margin) → IsBetween set (half + half) found → found.percent + half ≤ 1000 → next.percent ≡ found.percent + half → next.barrier ≡ found.barrier
    → barrier_at set (found.percent + half) ≡ None → IsBetween set half next
between_accepted set half found next h within percent barrier none = record {
  in_range = omega (arith, percent, within);
  low = inr (ap (barrier_at set) percent ∙ none);
  high = barrier ∙ h.high ∙ ap (barrier_within set) here;
  refused = λ e. let r = h.refused (sym barrier ∙ e) in omega (arith, r, percent);
  cause = subst IsCause (sym barrier) h.cause;
}
  where
    here : found.percent + (half + half) ≡ next.percent + half
    here = omega (arith, percent)

pub between_refused : (set : Set) (half : ℕ) (found next : Margin) → IsBetween set (half + half) found → found.percent + half ≤ 1000 → next.percent ≡ found.percent → next.barrier ≡ barrier_at set (found.percent + half)
    → (next.barrier ≡ None → ⊥) → IsCause next.barrier → IsBetween set half next
between_refused set half found next h within percent barrier some cause = record {
  in_range = omega (arith, percent, h.in_range);
  low = ⊎_elim (λ (z : found.percent ≡ 0). inl (percent ∙ z)) (λ (n : barrier_at set found.percent ≡ None). inr (ap (barrier_at set) percent ∙ n)) h.low;
  high = barrier ∙ sym (within_is set (found.percent + half) within) ∙ ap (λ (k : ℕ). barrier_within set (k + half)) (sym percent);
  refused = λ e. absurd (some e);
  cause = cause;
}

-- the spans of the search

pub half_small : (bit : ℕ) → 0 < bit → bit ≤ 10 → (1 ≤ 1 * 2 ^ (bit - 1) % 4294967296) × (1 * 2 ^ (bit - 1) % 4294967296 ≤ 512)
half_small bit some few =
    let exact : 1 * 2 ^ (bit - 1) % 4294967296 ≡ 1 * 2 ^ (bit - 1) = shl_exact {a = 1} 1 (bit - 1) 32 (omega arith) (omega arith) in
    let least : 0 < 2 ^ (bit - 1) = pow_pos (bit - 1) in
    let most : 2 ^ (bit - 1) ≤ 2 ^ 9 = pow_mono {i = bit - 1} {j = 9} (omega arith) in
    (omega (arith, exact, least), omega (arith, exact, most))

pub between_last : (set : Set) (bit : ℕ) (found : Margin) → bit ≤ 0 → IsBetween set (2 ^ bit) found → IsBetween set 1 found
between_last set bit found none h =
    let e : bit ≡ 0 = omega arith in
    subst (λ (n : ℕ). IsBetween set n found) (ap (λ (k : ℕ). 2 ^ k) e) h

-- the end of the search

abbrev one_if : Bool → ℕ
one_if b = cond b 1 0

some-not : (o : Option Barrier) → (o ≡ None → ⊥) → is_none o ≡ false
some-not None h = absurd (h refl)
some-not (Some x) h = refl

none-is : (o : Option Barrier) → o ≡ None → is_none o ≡ true
none-is o h = rw h refl

module _ (set : Set) (ok : IsCompiled set) (found : Margin) (h : IsBetween set 1 found) where
  up : (k : ℕ) → 1 ≤ k → k ≤ found.percent → barrier_at set k ≡ None
  up k one le =
      ⊎_elim (λ (z : found.percent ≡ 0). absurd (omega (arith, z)))
      (λ (none : barrier_at set found.percent ≡ None). accepted_falls_once set found.percent k ok one le none) h.low

  down : (k : ℕ) → k ≤ 1000 → barrier_at set k ≡ None → k ≤ found.percent
  down k le none =
      ⊎_elim
      (λ (above : found.percent < k).
      let next = accepted_falls_once set k (found.percent + 1) ok (omega arith) (omega arith) none in
      let barrier : found.barrier ≡ None = h.high ∙ within_is set (found.percent + 1) (omega arith) ∙ next in
      let past = h.refused barrier in
      absurd (omega (arith, past)))
      (λ (below : k ≤ found.percent). below)
      (cases_lt found.percent k)

  count : (n : ℕ) → n ≤ 1000 → accepted_to set n ≡ min n found.percent
  unfolding accepted_to
  count zero le = omega arith
  count (suc n) le =
      let rest = count n (omega arith) in
      ⊎_elim
      (λ (above : found.percent < suc n).
      let no : is_none (barrier_at set (suc n)) ≡ false = some-not _ (λ e. let d = down (suc n) le e in omega (arith, d)) in
      let e : one_if (is_none (barrier_at set (suc n))) ≡ 0 = ap one_if no in
      omega (arith, rest, e))
      (λ (below : suc n ≤ found.percent).
      let yes : is_none (barrier_at set (suc n)) ≡ true = none-is _ (up (suc n) (omega arith) below) in
      let e : one_if (is_none (barrier_at set (suc n))) ≡ 1 = ap one_if yes in
      omega (arith, rest, e))
      (cases_lt found.percent (suc n))

  counted : found.percent ≡ percent_of set
  unfolding percent_of
  counted = let c = count 1000 (omega arith) in omega (arith, c, h.in_range)

  full : found.percent ≡ 1000 → found.barrier ≡ None
  full e = h.high ∙ above_is set (found.percent + 1) (omega arith)

  pub is_margin : IsMargin set found
  is_margin = record {
    percent = counted;
    in_range = h.in_range;
    accepted = λ k one le. (down k le, up k one);
    barrier = h.high;
    cause = h.cause;
    none_above = (λ none. let past = h.refused none in omega (arith, past, h.in_range), full);
  }
