-- The search by halves finds the slack.
use Rattle.std.proofs.Common.{◌≡◌, ℕ, zero, suc, ◌+◌, ◌-◌, ◌*◌, ◌%◌, ◌^◌, ◌<◌, ◌≤◌, true, false, Option, None, Some, is_none, refl, sym, ◌∙◌, ap, subst, ⊎_elim, arith, pow_pos, pow_mono, length}
use Rattle.std.proofs.Math.Pow.{shl_exact}
use Rattle.std.proofs.lemmas.Bool.{cases_lt, le-leb, lt-leb}
use Rattle.set_admission.specs.declared.error.AdmitError.{AdmitError}
use Rattle.set_admission.specs.Bounds.{MeetsAdmission}
use Rattle.set_admission.specs.Admission.{refusal}
use Rattle.set_admission.proofs.Admitted.{decided}
use Rattle.txn_set.specs.Set.{Set, no_txn, txn_of, IsCompiled}
use Rattle.scale_margin.specs.declared.limits.Slack.{Slack}
use Rattle.scale_margin.specs.Steps.{IsCount, barrier_at, barrier_within}
use Rattle.scale_margin.specs.Slacks.{most_from, most_steps, IsSlack, IsBetween}
use Rattle.scale_margin.proofs.Counts.{same_at_own, slack_unless_barred, barred_rises}

within_is : (s : Set) (tx k : ℕ) → k ≤ 10000 → barrier_within s tx k ≡ barrier_at s tx k
within_is s tx k le = rw (le-leb k 10000 le) refl

above_is : (s : Set) (tx k : ℕ) → 10000 < k → barrier_within s tx k ≡ None
above_is s tx k lt = rw (lt-leb k 10000 lt) refl

-- the steps of the search

pub between_first : (s : Set) (tx : ℕ) (found : Slack) → IsCompiled s → MeetsAdmission s → tx < length s.txns → found.steps ≡ (txn_of s tx).steps → found.most ≡ (txn_of s tx).steps → found.barrier ≡ None
    → IsBetween s tx 16384 found
unfolding barrier_at
between_first s tx found ok meets inside steps most none =
    let own = ok.times tx no_txn inside in
    record {
      steps = steps;
      least = omega (arith, steps, most);
      in_range = omega (arith, most, own.steps.1);
      low = ap (barrier_at s tx) most ∙ (ap refusal (same_at_own s tx inside) ∙ (decided s ok).by_found.1 meets);
      high = none ∙ sym (above_is s tx (found.most + 16384) (omega arith));
      refused = λ h. omega arith;
    }

-- the half would lead above 10,000
pub between_above : (s : Set) (tx half : ℕ) (found : Slack) → IsBetween s tx (half + half) found → 10000 < found.most + half → IsBetween s tx half found
between_above s tx half found h above = record {
  steps = h.steps;
  least = h.least;
  in_range = h.in_range;
  low = h.low;
  high = h.high ∙ above_is s tx (found.most + (half + half)) (omega arith) ∙ sym (above_is s tx (found.most + half) above);
  refused = λ none. omega arith;
}

pub between_accepted : (s : Set) (tx half : ℕ) (found next : Slack) → IsBetween s tx (half + half) found → found.most + half ≤ 10000 → next.steps ≡ found.steps → next.most ≡ found.most + half → next.barrier ≡ found.barrier
    → barrier_at s tx (found.most + half) ≡ None → IsBetween s tx half next
between_accepted s tx half found next h within steps most barrier none = record {
  steps = steps ∙ h.steps;
  least = omega (arith, steps, most, h.least);
  in_range = omega (arith, most, within);
  low = ap (barrier_at s tx) most ∙ none;
  high = barrier ∙ h.high ∙ ap (barrier_within s tx) here;
  refused = λ e. let r = h.refused (sym barrier ∙ e) in omega (arith, r, most);
}
  where
    here : found.most + (half + half) ≡ next.most + half
    here = omega (arith, most)

pub between_refused : (s : Set) (tx half : ℕ) (found next : Slack) → IsBetween s tx (half + half) found → found.most + half ≤ 10000 → next.steps ≡ found.steps → next.most ≡ found.most → next.barrier ≡ barrier_at s tx (found.most + half)
    → (next.barrier ≡ None → ⊥) → IsBetween s tx half next
between_refused s tx half found next h within steps most barrier some = record {
  steps = steps ∙ h.steps;
  least = omega (arith, steps, most, h.least);
  in_range = omega (arith, most, h.in_range);
  low = ap (barrier_at s tx) most ∙ h.low;
  high = barrier ∙ sym (within_is s tx (found.most + half) within) ∙ ap (λ (k : ℕ). barrier_within s tx (k + half)) (sym most);
  refused = λ e. absurd (some e);
}

-- the spans of the search

pub half_small : (bit : ℕ) → 0 < bit → bit ≤ 14 → (1 ≤ 1 * 2 ^ (bit - 1) % 18446744073709551616) × (1 * 2 ^ (bit - 1) % 18446744073709551616 ≤ 8192)
half_small bit some few =
    let exact : 1 * 2 ^ (bit - 1) % 18446744073709551616 ≡ 1 * 2 ^ (bit - 1) = shl_exact {a = 1} 1 (bit - 1) 64 (omega arith) (omega arith) in
    let least : 0 < 2 ^ (bit - 1) = pow_pos (bit - 1) in
    let most : 2 ^ (bit - 1) ≤ 2 ^ 13 = pow_mono {i = bit - 1} {j = 13} (omega arith) in
    (omega (arith, exact, least), omega (arith, exact, most))

pub between_last : (s : Set) (tx bit : ℕ) (found : Slack) → bit ≤ 0 → IsBetween s tx (2 ^ bit) found → IsBetween s tx 1 found
between_last s tx bit found none h =
    let e : bit ≡ 0 = omega arith in
    subst (λ (n : ℕ). IsBetween s tx n found) (ap (λ (k : ℕ). 2 ^ k) e) h

-- a count that is tried
pub count_of : (s : Set) (tx k : ℕ) → IsCompiled s → tx < length s.txns → (txn_of s tx).steps ≤ k → k ≤ 10000 → IsCount s tx k
count_of s tx k ok inside least most =
    let own = ok.times tx no_txn inside in
    record { there = inside; quiet = omega (arith, own.quiet, least); range = most }

-- the end of the search

some-not : (o : Option AdmitError) → (o ≡ None → ⊥) → is_none o ≡ false
some-not None h = absurd (h refl)
some-not (Some x) h = refl

none-is : (o : Option AdmitError) → o ≡ None → is_none o ≡ true
none-is o h = rw h refl

module _ (s : Set) (tx : ℕ) (ok : IsCompiled s) (inside : tx < length s.txns) (found : Slack) (h : IsBetween s tx 1 found) where
  counts : (k : ℕ) → found.steps ≤ k → k ≤ 10000 → IsCount s tx k
  counts k least most = count_of s tx k ok inside (omega (arith, h.steps, least)) most

  up : (k : ℕ) → found.steps ≤ k → k ≤ found.most → barrier_at s tx k ≡ None
  up k least le =
      barred_rises s tx k found.most ok (counts k least (omega (arith, le, h.in_range))) (counts found.most h.least h.in_range) le h.low

  down : (k : ℕ) → found.steps ≤ k → k ≤ 10000 → barrier_at s tx k ≡ None → k ≤ found.most
  down k least le none =
      ⊎_elim
      (λ (above : found.most < k).
      let next = barred_rises s tx (found.most + 1) k ok (counts (found.most + 1) (omega (arith, h.least)) (omega arith)) (counts k least le) (omega arith) none in
      let barrier : found.barrier ≡ None = h.high ∙ within_is s tx (found.most + 1) (omega arith) ∙ next in
      let past = h.refused barrier in
      absurd (omega (arith, past)))
      (λ (below : k ≤ found.most). below)
      (cases_lt found.most k)

  search_from : (n k : ℕ) → found.steps ≤ k → k ≤ found.most → k + n ≡ 10000 → most_from s tx k n ≡ found.most
  unfolding most_from
  search_from zero k least le e = omega (arith, e, h.in_range)
  search_from (suc n) k least le e =
      ⊎_elim
      (λ (more : k < found.most).
      let yes : is_none (barrier_at s tx (k + 1)) ≡ true = none-is _ (up (k + 1) (omega arith) (omega arith)) in
      rw yes (search_from n (k + 1) (omega arith) (omega arith) (omega (arith, e))))
      (λ (last : found.most ≤ k).
      let no : is_none (barrier_at s tx (k + 1)) ≡ false = some-not _ (λ none. let d = down (k + 1) (omega arith) (omega (arith, e)) none in omega (arith, d)) in
      rw no (omega arith))
      (cases_lt k found.most)

  most_is : found.most ≡ most_steps s tx
  unfolding most_steps
  most_is =
      sym (ap (λ (n : ℕ). most_from s tx n (10000 - n)) (sym h.steps) ∙ search_from (10000 - found.steps) found.steps (omega arith) h.least (omega (arith, h.least, h.in_range)))

  full : found.most ≡ 10000 → found.barrier ≡ None
  full e = h.high ∙ above_is s tx (found.most + 1) (omega arith)

  pub is_slack : IsSlack s tx found
  is_slack = record {
    steps = h.steps;
    most = most_is;
    least = h.least;
    in_range = h.in_range;
    accepted = λ k least le.
        let rule = slack_unless_barred s tx k ok (counts k least le) in
        (λ is. down k least le (rule.1 is), λ below. rule.0 (up k least below));
    barrier = h.high;
    none_above = (λ none. let past = h.refused none in omega (arith, past, h.in_range), full);
  }
