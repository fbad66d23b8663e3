-- The jobs released within a window of r ticks ask at most for the demand of r; the response found by trying each
-- window is the least that holds its demand.
use Rattle.std.proofs.Common.{◌≡◌, ◌≢◌, ℕ, zero, suc, ◌+◌, ◌*◌, ◌<◌, ◌≤◌, Bool, true, false, cond, List, [], ◌∷◌, length, None, Some, refl, ap, sym, inl, inr, arith, suc-mul, one-mul, mul-le-mul_right, lt_of_mul-lt-mul_right}
use Rattle.std.proofs.lemmas.List.{get_or_past}
use Rattle.std.proofs.lemmas.Bool.{cases_order, cases_lt, lt-ltb, leb-true, leb-false}
use Rattle.std.proofs.lemmas.Grind.{div_ceil_times}
use Rattle.std.specs.Prelude.{nat_le, nat_lt}
use Rattle.std.specs.Int.{div_ceil}
use Rattle.txn_set.specs.declared.decl.TxnDecl.{TxnDecl}
use Rattle.std.specs.List.{All}
use Rattle.txn_set.specs.Set.{Set, no_txn, txn_of, HasGoodTimes, IsCompiled}
use Rattle.txn_set.specs.Ceilings.{blocking}
use Rattle.law_histories.proofs.Calendar.{times_at}
use Rattle.law_times.specs.Response.{part_of, higher_demand, demand, HoldsDemand, first_window, response, IsResponse}
use Rattle.law_histories.proofs.Sums.{sum_but_one, sum_of, sum_places}
use Rattle.law_times.proofs.Load.{todo_if, load, work, work_is}

abbrev pub level : Set → ℕ → ℕ
level set tx = (txn_of set tx).prio

abbrev pub period_at : Set → ℕ → ℕ
period_at set n = (txn_of set n).period

-- numbers

pub few_rounds : (c period r n : ℕ) → r ≤ n * period → c * period < r + period → c ≤ n
few_rounds c period r n cover lt =
    let l : c * period < suc n * period = omega (arith, suc-mul n period) in
    let k : c < suc n = lt_of_mul-lt-mul_right period l in
    omega arith

todo_le : (b : Bool) (n : ℕ) → todo_if b n ≤ n
todo_le true n = omega arith
todo_le false n = omega arith

one_round : (c s : ℕ) → c ≤ 1 → c * s ≤ s
one_round c s le = let m : c * s ≤ 1 * s = mul-le-mul_right s le in omega (arith, one-mul s)

-- a transaction of the set, by its deadline

in_set_at : (set : Set) (tx r : ℕ) → 1 ≤ r → r ≤ (txn_of set tx).deadline → length set.txns ≤ tx → ⊥
in_set_at set tx r pos le past = let e : txn_of set tx ≡ no_txn = get_or_past set.txns tx no_txn past in omega (arith, ap (λ (t : TxnDecl). t.deadline) e)

pub holds_in_set : (set : Set) (tx r : ℕ) → HoldsDemand set tx r → tx < length set.txns
holds_in_set set tx r h = elim (cases_lt tx (length set.txns)) [ inl lt ↦ lt | inr past ↦ absurd (in_set_at set tx r h.positive h.in_deadline past) ]

-- different transactions have different priorities
pub other_prio : (set : Set) (m n : ℕ) → IsCompiled set → m < length set.txns → n < length set.txns → m ≢ n → level set m ≢ level set n
other_prio set m n ok a b ne e =
    elim (cases_order m n) [ inl same ↦ ne same | inr o ↦ elim o [ inl lt ↦ ok.prios m n no_txn lt b e | inr gt ↦ ok.prios n m no_txn gt a (sym e) ] ]

-- the sum over the list is that over the numbers

demand_sum : (p w : ℕ) (ts : List TxnDecl) → higher_demand p w ts ≡ sum_of (part_of p w) ts
demand_sum p w [] = refl
demand_sum p w (t ∷ ts) = ap (λ (n : ℕ). part_of p w t + n) (demand_sum p w ts)

part_higher : (p w : ℕ) (t : TxnDecl) → p < t.prio → part_of p w t ≡ div_ceil w t.period * t.steps
part_higher p w t lt = ap (λ (b : Bool). cond b (div_ceil w t.period * t.steps) 0) (lt-ltb _ _ lt)

module _ (set : Set) (tx r : ℕ) (ok : IsCompiled set) (holds : HoldsDemand set tx r) (count : ℕ → ℕ) (start t : ℕ) (marks : (n : ℕ) → start + count n * period_at set n ≤ t + period_at set n) (full : t + 1 ≡ start + r) where
  short : (n : ℕ) → count n * period_at set n < r + period_at set n
  short n = omega (arith, marks n, full)

  other_at : (n : ℕ) (b : Bool) → n < length set.txns → n ≢ tx → nat_le (level set tx) (level set n) ≡ b → todo_if b (count n * (txn_of set n).steps) ≤ part_of (level set tx) r (txn_of set n)
  other_at n false lt ne e = omega arith
  other_at n true lt ne e =
      let le : level set tx ≤ level set n = leb-true _ _ e in
      let apart : level set n ≢ level set tx = other_prio set n tx ok lt (holds_in_set set tx r holds) ne in
      let above : level set tx < level set n = omega arith in
      let pos : 0 < period_at set n = (times_at set n ok lt).period.0 in
      let c : count n ≤ div_ceil r (period_at set n) = few_rounds (count n) (period_at set n) r (div_ceil r (period_at set n)) (div_ceil_times r (period_at set n) pos).0 (short n) in
      let m : count n * (txn_of set n).steps ≤ div_ceil r (period_at set n) * (txn_of set n).steps = mul-le-mul_right (txn_of set n).steps c in
      omega (arith, part_higher (level set tx) r (txn_of set n) above, m)

  own : load set (level set tx) count tx ≤ part_of (level set tx) r (txn_of set tx) + (txn_of set tx).steps
  own =
      let le : (txn_of set tx).deadline ≤ period_at set tx = (times_at set tx ok (holds_in_set set tx r holds)).deadline.1 in
      let in_d : r ≤ (txn_of set tx).deadline = holds.in_deadline in
      let c : count tx ≤ 1 = few_rounds (count tx) (period_at set tx) r 1 (omega (arith, one-mul (period_at set tx))) (short tx) in
      omega (arith, todo_le (nat_le (level set tx) (level set tx)) (count tx * (txn_of set tx).steps), one_round (count tx) (txn_of set tx).steps c)

  -- what was released in a full window is within the demand
  pub work_bound : work set (level set tx) count ≤ (txn_of set tx).steps + higher_demand (level set tx) r set.txns
  work_bound =
      let s = sum_but_one (load set (level set tx) count) (λ n. part_of (level set tx) r (txn_of set n)) (txn_of set tx).steps tx (length set.txns) (λ n lt ne. other_at n (nat_le (level set tx) (level set n)) lt ne refl) own in
      omega (arith, work_is set (level set tx) count, s, sum_places (part_of (level set tx) r) set.txns no_txn, demand_sum (level set tx) r set.txns)

-- so a window in which jobs are still pending is not full
pub not_full : (set : Set) (tx r : ℕ) → IsCompiled set → HoldsDemand set tx r → (count : ℕ → ℕ) (start t pending low : ℕ) → ((n : ℕ) → start + count n * period_at set n ≤ t + period_at set n)
    → t + 1 + pending + low ≤ start + blocking set (level set tx) + work set (level set tx) count → 0 < pending → t < start + r → t + 1 < start + r
unfolding demand
not_full set tx r ok holds count start t pending low marks budget pos within =
    elim (cases_lt (t + 1) (start + r)) [
      | inl lt ↦ lt
      | inr ge ↦ (let full : t + 1 ≡ start + r = omega arith in
          let b = work_bound set tx r ok holds count start t marks full in
          let d : (txn_of set tx).steps + blocking set (level set tx) + higher_demand (level set tx) r set.txns ≤ r = holds.enough in
          absurd (omega arith))
    ]

-- the response that is found by trying

found_at : (set : Set) (tx w n r : ℕ) (b : Bool) → nat_le (demand set tx w) w ≡ b → cond b (Some w) (first_window set tx (w + 1) n) ≡ Some r
    → (first_window set tx (w + 1) n ≡ Some r → (w + 1 ≤ r) × (r < w + 1 + n) × (demand set tx r ≤ r) × ((v : ℕ) → w + 1 ≤ v → demand set tx v ≤ v → r ≤ v))
    → (w ≤ r) × (r < w + suc n) × (demand set tx r ≤ r) × ((v : ℕ) → w ≤ v → demand set tx v ≤ v → r ≤ v)
found_at set tx w n r true e h rest =
    let is : w ≡ r = cc in
    let le : demand set tx w ≤ w = leb-true _ _ e in
    (omega arith, omega arith, omega (arith, le, ap (demand set tx) is), λ v a d. omega arith)
found_at set tx w n r false e h rest =
    let f = rest h in
    let above : w < demand set tx w = leb-false _ _ e in
    (omega (arith, f.0), omega (arith, f.1), f.2, λ v a d. f.3 v (later v a d above) d) where
      later : (v : ℕ) → w ≤ v → demand set tx v ≤ v → w < demand set tx w → w + 1 ≤ v
      later v a d above = elim (cases_lt w v) [ inl lt ↦ omega arith | inr ge ↦ absurd (let e : v ≡ w = omega arith in omega (arith, ap (demand set tx) e)) ]

found : (set : Set) (tx w n r : ℕ) → first_window set tx w n ≡ Some r → (w ≤ r) × (r < w + n) × (demand set tx r ≤ r) × ((v : ℕ) → w ≤ v → demand set tx v ≤ v → r ≤ v)
found set tx w zero r h = absurd cc
found set tx w (suc n) r h = found_at set tx w n r (nat_le (demand set tx w) w) refl h (found set tx (w + 1) n r)

pub response_found : (set : Set) (tx r : ℕ) → response set tx ≡ Some r → IsResponse set tx r
unfolding response
response_found set tx r h =
    let f = found set tx 1 (txn_of set tx).deadline r h in
    record { holds = record { positive = f.0; in_deadline = omega (arith, f.1); enough = f.2 }; least = λ w o. f.3 w o.positive o.enough }

none_at : (set : Set) (tx w n : ℕ) (b : Bool) → nat_le (demand set tx w) w ≡ b → cond b (Some w) (first_window set tx (w + 1) n) ≡ None
    → (first_window set tx (w + 1) n ≡ None → (v : ℕ) → w + 1 ≤ v → v < w + 1 + n → v < demand set tx v) → (v : ℕ) → w ≤ v → v < w + suc n → v < demand set tx v
none_at set tx w n true e h rest v a b = absurd cc
none_at set tx w n false e h rest v a b =
    let above : w < demand set tx w = leb-false _ _ e in
    elim (cases_lt w v) [ inl lt ↦ rest h v (omega arith) (omega arith) | inr ge ↦ (let same : v ≡ w = omega arith in omega (arith, ap (demand set tx) same)) ]

none_found : (set : Set) (tx w n : ℕ) → first_window set tx w n ≡ None → (v : ℕ) → w ≤ v → v < w + n → v < demand set tx v
none_found set tx w zero h v a b = absurd (omega arith)
none_found set tx w (suc n) h v a b = none_at set tx w n (nat_le (demand set tx w) w) refl h (none_found set tx (w + 1) n) v a b

pub response_none : (set : Set) (tx : ℕ) → response set tx ≡ None → (w : ℕ) → ¬ HoldsDemand set tx w
unfolding response
response_none set tx h w o = let d = none_found set tx 1 (txn_of set tx).deadline h w o.positive (omega (arith, o.in_deadline)) in omega (arith, d, o.enough)

-- the demand grows with the window

ceil_grows : (w v period : ℕ) → 0 < period → w ≤ v → div_ceil w period ≤ div_ceil v period
ceil_grows w v period pos le =
    let a = div_ceil_times w period pos in
    let b = div_ceil_times v period pos in
    few_rounds (div_ceil w period) period w (div_ceil v period) (omega (arith, le, b.0)) (omega (arith, a.1))

part_grows_at : (b : Bool) (w v : ℕ) (t : TxnDecl) → div_ceil w t.period ≤ div_ceil v t.period → cond b (div_ceil w t.period * t.steps) 0 ≤ cond b (div_ceil v t.period * t.steps) 0
part_grows_at true w v t le = mul-le-mul_right t.steps le
part_grows_at false w v t le = omega arith

higher_grows : (p w v : ℕ) (ts : List TxnDecl) → All HasGoodTimes ts → w ≤ v → higher_demand p w ts ≤ higher_demand p v ts
higher_grows p w v [] good le = omega arith
higher_grows p w v (t ∷ ts) good le =
    let pos : 0 < t.period = (good zero t (omega arith)).period.0 in
    omega (arith, part_grows_at (nat_lt p t.prio) w v t (ceil_grows w v t.period pos le), higher_grows p w v ts (λ n d lt. good (suc n) d (omega arith)) le)

pub demand_grows : (set : Set) (tx w v : ℕ) → IsCompiled set → w ≤ v → demand set tx w ≤ demand set tx v
unfolding demand
demand_grows set tx w v ok le = omega (arith, higher_grows (level set tx) w v set.txns ok.times le)

pub response_reached : (set : Set) (tx r w : ℕ) → IsCompiled set → HoldsDemand set tx r → w ≤ r → demand set tx w ≤ r
response_reached set tx r w ok holds le = omega (arith, demand_grows set tx w r ok le, holds.enough)
