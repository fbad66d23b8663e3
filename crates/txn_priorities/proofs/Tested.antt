-- The window that is found for a transaction, and its demand, are those of the test in the middle.
use Rattle.std.proofs.Common.{◌≡◌, ◌≢◌, ℕ, suc, ◌+◌, ◌-◌, ◌*◌, ◌^◌, ◌<◌, ◌≤◌, ◌⊎◌, inl, inr, true, false, not, ◌&&◌, ◌==◌, List, [], ◌∷◌, ◌++◌, map, length, set as put, drop, subst, mul-le-mul_right, Option, None, Some, is_some, refl, sym, ◌∙◌, ap, arith, append_assoc}
use Rattle.std.proofs.lemmas.Bool.{cases_lt, cases_eq, le-leb, lt-leb, leb-true, lt-ltb, le-ltb, eqb-true, eqb-false, and_parts, and_cases, not-true, not-false, true≢false}
use Rattle.std.proofs.Math.Nat.{mul-le-mul}
use Rattle.std.specs.Prelude.{nat_le, IsSome}
use Rattle.std.specs.List.{filter, range_with_len}
use Rattle.std.specs.Int.{div_ceil}
use Rattle.txn_set.specs.declared.decl.TxnDecl.{TxnDecl}
use Rattle.txn_set.specs.Set.{Set, txn_of, IsCompiled}
use Rattle.txn_set.specs.Ceilings.{blocking}
use Rattle.law_times.specs.Response.{part_of, higher_demand, demand, HoldsDemand, response}
use Rattle.law_times.proofs.Demand.{response_found, response_none}
use Rattle.response_test.specs.Response.{least_from}
use Rattle.response_test.specs.declared.windows.Load.{Load}
use Rattle.response_test.specs.Loads.{uses, window}
use Rattle.response_test.proofs.Least.{IsLeastFrom, least_from-is, least_from-fails}
use Rattle.response_test.proofs.Quotients.{div_ceil-le}
use Rattle.law_times.specs.Pass.{trial, is_placed, is_within, passes, first_passing, left, pass_to, pass, AreGiven, IsStuck}
use Rattle.law_times.specs.Laws.{IsSolved, NoneKeeps}
use Rattle.law_times.proofs.Deciding.{pass-decides}
use Rattle.law_times.proofs.PriorityLevels.{given-to, passing-is}
use Rattle.law_times.proofs.Moving.{demand-with, deadline-with}
use Rattle.law_times.proofs.Exchanging.{trial-lowest, trial-own, trial-other}
use Rattle.txn_priorities.specs.Limits.{limit}
use Rattle.txn_priorities.proofs.Limited.{limit-le}
use Rattle.txn_priorities.specs.Around.{around_set, trial_set, StandForHigher}
use Rattle.txn_priorities.specs.declared.refusal.Unplaced.{Unplaced}
use Rattle.txn_priorities.specs.Answers.{unplaced_at}
use Rattle.txn_priorities.proofs.Above.{rest-with, none-with, blocking-trial}

-- the demand

pub demand-trial : (set : Set) (prios : List ℕ) (tx w : ℕ) → tx < length set.txns → is_placed prios tx ≡ false
    → demand (trial_set set prios tx) tx w ≡ (txn_of set tx).steps + blocking (around_set set prios) 2 + higher_demand 2 w (trial_set set prios tx).txns
demand-trial set prios tx w inside free =
    demand-with set (trial (is_placed prios) tx) tx w inside
    ∙ (ap (λ (l : ℕ). (txn_of set tx).steps + blocking (trial_set set prios tx) l + higher_demand l w (trial_set set prios tx).txns) (trial-own (is_placed prios) tx free)
    ∙ ap (λ (b : ℕ). (txn_of set tx).steps + b + higher_demand 2 w (trial_set set prios tx).txns) (blocking-trial set prios tx free))

-- one more of the others

part-over : (w : ℕ) (t : TxnDecl) → 2 < t.prio → part_of 2 w t ≡ div_ceil w t.period * t.steps
part-over w t over = rw (lt-ltb 2 t.prio over) refl

part-under : (w : ℕ) (t : TxnDecl) → t.prio ≤ 2 → part_of 2 w t ≡ 0
part-under w t under = rw (le-ltb 2 t.prio under) refl

abbrev pub others : Set → List ℕ → (tx w i : ℕ) → ℕ
others set prios tx w i = higher_demand 2 w (drop i (trial_set set prios tx).txns)

rest-of : (set : Set) (prios : List ℕ) (tx w i : ℕ) → i < length set.txns → others set prios tx w i ≡ part_of 2 w (record (txn_of set i) { prio = trial (is_placed prios) tx i }) + others set prios tx w (i + 1)
rest-of set prios tx w i inside = ap (λ (ts : List TxnDecl). higher_demand 2 w ts) (rest-with (trial (is_placed prios) tx) set.txns i inside)

pub others-more : (set : Set) (prios : List ℕ) (tx w i : ℕ) → i < length set.txns → i ≢ tx → is_placed prios i ≡ false → others set prios tx w i ≡ div_ceil w (txn_of set i).period * (txn_of set i).steps + others set prios tx w (i + 1)
others-more set prios tx w i inside ne free =
    let three = trial-other (is_placed prios) tx i free ne in
    let part = part-over w (record (txn_of set i) { prio = trial (is_placed prios) tx i }) (omega (arith, three)) in
    omega (arith, rest-of set prios tx w i inside, part)

pub others-same : (set : Set) (prios : List ℕ) (tx w i : ℕ) → i < length set.txns → is_placed prios tx ≡ false → (i ≡ tx) ⊎ (is_placed prios i ≡ true) → others set prios tx w i ≡ others set prios tx w (i + 1)
others-same set prios tx w i inside free h =
    let low : trial (is_placed prios) tx i ≤ 2 = elim h [
      | inl e ↦ (let two : trial (is_placed prios) tx i ≡ 2 = ap (trial (is_placed prios) tx) e ∙ trial-own (is_placed prios) tx free in omega (arith, two))
      | inr e ↦ (let one = trial-lowest (is_placed prios) tx i e in omega (arith, one))
    ] in
    let part = part-under w (record (txn_of set i) { prio = trial (is_placed prios) tx i }) low in
    omega (arith, rest-of set prios tx w i inside, part)

pub others-none : (set : Set) (prios : List ℕ) (tx w i : ℕ) → length set.txns ≤ i → others set prios tx w i ≡ 0
others-none set prios tx w i past = rw (none-with (trial (is_placed prios) tx) set.txns i past) refl

-- the loops over those above

pub above-is : (prios : List ℕ) (other tx : ℕ) → (not (other == tx) && not (is_placed prios other)) ≡ true → (other ≢ tx) × (is_placed prios other ≡ false)
above-is prios other tx e =
    let parts = and_parts (not (other == tx)) (not (is_placed prios other)) e in
    (eqb-false other tx (not-true (other == tx) parts.0), not-true (is_placed prios other) parts.1)

pub above-not : (prios : List ℕ) (other tx : ℕ) → (not (other == tx) && not (is_placed prios other)) ≡ false → (other ≡ tx) ⊎ (is_placed prios other ≡ true)
above-not prios other tx e = elim (and_cases (not (other == tx)) (not (is_placed prios other)) e) [
  | inl a ↦ inl (eqb-true other tx (not-false (other == tx) a))
  | inr b ↦ inr (not-false (is_placed prios other) b)
]

pub loads-start : (set : Set) (prios : List ℕ) (tx w : ℕ) (loads : List Load) → loads ≡ [] → uses w loads + others set prios tx w 0 ≡ others set prios tx w 0
loads-start set prios tx w loads e = let none : uses w loads ≡ 0 = ap (uses w) e in omega (arith, none)

pub loads-more : (set : Set) (prios : List ℕ) (tx w i steps period : ℕ) (loads more : List Load) → i < length set.txns → (not (i == tx) && not (is_placed prios i)) ≡ true → steps ≡ (txn_of set i).steps → period ≡ (txn_of set i).period
    → uses w more ≡ uses w loads + div_ceil w period * steps → uses w loads + others set prios tx w i ≡ others set prios tx w 0 → uses w more + others set prios tx w (i + 1) ≡ others set prios tx w 0
loads-more set prios tx w i steps period loads more inside e steps-is period-is is so-far =
    let above = above-is prios i tx e in
    let next = others-more set prios tx w i inside above.0 above.1 in
    let term : div_ceil w period * steps ≡ div_ceil w (txn_of set i).period * (txn_of set i).steps = rw (steps-is, period-is) refl in
    omega (arith, is, so-far, next, term)

pub loads-same : (set : Set) (prios : List ℕ) (tx w i : ℕ) (loads : List Load) → i < length set.txns → is_placed prios tx ≡ false → (not (i == tx) && not (is_placed prios i)) ≡ false
    → uses w loads + others set prios tx w i ≡ others set prios tx w 0 → uses w loads + others set prios tx w (i + 1) ≡ others set prios tx w 0
loads-same set prios tx w i loads inside free e so-far =
    let next = others-same set prios tx w i inside free (above-not prios i tx e) in
    omega (arith, so-far, next)

pub loads-end : (set : Set) (prios : List ℕ) (tx i : ℕ) (loads : List Load) → length set.txns ≤ i → ((w : ℕ) → uses w loads + others set prios tx w i ≡ others set prios tx w 0) → StandForHigher set prios tx loads
loads-end set prios tx i loads past so-far = λ w. omega (arith, so-far w, others-none set prios tx w i past)

pub demand-start : (set : Set) (prios : List ℕ) (tx w steps blocked : ℕ) → tx < length set.txns → is_placed prios tx ≡ false → steps ≡ (txn_of set tx).steps → blocked ≡ blocking (around_set set prios) 2
    → (steps + blocked) + others set prios tx w 0 ≡ demand (trial_set set prios tx) tx w
demand-start set prios tx w steps blocked inside free steps-is blocked-is = omega (arith, demand-trial set prios tx w inside free, steps-is, blocked-is)

pub demand-end : (set : Set) (prios : List ℕ) (tx w i total all : ℕ) → length set.txns ≤ i → total + others set prios tx w i ≡ all → total ≡ all
demand-end set prios tx w i total all past e = omega (arith, e, others-none set prios tx w i past)

pub demand-more : (set : Set) (prios : List ℕ) (tx w i term total all : ℕ) → i < length set.txns → (not (i == tx) && not (is_placed prios i)) ≡ true → term ≡ div_ceil w (txn_of set i).period * (txn_of set i).steps
    → total + others set prios tx w i ≡ all → (total + term) + others set prios tx w (i + 1) ≡ all
demand-more set prios tx w i term total all inside e is so-far =
    let above = above-is prios i tx e in
    let next = others-more set prios tx w i inside above.0 above.1 in
    omega (arith, so-far, next, is)

pub demand-same : (set : Set) (prios : List ℕ) (tx w i total all : ℕ) → i < length set.txns → is_placed prios tx ≡ false → (not (i == tx) && not (is_placed prios i)) ≡ false
    → total + others set prios tx w i ≡ all → total + others set prios tx w (i + 1) ≡ all
demand-same set prios tx w i total all inside free e so-far =
    let next = others-same set prios tx w i inside free (above-not prios i tx e) in
    omega (arith, so-far, next)

-- the window

module _ (set : Set) (prios : List ℕ) (tx : ℕ) (inside : tx < length set.txns) (free : is_placed prios tx ≡ false) (loads : List Load) (own most : ℕ) (stand : StandForHigher set prios tx loads)
    (own-is : own ≡ (txn_of set tx).steps + blocking (around_set set prios) 2) (low : most ≤ (txn_of set tx).deadline) where
  asks : (w : ℕ) → demand (trial_set set prios tx) tx w ≡ own + uses w loads
  asks w = omega (arith, demand-trial set prios tx w inside free, own-is, stand w)

  holds : (w : ℕ) → IsLeastFrom (λ v. nat_le (own + uses v loads) v) 1 most w → HoldsDemand (trial_set set prios tx) tx w
  holds w found =
      let enough : own + uses w loads ≤ w = leb-true (own + uses w loads) w found.passes in
      record {
        positive = found.low;
        in_deadline = omega (arith, found.high, low, deadline-with set (trial (is_placed prios) tx) tx inside);
        enough = omega (arith, enough, asks w);
      }

  fits-at : (o v : Option ℕ) → response (trial_set set prios tx) tx ≡ o → window loads own most ≡ v → is_some v ≡ is_within o most
  unfolding window
  fits-at None None e f = refl
  fits-at None (Some w) e f =
      let found = least_from-is (λ v. nat_le (own + uses v loads) v) 1 most w f in
      absurd (response_none (trial_set set prios tx) tx e w (holds w found))
  fits-at (Some r) None e f =
      let is = response_found (trial_set set prios tx) tx r e in
      elim (cases_lt most r) [
        | inl late ↦ sym (lt-leb r most late)
        | inr le ↦
            (let fails = least_from-fails (λ v. nat_le (own + uses v loads) v) 1 most f r is.holds.positive (omega (arith, le)) in
            let enough = le-leb (own + uses r loads) r (omega (arith, asks r, is.holds.enough)) in
            absurd (true≢false (sym enough ∙ fails)))
      ]
  fits-at (Some r) (Some w) e f =
      let found = least_from-is (λ v. nat_le (own + uses v loads) v) 1 most w f in
      let least = (response_found (trial_set set prios tx) tx r e).least w (holds w found) in
      sym (le-leb r most (omega (arith, found.high, least)))

  pub fits : is_some (window loads own most) ≡ is_within (response (trial_set set prios tx) tx) most
  fits = fits-at (response (trial_set set prios tx) tx) (window loads own most) refl refl

pub passes-free : (set : Set) (limits : ℕ → ℕ) (prios : List ℕ) (tx : ℕ) → is_placed prios tx ≡ false → passes set limits prios tx ≡ is_within (response (trial_set set prios tx) tx) (limits tx)
unfolding passes
passes-free set limits prios tx free = rw free refl

pub passes-placed : (set : Set) (limits : ℕ → ℕ) (prios : List ℕ) (tx : ℕ) → is_placed prios tx ≡ true → passes set limits prios tx ≡ false
unfolding passes
passes-placed set limits prios tx so = rw so refl

pub window-passes : (set : Set) (prios : List ℕ) (tx : ℕ) → tx < length set.txns → is_placed prios tx ≡ false → (loads : List Load) (steps most blocked : ℕ) → StandForHigher set prios tx loads → steps ≡ (txn_of set tx).steps
    → blocked ≡ blocking (around_set set prios) 2 → most ≡ limit set tx → is_some (window loads (steps + blocked) most) ≡ passes set (limit set) prios tx
window-passes set prios tx inside free loads steps most blocked stand steps-is blocked-is is =
    fits set prios tx inside free loads (steps + blocked) most stand (omega (arith, steps-is, blocked-is)) (omega (arith, is, limit-le set tx))
    ∙ (ap (is_within (response (trial_set set prios tx) tx)) is ∙ sym (passes-free set (limit set) prios tx free))

-- one window that holds its demand will do

held-at : (set : Set) (tx r most : ℕ) → HoldsDemand set tx r → r ≤ most → (o : Option ℕ) → response set tx ≡ o → is_within o most ≡ true
held-at set tx r most holds le None e = absurd (response_none set tx e r holds)
held-at set tx r most holds le (Some w) e =
    let least = (response_found set tx w e).least r holds in
    le-leb w most (omega (arith, least, le))

pub held-passes : (set : Set) (prios : List ℕ) (tx w most : ℕ) → tx < length set.txns → is_placed prios tx ≡ false → most ≡ limit set tx → 1 ≤ w → w ≤ most
    → demand (trial_set set prios tx) tx w ≤ w → passes set (limit set) prios tx ≡ true
held-passes set prios tx w most inside free is some le enough =
    let holds : HoldsDemand (trial_set set prios tx) tx w = record {
      positive = some;
      in_deadline = omega (arith, le, is, limit-le set tx, deadline-with set (trial (is_placed prios) tx) tx inside);
      enough = enough;
    } in
    passes-free set (limit set) prios tx free ∙ held-at (trial_set set prios tx) tx w (limit set tx) holds (omega (arith, le, is)) (response (trial_set set prios tx) tx) refl

-- the first that passes

abbrev pub first_from : Set → List ℕ → ℕ → Option ℕ
first_from set prios i = least_from (passes set (limit set) prios) i (length set.txns - i)

pub first-none : (set : Set) (prios : List ℕ) (i : ℕ) → length set.txns ≤ i → first_from set prios i ≡ None
first-none set prios i past = let e : length set.txns - i ≡ 0 = omega arith in rw e refl

-- how many are left

-- one term of a demand is small
pub term-le : (t w steps : ℕ) → 1 ≤ t → w ≤ 2 ^ 30 → steps ≤ 10000 → div_ceil w t * steps ≤ 2 ^ 30 * 10000
term-le t w steps some few low =
    let a : div_ceil w t ≤ 2 ^ 30 = omega (arith, div_ceil-le t w some) in
    mul-le-mul a low

-- those that are left, from a place on

abbrev rest_of : ℕ → ℕ → List ℕ
rest_of i n = range_with_len i (n - i)

rest-next : (i n : ℕ) → i < n → rest_of i n ≡ i ∷ rest_of (i + 1) n
rest-next i n less = let e : n - i ≡ suc (n - (i + 1)) = omega arith in rw e refl

abbrev pub left_from : Set → List ℕ → ℕ → List Unplaced
left_from set prios i = map (unplaced_at set prios) (filter (λ tx. not (is_placed prios tx)) (rest_of i (length set.txns)))

pub left-more : (set : Set) (prios : List ℕ) (i : ℕ) (rows : List Unplaced) (row : Unplaced) (all : List Unplaced) → i < length set.txns → is_placed prios i ≡ false → row ≡ unplaced_at set prios i
    → rows ++ left_from set prios i ≡ all → (rows ++ row ∷ []) ++ left_from set prios (i + 1) ≡ all
left-more set prios i rows row all inside free is e =
    let next : left_from set prios i ≡ unplaced_at set prios i ∷ left_from set prios (i + 1) = rw (rest-next i (length set.txns) inside, free) refl in
    append_assoc rows (row ∷ []) (left_from set prios (i + 1)) ∙ (ap (λ (r : Unplaced). rows ++ r ∷ left_from set prios (i + 1)) is ∙ (ap (λ (rs : List Unplaced). rows ++ rs) (sym next) ∙ e))

pub left-same : (set : Set) (prios : List ℕ) (i : ℕ) (rows all : List Unplaced) → i < length set.txns → is_placed prios i ≡ true → rows ++ left_from set prios i ≡ all → rows ++ left_from set prios (i + 1) ≡ all
left-same set prios i rows all inside so e =
    let next : left_from set prios i ≡ left_from set prios (i + 1) = rw (rest-next i (length set.txns) inside, so) refl in
    ap (λ (rs : List Unplaced). rows ++ rs) (sym next) ∙ e

pub row-is : (set : Set) (prios : List ℕ) (tx l d : ℕ) → l ≡ limit set tx → d ≡ demand (trial_set set prios tx) tx l → (let row : Unplaced = record { tx = record { 0 = tx }; limit = l; demand = d } in row) ≡ unplaced_at set prios tx
row-is set prios tx l d limit-is demand-is = rw (demand-is, limit-is) refl

-- the looks of the levels

pub looks-end : (n below old steps new free : ℕ) → below < n → free + below ≡ n → new ≤ steps + free → 2 * steps + (n - below) * (n - below + 1) ≤ 2 * old + n * (n + 1) → 2 * new ≤ 2 * old + n * (n + 1)
looks-end n below old steps new free less sum looks so-far =
    let is : n - below ≡ free = omega arith in
    let some : 1 * free ≤ free * free = mul-le-mul_right free (omega arith) in
    let before : 2 * steps + free * (free + 1) ≤ 2 * old + n * (n + 1) = subst (λ (m : ℕ). 2 * steps + m * (m + 1) ≤ 2 * old + n * (n + 1)) is so-far in
    omega (arith, before, some, looks)

pub looks-next : (n below old steps new free : ℕ) → below < n → free + below ≡ n → new ≤ steps + free → 2 * steps + (n - below) * (n - below + 1) ≤ 2 * old + n * (n + 1)
    → 2 * new + (n - (below + 1)) * (n - (below + 1) + 1) ≤ 2 * old + n * (n + 1)
looks-next n below old steps new free less sum looks so-far =
    let rest = n - (below + 1) in
    let is : n - below ≡ rest + 1 = omega arith in
    let free-is : free ≡ rest + 1 = omega arith in
    let before : 2 * steps + (rest + 1) * (rest + 1 + 1) ≤ 2 * old + n * (n + 1) = subst (λ (m : ℕ). 2 * steps + m * (m + 1) ≤ 2 * old + n * (n + 1)) is so-far in
    omega (arith, before, free-is, looks)

-- the pass

pub left-is : (set : Set) (below : ℕ) (prios : List ℕ) → AreGiven set (limit set) below → prios ≡ pass_to set (limit set) below → left prios + below ≡ length set.txns
left-is set below prios given is = ap (λ (l : List ℕ). left l + below) is ∙ (given-to set (limit set) below given).remain

pub given-length : (set : Set) (below : ℕ) (prios : List ℕ) → AreGiven set (limit set) below → prios ≡ pass_to set (limit set) below → length prios ≡ length set.txns
given-length set below prios given is = ap length is ∙ (given-to set (limit set) below given).one_each

pub found-inside : (set : Set) (prios : List ℕ) (tx : ℕ) → first_passing set (limit set) prios ≡ Some tx → tx < length set.txns
found-inside set prios tx e = (passing-is set (limit set) prios tx e).0

pub pass-next : (set : Set) (below tx : ℕ) (prios : List ℕ) → prios ≡ pass_to set (limit set) below → first_passing set (limit set) prios ≡ Some tx → put prios tx (below + 1) ≡ pass_to set (limit set) (below + 1)
pass-next set below tx prios is found =
    let here : first_passing set (limit set) (pass_to set (limit set) below) ≡ Some tx = ap (first_passing set (limit set)) (sym is) ∙ found in
    let one : suc below ≡ below + 1 = omega arith in
    let next : put prios tx (suc below) ≡ pass_to set (limit set) (suc below) = rw (here, is) refl in
    subst (λ (k : ℕ). put prios tx k ≡ pass_to set (limit set) k) one next

some-at : (o : Option ℕ) (tx : ℕ) → o ≡ Some tx → IsSome o
some-at None tx e = absurd cc
some-at (Some i) tx e = refl

pub given-more : (set : Set) (below tx : ℕ) (prios : List ℕ) → prios ≡ pass_to set (limit set) below → first_passing set (limit set) prios ≡ Some tx → AreGiven set (limit set) below → AreGiven set (limit set) (below + 1)
given-more set below tx prios is found given level less =
    elim (cases_eq level below) [
      | inl e ↦
          (let here : first_passing set (limit set) (pass_to set (limit set) level) ≡ Some tx = ap (λ (k : ℕ). first_passing set (limit set) (pass_to set (limit set) k)) e ∙ (ap (first_passing set (limit set)) (sym is) ∙ found) in
          some-at (first_passing set (limit set) (pass_to set (limit set) level)) tx here)
      | inr ne ↦ given level (omega arith)
    ]

pub stuck-at : (set : Set) (below : ℕ) (prios : List ℕ) → below < length set.txns → prios ≡ pass_to set (limit set) below → first_passing set (limit set) prios ≡ None → AreGiven set (limit set) below → IsStuck set (limit set) below
stuck-at set below prios inside is none given = record {
  in_range = inside;
  given = given;
  none = ap (first_passing set (limit set)) (sym is) ∙ none;
}

pub seen-found : (set : Set) (seen prios : List ℕ) (o : Option ℕ) (tx : ℕ) → o ≡ first_passing set (limit set) seen → seen ≡ prios → o ≡ Some tx → first_passing set (limit set) prios ≡ Some tx
seen-found set seen prios o tx first same is = ap (first_passing set (limit set)) (sym same) ∙ (sym first ∙ is)

pub none-keeps : (set : Set) (below : ℕ) (seen prios : List ℕ) (o : Option ℕ) → IsCompiled set → below < length set.txns → prios ≡ pass_to set (limit set) below → AreGiven set (limit set) below → o ≡ first_passing set (limit set) seen → seen ≡ prios → o ≡ None → NoneKeeps set (limit set)
none-keeps set below seen prios o ok inside is given first same none =
    (pass-decides set (limit set) ok).stuck below (stuck-at set below prios inside is (ap (first_passing set (limit set)) (sym same) ∙ (sym first ∙ none)) given)

pub solved-at : (set : Set) (below : ℕ) (prios : List ℕ) → IsCompiled set → length set.txns ≡ below → prios ≡ pass_to set (limit set) below → AreGiven set (limit set) below → IsSolved set (limit set) prios
solved-at set below prios ok end is given =
    let all : AreGiven set (limit set) (length set.txns) = subst (λ (k : ℕ). AreGiven set (limit set) k) (sym end) given in
    let same : prios ≡ pass set (limit set) = is ∙ ap (λ (k : ℕ). pass_to set (limit set) k) (sym end) in
    subst (λ (l : List ℕ). IsSolved set (limit set) l) (sym same) ((pass-decides set (limit set) ok).solved all)
