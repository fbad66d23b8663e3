-- With fewer steps the blocking, the demand, the responses and the age bounds do not grow, so an admitted set stays
-- admitted.
use Rattle.std.proofs.Common.{◌≡◌, ℕ, zero, suc, ◌+◌, ◌-◌, ◌*◌, ◌<◌, ◌≤◌, Bool, true, false, cond, ◌&&◌, List, [], ◌∷◌, map, length, get_or, Option, None, Some, refl, sym, ◌∙◌, ap, subst, ⊎_elim, arith, le_trans, mul-le-mul_left}
use Rattle.std.proofs.lemmas.Bool.{cases_lt}
use Rattle.std.proofs.lemmas.List.{get_or_past, length-map}
use Rattle.std.specs.Prelude.{nat_lt, IsTrue}
use Rattle.std.specs.List.{filter}
use Rattle.std.specs.Int.{div_ceil}
use Rattle.rt_base.specs.declared.ids.ItemId.{ItemId}
use Rattle.rt_base.specs.declared.ids.TogetherDecl.{TogetherDecl}
use Rattle.item_model.specs.Kinds.{is_dated, is_derived}
use Rattle.txn_set.specs.declared.decl.TxnDecl.{TxnDecl}
use Rattle.txn_set.specs.Set.{Set, no_txn, txn_of, names_item}
use Rattle.txn_set.specs.Ceilings.{greatest, may_block, blocking}
use Rattle.law_times.specs.Response.{higher_demand, demand, HoldsDemand, response, IsResponse}
use Rattle.law_times.proofs.Demand.{response_none}
use Rattle.law_times.specs.Ages.{greatest_read, writer_of, age_by, age_bound, IsAdmittedBy}
use Rattle.set_admission.specs.Bounds.{response_of, age_of, MeetsAdmission}
use Rattle.set_admission.proofs.Found.{response_of-is, response_of-le}
use Rattle.law_times.proofs.Standing.{loud}
use Rattle.scale_margin.specs.Scaled.{StepCounts, counted_txn, counted, AreFewer}
use Rattle.scale_margin.specs.Laws.{KeepsAdmitted}
use Rattle.scale_margin.proofs.Same.{prio_same, deadline_same, reads_same, may_block_same, age_same}

-- blocking

loud_at : (b : Bool) (x y : TxnDecl) (xs ys : List TxnDecl) → loud x ≤ loud y → greatest (map loud xs) ≤ greatest (map loud ys)
    → greatest (map loud (cond b (x ∷ xs) xs)) ≤ greatest (map loud (cond b (y ∷ ys) ys))
loud_at true x y xs ys le rest = omega (arith, le, rest)
loud_at false x y xs ys le rest = rest

loud_grows : (few many : StepCounts) → AreFewer few many → (p q : TxnDecl → Bool) → ((t : TxnDecl) → p (counted_txn few t) ≡ q (counted_txn many t)) → (ts : List TxnDecl)
    → greatest (map loud (filter p (map (counted_txn few) ts))) ≤ greatest (map loud (filter q (map (counted_txn many) ts)))
loud_grows few many less p q same [] = omega arith
loud_grows few many less p q same (t ∷ ts) =
    rw (same t)
    (loud_at (q (counted_txn many t)) (counted_txn few t) (counted_txn many t) (filter p (map (counted_txn few) ts)) (filter q (map (counted_txn many) ts))
    (omega (arith, less.after_quiet t)) (loud_grows few many less p q same ts))

blocking_grows : (few many : StepCounts) → AreFewer few many → (set : Set) (prio : ℕ) → blocking (counted few set) prio ≤ blocking (counted many set) prio
unfolding blocking
blocking_grows few many less set prio =
    loud_grows few many less (λ t. nat_lt t.prio prio && may_block (counted few set) prio t) (λ t. nat_lt t.prio prio && may_block (counted many set) prio t)
    (λ t. ap (λ (b : Bool). nat_lt t.prio prio && b) (may_block_same few set prio t ∙ sym (may_block_same many set prio t))) set.txns

-- demand

part_at : (b : Bool) (n c d : ℕ) → c ≤ d → cond b (n * c) 0 ≤ cond b (n * d) 0
part_at true n c d le = mul-le-mul_left n le
part_at false n c d le = omega arith

higher_grows : (few many : StepCounts) → AreFewer few many → (p w : ℕ) (ts : List TxnDecl) → higher_demand p w (map (counted_txn few) ts) ≤ higher_demand p w (map (counted_txn many) ts)
higher_grows few many less p w [] = omega arith
higher_grows few many less p w (t ∷ ts) =
    omega (arith, part_at (nat_lt p t.prio) (div_ceil w t.period) (few.steps t) (many.steps t) (less.steps t), higher_grows few many less p w ts)

steps_grow : (few many : StepCounts) → AreFewer few many → (ts : List TxnDecl) (tx : ℕ) → (get_or (map (counted_txn few) ts) tx no_txn).steps ≤ (get_or (map (counted_txn many) ts) tx no_txn).steps
steps_grow few many less [] tx = omega arith
steps_grow few many less (t ∷ ts) zero = less.steps t
steps_grow few many less (t ∷ ts) (suc tx) = steps_grow few many less ts tx

demand_grows : (few many : StepCounts) → AreFewer few many → (set : Set) (tx w : ℕ) → demand (counted few set) tx w ≤ demand (counted many set) tx w
unfolding demand
demand_grows few many less set tx w =
    let p = (txn_of set tx).prio in
    let steps = steps_grow few many less set.txns tx in
    let blocked = blocking_grows few many less set p in
    let higher = higher_grows few many less p w set.txns in
    rw (prio_same few set tx, prio_same many set tx) (omega (arith, steps, blocked, higher))

-- responses

holds_less : (few many : StepCounts) → AreFewer few many → (set : Set) (tx r : ℕ) → HoldsDemand (counted many set) tx r → HoldsDemand (counted few set) tx r
holds_less few many less set tx r h = record {
  positive = h.positive;
  in_deadline = omega (arith, h.in_deadline, deadline_same few set tx, deadline_same many set tx);
  enough = omega (arith, demand_grows few many less set tx r, h.enough);
}

abbrev HasLess : Set → ℕ → ℕ → Type 0
HasLess set tx r = IsResponse set tx (response_of set tx) × (response_of set tx ≤ r)

response_at : (few many : StepCounts) → AreFewer few many → (set : Set) (tx r : ℕ) → IsResponse (counted many set) tx r → (o : Option ℕ) → response (counted few set) tx ≡ o → HasLess (counted few set) tx r
response_at few many less set tx r h None e = absurd (response_none (counted few set) tx e r (holds_less few many less set tx r h.holds))
response_at few many less set tx r h (Some w) e =
    let is = response_of-is (counted few set) tx w e in
    (is, is.least r (holds_less few many less set tx r h.holds))

-- age bounds

greatest_grows : (f g : ℕ → ℕ) → ((n : ℕ) → f n ≤ g n) → (xs : List ItemId) → greatest (map (λ i. f i.0) xs) ≤ greatest (map (λ i. g i.0) xs)
greatest_grows f g le [] = omega arith
greatest_grows f g le (x ∷ xs) = omega (arith, le x.0, greatest_grows f g le xs)

sum_grows : (d : Bool) (p x y z u : ℕ) → x ≤ y → z ≤ u → p + x + cond d z 0 ≤ p + y + cond d u 0
sum_grows true p x y z u a b = omega arith
sum_grows false p x y z u a b = omega arith

age_grows : (set : Set) (f g : ℕ → ℕ) → ((tx : ℕ) → f tx ≤ g tx) → (n item : ℕ) → age_by set f n item ≤ age_by set g n item
age_grows set f g le zero item = omega arith
age_grows set f g le (suc n) item =
    let tx = writer_of set item in
    let reads = filter (λ i. is_dated set.items i.0) (txn_of set tx).reads in
    sum_grows (is_derived set.items item) (txn_of set tx).period (f tx) (g tx) (greatest_read set (age_by set f n) tx) (greatest_read set (age_by set g n) tx)
    (le tx) (greatest_grows (age_by set f n) (age_by set g n) (age_grows set f g le n) reads)

-- the rule by smaller bounds, for a set with other step counts

near : (f g : ℕ → ℕ) → ((n : ℕ) → f n ≤ g n) → (xs ys : List ItemId) → xs ≡ ys → (group : TogetherDecl)
    → (2 ≤ length (filter (λ i. names_item ys i.0) group.items) → greatest (map (λ i. g i.0) (filter (λ i. names_item ys i.0) group.items)) ≤ group.within)
    → 2 ≤ length (filter (λ i. names_item xs i.0) group.items) → greatest (map (λ i. f i.0) (filter (λ i. names_item xs i.0) group.items)) ≤ group.within
near f g le xs ys e group h =
    subst
    (λ (zs : List ItemId). 2 ≤ length (filter (λ i. names_item zs i.0) group.items) → greatest (map (λ i. f i.0) (filter (λ i. names_item zs i.0) group.items)) ≤ group.within)
    (sym e) (λ two. le_trans (greatest_grows f g le (filter (λ i. names_item ys i.0) group.items)) (h two))

admitted_by_less : (c d : StepCounts) (set : Set) (f g : ℕ → ℕ) → ((n : ℕ) → f n ≤ g n) → IsAdmittedBy (counted d set) g → IsAdmittedBy (counted c set) f
admitted_by_less c d set f g le h = record {
  valid = λ tx item v reads is. le_trans (le item) (h.valid tx item v (subst (λ (xs : List ItemId). IsTrue (names_item xs item)) (same tx) reads) is);
  within = λ tx k u below. near f g le _ _ (same tx) (get_or set.together k u) (h.within tx k u below);
}
  where
    same : (tx : ℕ) → (txn_of (counted c set) tx).reads ≡ (txn_of (counted d set) tx).reads
    same tx = reads_same c set tx ∙ sym (reads_same d set tx)

-- admission

module _ (few many : StepCounts) (less : AreFewer few many) (set : Set) (meets : MeetsAdmission (counted many set)) where
  at : (tx : ℕ) → tx < length set.txns → HasLess (counted few set) tx (response_of (counted many set) tx)
  at tx inside =
      response_at few many less set tx (response_of (counted many set) tx) (meets.responses tx (omega (arith, inside, length-map set.txns (counted_txn many))))
      (response (counted few set) tx) refl

  none : (tx : ℕ) → length set.txns ≤ tx → (txn_of set tx).deadline ≡ 0
  none tx past = ap (λ (t : TxnDecl). t.deadline) (get_or_past set.txns tx no_txn past)

  responses_less : (tx : ℕ) → response_of (counted few set) tx ≤ response_of (counted many set) tx
  responses_less tx =
      ⊎_elim
      (λ (inside : tx < length set.txns). (at tx inside).1)
      (λ (past : length set.txns ≤ tx). omega (arith, response_of-le (counted few set) tx, deadline_same few set tx, none tx past))
      (cases_lt tx (length set.txns))

  ages_less : (item : ℕ) → age_bound (counted few set) (response_of (counted few set)) item ≤ age_bound (counted many set) (response_of (counted many set)) item
  ages_less item =
      let n = suc (length set.items) in
      let a = age_same few set (response_of (counted few set)) n item in
      let b = age_same many set (response_of (counted many set)) n item in
      rw (a, b) (age_grows set (response_of (counted few set)) (response_of (counted many set)) responses_less n item)

  pub keeps_admitted : KeepsAdmitted (counted few set) (counted many set)
  unfolding age_of
  keeps_admitted = record {
    admitted = record {
      responses = λ tx inside. (at tx (omega (arith, inside, length-map set.txns (counted_txn few)))).0;
      ages = admitted_by_less few many set _ _ ages_less meets.ages;
    };
    responses = responses_less;
    ages = ages_less;
  }
