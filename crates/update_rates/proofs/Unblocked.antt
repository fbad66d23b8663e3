-- A set of updaters with its rates: no transaction is blocked, and its demand is its load.
use Rattle.std.proofs.Common.{◌≡◌, ℕ, zero, suc, ◌+◌, ◌-◌, ◌*◌, ◌<◌, ◌≤◌, Bool, true, false, ltb, leb, eqb, ◌&&◌, ◌||◌, List, [], ◌∷◌, map, length, refl, sym, ◌∙◌, ap, subst, inl, inr, ⊎_elim, arith}
use Rattle.std.specs.List.{filter, list_any, range_with_len, sum_by}
use Rattle.std.specs.Int.{div_ceil}
use Rattle.std.proofs.lemmas.Bool.{cases_lt, cases_Bool, and_parts, or_cases, or_left, ltb-true, leb-true, eq-eqb}
use Rattle.std.proofs.lemmas.List.{length-map}
use Rattle.std.proofs.lemmas.List.Sums.{sum_by-cons}
use Rattle.rt_base.specs.declared.ids.ItemId.{ItemId}
use Rattle.txn_set.specs.declared.decl.TxnDecl.{TxnDecl}
use Rattle.txn_set.specs.Set.{Set, no_txn, txn_of, names_item, may_read, may_write, IsCompiled}
use Rattle.txn_set.specs.Ceilings.{greatest, absolute_ceiling, write_ceiling, may_block, blocking}
use Rattle.law_histories.proofs.Members.{In, filter_in, greatest_in}
use Rattle.law_times.specs.Response.{part_of, higher_demand, demand}
use Rattle.update_rates.specs.declared.updaters.Updater.{Updater}
use Rattle.update_rates.specs.declared.rates.Rate.{Rate}
use Rattle.update_rates.specs.Updaters.{updater_of, updaters, no_updater, updater_at}
use Rattle.update_rates.specs.Rates.{is_earlier, place_of, load, period, rate_of}
use Rattle.update_rates.specs.RatedSet.{with_rate, txns_with, set_with, rated_set}
use Rattle.update_rates.proofs.Places.{place-inside, higher-is}
use Rattle.update_rates.proofs.Retimed.{with-at}
use Rattle.update_rates.proofs.Updating.{IsUpdater, steps-at}

-- what stands in a list that is made by place
record IsMadeAt {A : Type 0} (g : ℕ → A) (a n : ℕ) (x : A) : Type 0 where
  pub place : ℕ
  pub low : a ≤ place
  pub high : place < a + n
  pub is : x ≡ g place

in-made : {A : Type 0} (g : ℕ → A) (a n : ℕ) (x : A) → In x (map g (range_with_len a n)) → IsMadeAt g a n x
in-made g a zero x h = absurd h
in-made g a (suc n) x (inl e) = record { place = a; low = omega arith; high = omega arith; is = e }
in-made g a (suc n) x (inr rest) =
    let m = in-made g (a + 1) n x rest in
    record { place = m.place; low = omega (arith, m.low); high = omega (arith, m.high); is = m.is }

-- a transaction that reads nothing and may write one item blocks by the ceiling of that item alone
one-any : (p : ItemId → Bool) (items : List ItemId) (i : ItemId) → items ≡ i ∷ [] → list_any p items ≡ true → p i ≡ true
one-any p items i e h =
    ⊎_elim (λ (here : p i ≡ true). here) (λ (none : false ≡ true). absurd cc) (or_cases (p i) false (subst (λ (l : List ItemId). list_any p l ≡ true) e h))

none-any : (p : ItemId → Bool) (items : List ItemId) → items ≡ [] → list_any p items ≡ true → ⊥
none-any p items e h = let none : list_any p items ≡ false = rw e refl in cc

may-block-by : (set : Set) (prio : ℕ) (t : TxnDecl) (i : ItemId) → t.reads ≡ [] → t.writes ≡ i ∷ [] → may_block set prio t ≡ true → prio ≤ absolute_ceiling set i.0
may-block-by set prio t i none one h =
    ⊎_elim
    (λ (read : list_any (λ k. leb prio (write_ceiling set k.0)) t.reads ≡ true). absurd (none-any (λ k. leb prio (write_ceiling set k.0)) t.reads none read))
    (λ (write : list_any (λ k. leb prio (absolute_ceiling set k.0)) t.writes ≡ true).
    leb-true prio (absolute_ceiling set i.0) (one-any (λ k. leb prio (absolute_ceiling set k.0)) t.writes i one write))
    (or_cases (list_any (λ k. leb prio (write_ceiling set k.0)) t.reads) (list_any (λ k. leb prio (absolute_ceiling set k.0)) t.writes) h)

may-write-by : (t : TxnDecl) (item : ℕ) → t.reads ≡ [] → (may_read t item || may_write t item) ≡ true → may_write t item ≡ true
may-write-by t item none h =
    ⊎_elim
    (λ (read : may_read t item ≡ true). absurd (none-any (λ k. eqb k.0 item) t.reads none read))
    (λ (write : may_write t item ≡ true). write)
    (or_cases (may_read t item) (may_write t item) h)

-- the demand of the higher transactions is a sum over those that pass a test
higher-sum : (prio w : ℕ) (g : ℕ → TxnDecl) (p : ℕ → Bool) (f : ℕ → ℕ) (a n : ℕ) → ((h : ℕ) → a ≤ h → h < a + n → (ltb prio (g h).prio ≡ p h) × (div_ceil w (g h).period * (g h).steps ≡ f h)) → higher_demand prio w (map g (range_with_len a n)) ≡ sum_by f (filter p (range_with_len a n))
higher-sum prio w g p f a zero each = refl
higher-sum prio w g p f a (suc n) each =
    let here = each a (omega arith) (omega arith) in
    let rest = higher-sum prio w g p f (a + 1) n (λ h low high. each h (omega arith) (omega arith)) in
    ⊎_elim
    (λ (passes : p a ≡ true).
    let part : part_of prio w (g a) ≡ f a = rw (here.0, passes) here.1 in
    let all : filter p (range_with_len a (suc n)) ≡ a ∷ filter p (range_with_len (a + 1) n) = rw passes refl in
    omega (arith, part, rest, ap (λ (xs : List ℕ). sum_by f xs) all, sum_by-cons f a (filter p (range_with_len (a + 1) n))))
    (λ (fails : p a ≡ false).
    let part : part_of prio w (g a) ≡ 0 = rw (here.0, fails) refl in
    let all : filter p (range_with_len a (suc n)) ≡ filter p (range_with_len (a + 1) n) = rw fails refl in
    omega (arith, part, rest, ap (λ (xs : List ℕ). sum_by f xs) all))
    (cases_Bool (p a))

module _ (rates : ℕ → Rate) (set : Set) (c : IsCompiled (set_with rates set)) (each : (tx : ℕ) → tx < length set.txns → IsUpdater set.items (txn_of set tx).reads (txn_of set tx).writes) where
  abbrev made : ℕ → TxnDecl
  made tx = with_rate (rates tx) (txn_of set tx)

  writes-it : (tx item : ℕ) → tx < length set.txns → may_write (made tx) item ≡ true → may_write (txn_of (set_with rates set) tx) item ≡ true
  writes-it tx item inside h = subst (λ (t : TxnDecl). may_write t item ≡ true) (sym (with-at rates set.txns tx no_txn inside)) h

  -- who may read or write what an updater writes is that updater
  alone : (tx : ℕ) (inside : tx < length set.txns) (t : TxnDecl) → In t (txns_with rates set.txns) → (may_read t (each tx inside).item.0 || may_write t (each tx inside).item.0) ≡ true → t ≡ made tx
  alone tx inside t here passes =
      let u = each tx inside in
      let m = in-made made 0 (length set.txns) t here in
      let low : m.place < length set.txns = omega (arith, m.high) in
      let writes : may_write (made m.place) u.item.0 ≡ true = may-write-by (made m.place) u.item.0 (each m.place low).reads_none
      (subst (λ (s : TxnDecl). (may_read s u.item.0 || may_write s u.item.0) ≡ true) m.is passes) in
      let own : may_write (made tx) u.item.0 ≡ true = subst (λ (l : List ItemId). names_item l u.item.0 ≡ true) (sym u.writes_one) (or_left (eqb u.item.0 u.item.0) false (eq-eqb u.item.0 u.item.0 refl)) in
      let (a, w) = c.written u.item.0 u.dated in
      let one : m.place ≡ a = w.alone m.place (writes-it m.place u.item.0 low writes) in
      let two : tx ≡ a = w.alone tx (writes-it tx u.item.0 inside own) in
      let same : m.place ≡ tx = one ∙ sym two in
      m.is ∙ ap made same

  -- the ceiling of what an updater writes is its own priority
  own-ceiling : (tx : ℕ) (inside : tx < length set.txns) → 0 < absolute_ceiling (set_with rates set) (each tx inside).item.0 → absolute_ceiling (set_with rates set) (each tx inside).item.0 ≡ (rates tx).prio
  unfolding absolute_ceiling
  own-ceiling tx inside some =
      let item = (each tx inside).item.0 in
      let (t, here, is) = greatest_in (λ (t : TxnDecl). t.prio) (filter (λ t. may_read t item || may_write t item) (txns_with rates set.txns)) some in
      let passed = filter_in (λ (t : TxnDecl). may_read t item || may_write t item) t (txns_with rates set.txns) here in
      sym is ∙ ap (λ (s : TxnDecl). s.prio) (alone tx inside t passed.0 passed.1)

  pub unblocked : (prio : ℕ) → 1 ≤ prio → blocking (set_with rates set) prio ≡ 0
  unfolding blocking
  unblocked prio some =
      ⊎_elim
      (λ (more : 0 < greatest (map (λ t. t.steps - t.quiet - 1) (filter (λ t. ltb t.prio prio && may_block (set_with rates set) prio t) (txns_with rates set.txns)))).
      let (t, here, is) = greatest_in (λ (t : TxnDecl). t.steps - t.quiet - 1) (filter (λ t. ltb t.prio prio && may_block (set_with rates set) prio t) (txns_with rates set.txns)) more in
      let passed = filter_in (λ (t : TxnDecl). ltb t.prio prio && may_block (set_with rates set) prio t) t (txns_with rates set.txns) here in
      let m = in-made made 0 (length set.txns) t passed.0 in
      let low : m.place < length set.txns = omega (arith, m.high) in
      let u = each m.place low in
      let both = and_parts (ltb (made m.place).prio prio) (may_block (set_with rates set) prio (made m.place))
      (subst (λ (s : TxnDecl). (ltb s.prio prio && may_block (set_with rates set) prio s) ≡ true) m.is passed.1) in
      let below = ltb-true (made m.place).prio prio both.0 in
      let ceiling = may-block-by (set_with rates set) prio (made m.place) u.item u.reads_none u.writes_one both.1 in
      absurd (omega (arith, below, ceiling, own-ceiling m.place low (omega (arith, some, ceiling)))))
      (λ (none : greatest (map (λ t. t.steps - t.quiet - 1) (filter (λ t. ltb t.prio prio && may_block (set_with rates set) prio t) (txns_with rates set.txns))) ≤ 0). omega arith)
      (cases_lt 0 (greatest (map (λ t. t.steps - t.quiet - 1) (filter (λ t. ltb t.prio prio && may_block (set_with rates set) prio t) (txns_with rates set.txns)))))

count-is : (set : Set) → length (updaters set) ≡ length set.txns
count-is set = length-map set.txns (updater_of set.items)

demand-with : (set : Set) (t : TxnDecl) (tx w : ℕ) → txn_of (rated_set set) tx ≡ t → demand (rated_set set) tx w ≡ t.steps + blocking (rated_set set) t.prio + higher_demand t.prio w (rated_set set).txns
unfolding demand
demand-with set t tx w e = rw e refl

load-with : (us : List Updater) (tx w : ℕ) → load us (period us) tx w ≡ (updater_at us tx).steps + sum_by (λ h. div_ceil w (period us h) * (updater_at us h).steps) (filter (λ h. is_earlier us h tx) (range_with_len 0 (length us)))
unfolding load
load-with us tx w = refl

-- the demand of an updater is its load
pub demand-is : (set : Set) → IsCompiled (rated_set set) → ((tx : ℕ) → tx < length set.txns → IsUpdater set.items (txn_of set tx).reads (txn_of set tx).writes) → (tx w : ℕ) → tx < length set.txns → demand (rated_set set) tx w ≡ load (updaters set) (period (updaters set)) tx w
demand-is set c each tx w inside =
    let us = updaters set in
    let in-us : (h : ℕ) → h < length set.txns → h < length us = λ h low. omega (arith, count-is set, low) in
    let is = demand-with set (with_rate (rate_of us tx) (txn_of set tx)) tx w (with-at (rate_of us) set.txns tx no_txn inside) in
    let free = unblocked (rate_of us) set c each (length us - place_of us tx) (omega (arith, place-inside us tx (in-us tx inside))) in
    let higher = higher-sum (length us - place_of us tx) w (λ h. with_rate (rate_of us h) (txn_of set h)) (λ h. is_earlier us h tx) (λ h. div_ceil w (period us h) * (updater_at us h).steps) 0 (length set.txns)
    (λ h low high. (
      higher-is us h tx (in-us h (omega arith)) (in-us tx inside),
      ap (λ (n : ℕ). div_ceil w (period us h) * n) (sym (steps-at set h no_updater (omega arith))),
    )) in
    let range = ap (λ (n : ℕ). sum_by (λ h. div_ceil w (period us h) * (updater_at us h).steps) (filter (λ h. is_earlier us h tx) (range_with_len 0 n))) (count-is set) in
    omega (arith, is, free, higher, range, steps-at set tx no_updater inside, load-with us tx w)
