-- Declarations with other rates: what stays, and that they compile where the rates are good.
use Rattle.std.proofs.Common.{◌≡◌, ◌≢◌, ℕ, zero, suc, ◌<◌, ◌≤◌, true, List, map, length, get_or, is_none, refl, sym, ◌∙◌, ap, subst, ⊎_elim, arith}
use Rattle.std.specs.List.{range_with_len}
use Rattle.std.specs.Option.{option_map}
use Rattle.std.proofs.lemmas.Bool.{cases_lt}
use Rattle.std.proofs.lemmas.List.{length-map, get_or_past, get_or-map}
use Rattle.std.proofs.lemmas.Simd.{map-map}
use Rattle.std.proofs.lemmas.List.FromFn.{length-map-range_with_len, get_or-map-range_with_len, fill_by_all}
use Rattle.rt_base.specs.declared.ids.ItemId.{ItemId}
use Rattle.txn_set.specs.declared.decl.TxnDecl.{TxnDecl}
use Rattle.txn_set.specs.Set.{Set, no_txn, txn_of, names_item, HasGoodTimes, AreItemsOf, DependsOn, Walk, IsCompiled}
use Rattle.txn_compiler.specs.Kept.{kept_txn, kept_txns, kept}
use Rattle.response_test.specs.Response.{least_from}
use Rattle.update_rates.specs.declared.rates.Rate.{Rate}
use Rattle.update_rates.specs.declared.error.RateError.TheVariants.{NotAnUpdater}
use Rattle.update_rates.specs.Updaters.{updater_validity, updater_of, updaters}
use Rattle.update_rates.specs.RatedSet.{with_rate, txns_with, set_with, list_rate, plain_set}
use Rattle.update_rates.specs.Refusal.{is_other, not_an_updater}
use Rattle.response_test.proofs.Least.{least_from-same}

pub with-length : (rates : ℕ → Rate) (txns : List TxnDecl) → length (txns_with rates txns) ≡ length txns
with-length rates txns = length-map-range_with_len (λ tx. with_rate (rates tx) (get_or txns tx no_txn)) 0 (length txns)

pub with-at : (rates : ℕ → Rate) (txns : List TxnDecl) (tx : ℕ) (d : TxnDecl) → tx < length txns → get_or (txns_with rates txns) tx d ≡ with_rate (rates tx) (get_or txns tx no_txn)
with-at rates txns tx d inside = get_or-map-range_with_len (λ i. with_rate (rates i) (get_or txns i no_txn)) 0 (length txns) tx tx d inside (omega arith)

with-past : (rates : ℕ → Rate) (txns : List TxnDecl) (tx : ℕ) → length txns ≤ tx → get_or (txns_with rates txns) tx no_txn ≡ no_txn
with-past rates txns tx past = get_or_past (txns_with rates txns) tx no_txn (omega (arith, with-length rates txns))

-- what no rate changes
pub same-part : {A : Type 0} (part : TxnDecl → A) → ((r : Rate) (t : TxnDecl) → part (with_rate r t) ≡ part t) → (rates : ℕ → Rate) (txns : List TxnDecl) (tx : ℕ) → part (get_or (txns_with rates txns) tx no_txn) ≡ part (get_or txns tx no_txn)
same-part part stays rates txns tx =
    ⊎_elim
    (λ (inside : tx < length txns). ap part (with-at rates txns tx no_txn inside) ∙ stays (rates tx) (get_or txns tx no_txn))
    (λ (past : length txns ≤ tx). ap part (with-past rates txns tx past) ∙ sym (ap part (get_or_past txns tx no_txn past)))
    (cases_lt tx (length txns))

pub reads-same : (rates : ℕ → Rate) (set : Set) (tx : ℕ) → (txn_of (set_with rates set) tx).reads ≡ (txn_of set tx).reads
reads-same rates set tx = same-part (λ t. t.reads) (λ r t. refl) rates set.txns tx

pub writes-same : (rates : ℕ → Rate) (set : Set) (tx : ℕ) → (txn_of (set_with rates set) tx).writes ≡ (txn_of set tx).writes
writes-same rates set tx = same-part (λ t. t.writes) (λ r t. refl) rates set.txns tx

-- a list by its places
listed : (txns : List TxnDecl) → txns ≡ map (λ tx. get_or txns tx no_txn) (range_with_len 0 (length txns))
listed txns = fill_by_all (λ tx. get_or txns tx no_txn) txns (length txns) no_txn refl (λ k less. refl)

pub updaters-same : (rates : ℕ → Rate) (set : Set) → updaters (set_with rates set) ≡ updaters set
updaters-same rates set =
    map-map (updater_of set.items) (λ tx. with_rate (rates tx) (get_or set.txns tx no_txn)) (range_with_len 0 (length set.txns))
    ∙ sym
    (ap (λ (ts : List TxnDecl). map (updater_of set.items) ts) (listed set.txns)
    ∙ map-map (updater_of set.items) (λ tx. get_or set.txns tx no_txn) (range_with_len 0 (length set.txns)))

pub other-same : (rates : ℕ → Rate) (set : Set) → not_an_updater (set_with rates set) ≡ not_an_updater set
other-same rates set =
    let part : (tx : ℕ) → is_other (set_with rates set) tx ≡ is_other set tx = λ tx.
    same-part (λ t. is_none (updater_validity set.items t)) (λ r t. refl) rates set.txns tx in
    ap (option_map (λ tx. NotAnUpdater (record { 0 = tx })))
    (ap (λ (n : ℕ). least_from (is_other (set_with rates set)) 0 n) (with-length rates set.txns)
    ∙ least_from-same (is_other (set_with rates set)) (is_other set) 0 (length set.txns) part)

-- the last rates stay
pub with-again : (first last : ℕ → Rate) (set : Set) → set_with last (set_with first set) ≡ set_with last set
with-again first last set =
    ap (λ (ts : List TxnDecl). let s : Set = record { items = set.items; txns = ts; together = set.together } in s)
    (fill_by_all (λ tx. with_rate (last tx) (get_or set.txns tx no_txn)) (txns_with last (txns_with first set.txns)) (length set.txns) no_txn
    (with-length last (txns_with first set.txns) ∙ with-length first set.txns)
    (λ k less.
    with-at last (txns_with first set.txns) k no_txn (omega (arith, with-length first set.txns))
    ∙ ap (with_rate (last k)) (with-at first set.txns k no_txn less)))

-- rates and the order of the items go together

kept-at : (count : ℕ) (txns : List TxnDecl) (k : ℕ) → k < length txns → get_or (kept_txns count txns) k no_txn ≡ kept_txn count (get_or txns k no_txn)
kept-at count txns k less = get_or-map (kept_txn count) txns k no_txn no_txn less

kept-with : (count : ℕ) (rates : ℕ → Rate) (txns : List TxnDecl) → kept_txns count (txns_with rates txns) ≡ txns_with rates (kept_txns count txns)
kept-with count rates txns =
    let same : length (kept_txns count txns) ≡ length txns = length-map txns (kept_txn count) in
    fill_by_all (λ tx. with_rate (rates tx) (get_or (kept_txns count txns) tx no_txn)) (kept_txns count (txns_with rates txns)) (length (kept_txns count txns)) no_txn
    (length-map (txns_with rates txns) (kept_txn count) ∙ with-length rates txns ∙ sym same)
    (λ k less.
    kept-at count (txns_with rates txns) k (omega (arith, with-length rates txns, same))
    ∙ ap (kept_txn count) (with-at rates txns k no_txn (omega (arith, same)))
    ∙ sym (ap (with_rate (rates k)) (kept-at count txns k (omega (arith, same)))))

pub kept-plain : (set : Set) → kept (plain_set set) ≡ plain_set (kept set)
kept-plain set =
    let same : length set.txns ≡ length (kept set).txns = sym (length-map set.txns (kept_txn (length set.items))) in
    ap (λ (ts : List TxnDecl). let s : Set = record { items = set.items; txns = ts; together = (kept set).together } in s)
    (kept-with (length set.items) (list_rate (length set.txns)) set.txns
    ∙ ap (λ (n : ℕ). txns_with (list_rate n) (kept set).txns) same)

-- compiling again

depends-back : (rates : ℕ → Rate) (set : Set) (item parent : ℕ) → DependsOn (set_with rates set) item parent → DependsOn set item parent
depends-back rates set item parent d = record {
  derived = d.derived;
  dated = d.dated;
  writer = d.writer;
  writes = subst (λ (l : List ItemId). names_item l item ≡ true) (writes-same rates set d.writer) d.writes;
  reads = subst (λ (l : List ItemId). names_item l parent ≡ true) (reads-same rates set d.writer) d.reads;
}

walk-back : (rates : ℕ → Rate) (set : Set) (from to n : ℕ) → Walk (set_with rates set) from to n → Walk set from to n
walk-back rates set from to zero w = w
walk-back rates set from to (suc n) (mid, step, rest) = (mid, depends-back rates set from mid step, walk-back rates set mid to n rest)

pub compiles-with : (rates : ℕ → Rate) (set : Set) → IsCompiled set → ((tx : ℕ) → tx < length set.txns → HasGoodTimes (with_rate (rates tx) (txn_of set tx))) → ((a b : ℕ) → a < length set.txns → b < length set.txns → a ≢ b → (rates a).prio ≢ (rates b).prio) → IsCompiled (set_with rates set)
compiles-with rates set c good apart = record {
  few_items = c.few_items;
  few_txns = omega (arith, with-length rates set.txns, c.few_txns);
  few_together = c.few_together;
  times = λ k d inside.
      let low : k < length set.txns = omega (arith, with-length rates set.txns, inside) in
      subst HasGoodTimes (sym (with-at rates set.txns k d low)) (good k low);
  prios = λ i j d less inside same.
      let low-j : j < length set.txns = omega (arith, with-length rates set.txns, inside) in
      let low-i : i < length set.txns = omega (arith, less, low-j) in
      let other : i ≢ j = (λ e. omega (arith, less, e)) in
      apart i j low-i low-j other
      (sym (ap (λ (t : TxnDecl). t.prio) (with-at rates set.txns i d low-i)) ∙ same ∙ ap (λ (t : TxnDecl). t.prio) (with-at rates set.txns j d low-j));
  reads = λ k d inside.
      let low : k < length set.txns = omega (arith, with-length rates set.txns, inside) in
      let old = c.reads k no_txn low in
      subst (λ (t : TxnDecl). AreItemsOf (set_with rates set) t.reads) (sym (with-at rates set.txns k d low)) (record { rising = old.rising; in_range = old.in_range });
  writes = λ k d inside.
      let low : k < length set.txns = omega (arith, with-length rates set.txns, inside) in
      let old = c.writes k no_txn low in
      subst (λ (t : TxnDecl). AreItemsOf (set_with rates set) t.writes) (sym (with-at rates set.txns k d low)) (record { rising = old.rising; in_range = old.in_range });
  written = λ item dated.
      let (tx, w) = c.written item dated in (
        tx,
        record {
          in_range = omega (arith, with-length rates set.txns, w.in_range);
          writes = subst (λ (l : List ItemId). names_item l item ≡ true) (sym (writes-same rates set tx)) w.writes;
          alone = λ other writes. w.alone other (subst (λ (l : List ItemId). names_item l item ≡ true) (writes-same rates set other) writes);
        },
      );
  acyclic = λ item n w. c.acyclic item n (walk-back rates set item item (suc n) w);
  together = λ k d inside. let old = c.together k d inside in record { rising = old.rising; in_range = old.in_range };
  together_size = c.together_size;
  together_dated = c.together_dated;
}
