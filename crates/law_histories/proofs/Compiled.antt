-- Tests of a set of a few transactions that compute, and the rules of a compiled set that they show.
use Rattle.std.proofs.Common.{◌≡◌, ◌≢◌, ℕ, suc, ◌<◌, ◌≤◌, ◌^◌, ◌&&◌, Bool, true, List, [], ◌∷◌, length, arith}
use Rattle.std.specs.Prelude.{IsTrue, nat_le, nat_lt}
use Rattle.std.specs.List.{All, AllPairs, list_all}
use Rattle.std.proofs.lemmas.Bool.{and_parts, leb-true, ltb-true}
use Rattle.std.proofs.lemmas.List.Elements.{All-nil, All-cons}
use Rattle.std.proofs.lemmas.List.Kept.{AllPairs-cons}
use Rattle.rt_base.specs.declared.ids.ItemId.{ItemId}
use Rattle.rt_base.specs.declared.ids.TogetherDecl.{TogetherDecl}
use Rattle.item_model.specs.Kinds.{is_dated}
use Rattle.txn_set.specs.declared.decl.TxnDecl.{TxnDecl}
use Rattle.txn_set.specs.Set.{Set, HasGoodTimes, AreItemsOf, IsTheWriter, IsCompiled, Walk}

all_of : {X : Type 0} (p : X → Bool) (P : X → Type 0) → ((x : X) → p x ≡ true → P x) → (xs : List X) → list_all p xs ≡ true → All P xs
all_of p P f [] h = All-nil P
all_of p P f (x ∷ xs) h = let a : (p x ≡ true) × (list_all p xs ≡ true) = and_parts _ _ h in All-cons P x xs (f x a.0) (all_of p P f xs a.1)

abbrev pub within : ℕ → ℕ → ℕ → Bool
within low n high = nat_le low n && nat_le n high

is_within : (low n high : ℕ) → within low n high ≡ true → (low ≤ n) × (n ≤ high)
is_within low n high h = let a : (nat_le low n ≡ true) × (nat_le n high ≡ true) = and_parts _ _ h in (leb-true _ _ a.0, leb-true _ _ a.1)

abbrev pub good_ranges : TxnDecl → Bool
good_ranges t = within 1 t.prio 1000 && (within 1 t.steps 10000 && within 1 t.period (2 ^ 30))

abbrev pub good_rest : TxnDecl → Bool
good_rest t = within 1 t.deadline t.period && (nat_le t.offset t.period && nat_lt t.quiet t.steps)

abbrev pub good : TxnDecl → Bool
good t = good_ranges t && good_rest t

good_times : (t : TxnDecl) → good t ≡ true → HasGoodTimes t
good_times t h =
    let a : (good_ranges t ≡ true) × (good_rest t ≡ true) = and_parts _ _ h in
    let b : (within 1 t.prio 1000 ≡ true) × ((within 1 t.steps 10000 && within 1 t.period (2 ^ 30)) ≡ true) = and_parts _ _ a.0 in
    let c : (within 1 t.steps 10000 ≡ true) × (within 1 t.period (2 ^ 30) ≡ true) = and_parts _ _ b.1 in
    let d : (within 1 t.deadline t.period ≡ true) × ((nat_le t.offset t.period && nat_lt t.quiet t.steps) ≡ true) = and_parts _ _ a.1 in
    let e : (nat_le t.offset t.period ≡ true) × (nat_lt t.quiet t.steps ≡ true) = and_parts _ _ d.1 in
    record {
      prio = is_within 1 t.prio 1000 b.0;
      steps = is_within 1 t.steps 10000 c.0;
      period = is_within 1 t.period (2 ^ 30) c.1;
      deadline = is_within 1 t.deadline t.period d.0;
      offset = leb-true _ _ e.0;
      quiet = ltb-true _ _ e.1;
    }

abbrev pub falling : List TxnDecl → Bool
falling [] = true
falling (t ∷ ts) = list_all (λ u. nat_lt u.prio t.prio) ts && falling ts

lower : (t u : TxnDecl) → nat_lt u.prio t.prio ≡ true → t.prio ≢ u.prio
lower t u h e = let less : u.prio < t.prio = ltb-true _ _ h in absurd (omega (arith, less, e))

prios_differ : (ts : List TxnDecl) → falling ts ≡ true → AllPairs (λ a b. a.prio ≢ b.prio) ts
prios_differ [] h = λ i j d lt top. absurd (omega arith)
prios_differ (t ∷ ts) h =
    let a : (list_all (λ (u : TxnDecl). nat_lt u.prio t.prio) ts ≡ true) × (falling ts ≡ true) = and_parts _ _ h in
    AllPairs-cons (λ (a b : TxnDecl). a.prio ≢ b.prio) t ts
    (all_of (λ (u : TxnDecl). nat_lt u.prio t.prio) (λ (u : TxnDecl). t.prio ≢ u.prio) (lower t) ts a.0)
    (prios_differ ts a.1)

abbrev pub rising : List ItemId → Bool
rising [] = true
rising (i ∷ items) = list_all (λ j. nat_lt i.0 j.0) items && rising items

items_rise : (items : List ItemId) → rising items ≡ true → AllPairs (λ a b. a.0 < b.0) items
items_rise [] h = λ i j d lt top. absurd (omega arith)
items_rise (i ∷ items) h =
    let a : (list_all (λ (j : ItemId). nat_lt i.0 j.0) items ≡ true) × (rising items ≡ true) = and_parts _ _ h in
    AllPairs-cons (λ (a b : ItemId). a.0 < b.0) i items
    (all_of (λ (j : ItemId). nat_lt i.0 j.0) (λ (j : ItemId). i.0 < j.0) (λ j less. ltb-true _ _ less) items a.0)
    (items_rise items a.1)

abbrev pub listed : Set → List ItemId → Bool
listed set items = rising items && list_all (λ i. nat_lt i.0 (length set.items)) items

are_items : (set : Set) (items : List ItemId) → listed set items ≡ true → AreItemsOf set items
are_items set items h =
    let a : (rising items ≡ true) × (list_all (λ (i : ItemId). nat_lt i.0 (length set.items)) items ≡ true) = and_parts _ _ h in
    record {
      rising = items_rise items a.0;
      in_range = all_of (λ (i : ItemId). nat_lt i.0 (length set.items)) (λ (i : ItemId). i.0 < length set.items) (λ i less. ltb-true _ _ less) items a.1;
    }

abbrev pub related : Set → TogetherDecl → Bool
related set g = listed set g.items && (nat_le 2 (length g.items) && list_all (λ i. is_dated set.items i.0) g.items)

record IsRelated (set : Set) (g : TogetherDecl) : Type 0 where
  items : AreItemsOf set g.items
  size : 2 ≤ length g.items
  dated : All (λ i. IsTrue (is_dated set.items i.0)) g.items

is_related : (set : Set) (g : TogetherDecl) → related set g ≡ true → IsRelated set g
is_related set g h =
    let a : (listed set g.items ≡ true) × ((nat_le 2 (length g.items) && list_all (λ (i : ItemId). is_dated set.items i.0) g.items) ≡ true) = and_parts _ _ h in
    let b : (nat_le 2 (length g.items) ≡ true) × (list_all (λ (i : ItemId). is_dated set.items i.0) g.items ≡ true) = and_parts _ _ a.1 in
    record {
      items = are_items set g.items a.0;
      size = leb-true _ _ b.0;
      dated = all_of (λ (i : ItemId). is_dated set.items i.0) (λ (i : ItemId). IsTrue (is_dated set.items i.0)) (λ i d. d) g.items b.1;
    }

abbrev pub few : Set → Bool
few set = nat_le (length set.items) 256 && (nat_le (length set.txns) 64 && nat_le (length set.together) 64)

abbrev pub accessing : Set → TxnDecl → Bool
accessing set t = listed set t.reads && listed set t.writes

-- all but the rules of writers and of derivation
abbrev pub passes : Set → Bool
passes set = few set && (list_all good set.txns && (falling set.txns && (list_all (accessing set) set.txns && list_all (related set) set.together)))

pub compiled : (set : Set) → passes set ≡ true
    → ((item : ℕ) → IsTrue (is_dated set.items item) → (tx : ℕ) × IsTheWriter set item tx)
    → ((item n : ℕ) → ¬ Walk set item item (suc n)) → IsCompiled set
compiled set h written acyclic =
    let a : (few set ≡ true) × ((list_all good set.txns && (falling set.txns && (list_all (accessing set) set.txns && list_all (related set) set.together))) ≡ true) = and_parts _ _ h in
    let b : (nat_le (length set.items) 256 ≡ true) × ((nat_le (length set.txns) 64 && nat_le (length set.together) 64) ≡ true) = and_parts _ _ a.0 in
    let c : (nat_le (length set.txns) 64 ≡ true) × (nat_le (length set.together) 64 ≡ true) = and_parts _ _ b.1 in
    let d : (list_all good set.txns ≡ true) × ((falling set.txns && (list_all (accessing set) set.txns && list_all (related set) set.together)) ≡ true) = and_parts _ _ a.1 in
    let e : (falling set.txns ≡ true) × ((list_all (accessing set) set.txns && list_all (related set) set.together) ≡ true) = and_parts _ _ d.1 in
    let f : (list_all (accessing set) set.txns ≡ true) × (list_all (related set) set.together ≡ true) = and_parts _ _ e.1 in
    record {
      few_items = leb-true _ _ b.0;
      few_txns = leb-true _ _ c.0;
      few_together = leb-true _ _ c.1;
      times = all_of good HasGoodTimes good_times set.txns d.0;
      prios = prios_differ set.txns e.0;
      reads = all_of (accessing set) (λ (t : TxnDecl). AreItemsOf set t.reads) (reads_of set) set.txns f.0;
      writes = all_of (accessing set) (λ (t : TxnDecl). AreItemsOf set t.writes) (writes_of set) set.txns f.0;
      written = written;
      acyclic = acyclic;
      together = all_of (related set) (λ (g : TogetherDecl). AreItemsOf set g.items) (λ g r. (is_related set g r).items) set.together f.1;
      together_size = all_of (related set) (λ (g : TogetherDecl). 2 ≤ length g.items) (λ g r. (is_related set g r).size) set.together f.1;
      together_dated = all_of (related set) (λ (g : TogetherDecl). All (λ (i : ItemId). IsTrue (is_dated set.items i.0)) g.items) (λ g r. (is_related set g r).dated) set.together f.1;
    } where
      reads_of : (set : Set) (t : TxnDecl) → accessing set t ≡ true → AreItemsOf set t.reads
      reads_of set t h = let a : (listed set t.reads ≡ true) × (listed set t.writes ≡ true) = and_parts _ _ h in are_items set t.reads a.0

      writes_of : (set : Set) (t : TxnDecl) → accessing set t ≡ true → AreItemsOf set t.writes
      writes_of set t h = let a : (listed set t.reads ≡ true) × (listed set t.writes ≡ true) = and_parts _ _ h in are_items set t.writes a.1
