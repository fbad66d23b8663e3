-- The age bounds that are found by levels are the age bounds. A walk of more dependencies than items would meet an
-- item twice, which a compiled set excludes, so the levels end; and the equation leaves one value at each.
use Rattle.std.proofs.Common.{◌≡◌, ◌≢◌, ◌⊎◌, ℕ, zero, suc, ◌+◌, ◌<◌, ◌≤◌, ◌==◌, Bool, true, false, cond, not, List, [], ◌∷◌, map, length, get_or, refl, ap, sym, ◌∙◌, subst, inl, inr, arith, add-zero}
use Rattle.std.proofs.lemmas.Bool.{eqb-true, eq-eqb, eqb-false, not-true}
use Rattle.std.specs.List.{filter}
use Rattle.rt_base.specs.declared.ids.ItemId.{ItemId}
use Rattle.txn_set.specs.declared.decl.TxnDecl.{TxnDecl}
use Rattle.txn_set.specs.Set.{Set, no_txn, txn_of, may_write, IsTheWriter, DependsOn, Walk, IsCompiled}
use Rattle.item_model.specs.Kinds.{is_dated, is_derived}
use Rattle.txn_set.specs.Ceilings.{greatest}
use Rattle.law_histories.proofs.Members.{In, filter_in}
use Rattle.law_times.specs.Ages.{IsAgeBound, first_writer, writer_of, age_by, AgesAreBounds}
use Rattle.law_histories.proofs.Lists.{in_any}
use Rattle.law_histories.proofs.Installs.{dated_in_range}

-- a list of more than n numbers below n has one twice

abbrev HasTwice : List ℕ → Type 0
HasTwice [] = ⊥
HasTwice (x ∷ xs) = In x xs ⊎ HasTwice xs

twice_at : (p : ℕ → Bool) (x : ℕ) (xs : List ℕ) (b : Bool) → (HasTwice (filter p xs) → HasTwice xs) → HasTwice (cond b (x ∷ filter p xs) (filter p xs)) → In x xs ⊎ HasTwice xs
twice_at p x xs true rest (inl i) = inl (filter_in p x xs i).0
twice_at p x xs true rest (inr h) = inr (rest h)
twice_at p x xs false rest h = inr (rest h)

twice_filter : (p : ℕ → Bool) (xs : List ℕ) → HasTwice (filter p xs) → HasTwice xs
twice_filter p [] h = h
twice_filter p (x ∷ xs) h = twice_at p x xs (p x) (twice_filter p xs) h

absent_at : (n x : ℕ) (xs : List ℕ) (b : Bool) → (x == n) ≡ b → In n xs ⊎ (filter (λ k. not (k == n)) xs ≡ xs) → ((n ≡ x) ⊎ In n xs) ⊎ (cond (not b) (x ∷ filter (λ k. not (k == n)) xs) (filter (λ k. not (k == n)) xs) ≡ x ∷ xs)
absent_at n x xs true e rest = inl (inl (sym (eqb-true _ _ e)))
absent_at n x xs false e (inl i) = inl (inr i)
absent_at n x xs false e (inr same) = inr (ap (λ (l : List ℕ). x ∷ l) same)

absent : (n : ℕ) (xs : List ℕ) → In n xs ⊎ (filter (λ k. not (k == n)) xs ≡ xs)
absent n [] = inr refl
absent n (x ∷ xs) = absent_at n x xs (x == n) refl (absent n xs)

once_at : (n x : ℕ) (xs : List ℕ) (b : Bool) → (x == n) ≡ b → HasTwice xs ⊎ (length xs ≤ length (filter (λ k. not (k == n)) xs) + 1)
    → (In x xs ⊎ HasTwice xs) ⊎ (length (x ∷ xs) ≤ length (cond (not b) (x ∷ filter (λ k. not (k == n)) xs) (filter (λ k. not (k == n)) xs)) + 1)
once_at n x xs true e rest = elim (absent n xs) [
  | inl i ↦ inl (inl (subst (λ (k : ℕ). In k xs) (sym (eqb-true _ _ e)) i))
  | inr same ↦ inr (omega (arith, ap (λ (l : List ℕ). length l) same))
]
once_at n x xs false e (inl h) = inl (inr h)
once_at n x xs false e (inr le) = inr (omega (arith, le))

once : (n : ℕ) (xs : List ℕ) → HasTwice xs ⊎ (length xs ≤ length (filter (λ k. not (k == n)) xs) + 1)
once n [] = inr (omega arith)
once n (x ∷ xs) = once_at n x xs (x == n) refl (once n xs)

twice : (n : ℕ) (xs : List ℕ) → ((x : ℕ) → In x xs → x < n) → n < length xs → HasTwice xs
twice zero [] below lt = omega arith
twice zero (x ∷ xs) below lt = absurd (omega (arith, below x (inl refl)))
twice (suc n) xs below lt = elim (once n xs) [
  | inl h ↦ h
  | inr le ↦ twice_filter (λ k. not (k == n)) xs (twice n (filter (λ k. not (k == n)) xs)
      (λ x i. let f = filter_in (λ (k : ℕ). not (k == n)) x xs i in let ne : x ≢ n = eqb-false _ _ (not-true _ f.1) in omega (arith, below x f.0)) (omega arith))
]

-- a walk as long as the number of items would come back

module _ (set : Set) (ok : IsCompiled set) where
  nodes_of : (n from to : ℕ) → Walk set from to n → List ℕ
  nodes_of zero from to w = from ∷ []
  nodes_of (suc n) from to w = from ∷ nodes_of n w.0 to w.2

  nodes_count : (n from to : ℕ) (w : Walk set from to n) → length (nodes_of n from to w) ≡ n + 1
  unfolding nodes_of
  nodes_count zero from to w = refl
  nodes_count (suc n) from to w = omega (arith, nodes_count n w.0 to w.2)

  nodes_below : (n from to : ℕ) (w : Walk set from to n) → from < length set.items → (x : ℕ) → In x (nodes_of n from to w) → x < length set.items
  unfolding nodes_of
  nodes_below zero from to w lt x (inl e) = omega (arith, e)
  nodes_below zero from to w lt x (inr none) = absurd none
  nodes_below (suc n) from to w lt x (inl e) = omega (arith, e)
  nodes_below (suc n) from to w lt x (inr i) = nodes_below n w.0 to w.2 (dated_in_range set w.0 w.1.dated) x i

  way_to : (n from to : ℕ) (w : Walk set from to n) (x : ℕ) → In x (nodes_of n from to w) → (m : ℕ) × Walk set from x m
  unfolding nodes_of
  way_to zero from to w x (inl e) = (zero, sym e)
  way_to zero from to w x (inr none) = absurd none
  way_to (suc n) from to w x (inl e) = (zero, sym e)
  way_to (suc n) from to w x (inr i) = let r = way_to n w.0 to w.2 x i in (suc r.0, (w.0, w.1, r.1))

  comes_back : (n from to : ℕ) (w : Walk set from to n) → HasTwice (nodes_of n from to w) → ⊥
  unfolding nodes_of
  comes_back zero from to w (inl none) = none
  comes_back zero from to w (inr none) = none
  comes_back (suc n) from to w (inl i) = let r = way_to n w.0 to w.2 from i in ok.acyclic from r.0 (w.0, w.1, r.1)
  comes_back (suc n) from to w (inr h) = comes_back n w.0 to w.2 h

  EndsWithin : ℕ → ℕ → Type 0
  EndsWithin n item = (to : ℕ) → ¬ Walk set item to n

  all_end : (item : ℕ) → is_dated set.items item ≡ true → EndsWithin (length set.items) item
  unfolding EndsWithin
  all_end item d to w = comes_back (length set.items) item to w (twice (length set.items) (nodes_of (length set.items) item to w) (nodes_below (length set.items) item to w (dated_in_range set item d)) (omega (arith, nodes_count (length set.items) item to w)))

  -- the writer

  writer_at : (ts : List TxnDecl) (item n : ℕ) → n < length ts → may_write (get_or ts n no_txn) item ≡ true → may_write (get_or ts (first_writer ts item) no_txn) item ≡ true
  writer_at [] item n lt h = absurd (omega arith)
  writer_at (t ∷ ts) item n lt h = at (may_write t item) refl (λ m l k. writer_at ts item m l k) n lt h where
    at : (b : Bool) → may_write t item ≡ b → ((m : ℕ) → m < length ts → may_write (get_or ts m no_txn) item ≡ true → may_write (get_or ts (first_writer ts item) no_txn) item ≡ true)
        → (n : ℕ) → n < length (t ∷ ts) → may_write (get_or (t ∷ ts) n no_txn) item ≡ true → may_write (get_or (t ∷ ts) (cond b 0 (suc (first_writer ts item))) no_txn) item ≡ true
    at true e rest n lt h = e
    at false e rest zero lt h = absurd cc
    at false e rest (suc m) lt h = rest m (omega arith) h

  writer_is : (item tx : ℕ) → IsTheWriter set item tx → writer_of set item ≡ tx
  writer_is item tx w = w.alone (writer_of set item) (writer_at set.txns item tx w.in_range w.writes)

  -- one more level

  parents : ℕ → List ItemId
  parents tx = filter (λ i. is_dated set.items i.0) (txn_of set tx).reads

  map_same : (f g : ItemId → ℕ) (xs : List ItemId) → ((i : ItemId) → In i xs → f i ≡ g i) → map f xs ≡ map g xs
  map_same f g [] h = refl
  map_same f g (x ∷ xs) h = ap (λ (n : ℕ). n ∷ map f xs) (h x (inl refl)) ∙ ap (λ (l : List ℕ). g x ∷ l) (map_same f g xs (λ i j. h i (inr j)))

  depends : (item tx : ℕ) (i : ItemId) → is_derived set.items item ≡ true → IsTheWriter set item tx → In i (parents tx) → DependsOn set item i.0
  unfolding parents
  depends item tx i d w j =
      let f = filter_in (λ (i : ItemId). is_dated set.items i.0) i (txn_of set tx).reads j in
      record { derived = d; dated = f.1; writer = tx; writes = w.writes; reads = in_any (λ (k : ItemId). k.0 == i.0) i (txn_of set tx).reads f.0 (eq-eqb i.0 i.0 refl) }

  module _ (response : ℕ → ℕ) where
    age_derived : (n item tx : ℕ) → is_derived set.items item ≡ true → IsTheWriter set item tx → age_by set response (suc n) item ≡ (txn_of set tx).period + response tx + greatest (map (λ i. age_by set response n i.0) (parents tx))
    unfolding parents
    age_derived n item tx d w =
        ap (λ (b : Bool). (txn_of set (writer_of set item)).period + response (writer_of set item) + cond b (greatest (map (λ i. age_by set response n i.0) (filter (λ i. is_dated set.items i.0) (txn_of set (writer_of set item)).reads))) 0) d
        ∙ ap (λ (k : ℕ). (txn_of set k).period + response k + greatest (map (λ i. age_by set response n i.0) (filter (λ i. is_dated set.items i.0) (txn_of set k).reads))) (writer_is item tx w)

    age_sensor : (n item tx : ℕ) → is_derived set.items item ≡ false → IsTheWriter set item tx → age_by set response (suc n) item ≡ (txn_of set tx).period + response tx
    age_sensor n item tx d w =
        ap (λ (b : Bool). (txn_of set (writer_of set item)).period + response (writer_of set item) + cond b (greatest (map (λ i. age_by set response n i.0) (filter (λ i. is_dated set.items i.0) (txn_of set (writer_of set item)).reads))) 0) d
        ∙ (add-zero _ ∙ ap (λ (k : ℕ). (txn_of set k).period + response k) (writer_is item tx w))

    -- any two accounts that agree with the rule on an item's parents agree on the item
    stable : (n item : ℕ) → is_dated set.items item ≡ true → EndsWithin n item → age_by set response n item ≡ age_by set response (suc n) item
    unfolding EndsWithin parents
    stable zero item d ends = absurd (ends item refl)
    stable (suc n) item d ends = let w = ok.written item d in at (is_derived set.items item) refl w.0 w.1 (λ i j. (filter_in (λ (i : ItemId). is_dated set.items i.0) i (txn_of set w.0).reads j).1) (λ i dated e. stable n i.0 dated e) where
      at : (b : Bool) → is_derived set.items item ≡ b → (tx : ℕ) → IsTheWriter set item tx → ((i : ItemId) → In i (parents tx) → is_dated set.items i.0 ≡ true)
          → ((i : ItemId) → is_dated set.items i.0 ≡ true → ((to : ℕ) → ¬ Walk set i.0 to n) → age_by set response n i.0 ≡ age_by set response (suc n) i.0) → age_by set response (suc n) item ≡ age_by set response (suc (suc n)) item
      at false e tx w dated rest = age_sensor n item tx e w ∙ sym (age_sensor (suc n) item tx e w)
      at true e tx w dated rest =
          age_derived n item tx e w
          ∙ (ap (λ (l : List ℕ). (txn_of set tx).period + response tx + greatest l) (map_same (λ i. age_by set response n i.0) (λ i. age_by set response (suc n) i.0) (parents tx) (λ i j. rest i (dated i j) (λ to walk. ends to (i.0, depends item tx i e w j, walk))))
          ∙ sym (age_derived (suc n) item tx e w))

    only_bound : (bound : ℕ → ℕ) → IsAgeBound set response bound → (n item : ℕ) → is_dated set.items item ≡ true → EndsWithin n item → bound item ≡ age_by set response n item
    unfolding EndsWithin parents
    only_bound bound h zero item d ends = absurd (ends item refl)
    only_bound bound h (suc n) item d ends = let w = ok.written item d in at (is_derived set.items item) refl w.0 w.1 (λ i j. (filter_in (λ (i : ItemId). is_dated set.items i.0) i (txn_of set w.0).reads j).1) (λ i dated e. only_bound bound h n i.0 dated e) where
      at : (b : Bool) → is_derived set.items item ≡ b → (tx : ℕ) → IsTheWriter set item tx → ((i : ItemId) → In i (parents tx) → is_dated set.items i.0 ≡ true)
          → ((i : ItemId) → is_dated set.items i.0 ≡ true → ((to : ℕ) → ¬ Walk set i.0 to n) → bound i.0 ≡ age_by set response n i.0) → bound item ≡ age_by set response (suc n) item
      at false e tx w dated rest = h.sensor item tx d e w ∙ sym (age_sensor n item tx e w)
      at true e tx w dated rest =
          h.derived item tx e w
          ∙ (ap (λ (l : List ℕ). (txn_of set tx).period + response tx + greatest l) (map_same (λ i. bound i.0) (λ i. age_by set response n i.0) (parents tx) (λ i j. rest i (dated i j) (λ to walk. ends to (i.0, depends item tx i e w j, walk))))
          ∙ sym (age_derived n item tx e w))

    pub ages_are_bounds : AgesAreBounds set response
    unfolding parents
    ages_are_bounds = record {
      bounds = record {
        sensor = λ item tx d n w. age_sensor (length set.items) item tx n w;
        derived = λ item tx d w.
            age_derived (length set.items) item tx d w
            ∙ ap (λ (l : List ℕ). (txn_of set tx).period + response tx + greatest l) (map_same (λ i. age_by set response (length set.items) i.0) (λ i. age_by set response (suc (length set.items)) i.0) (parents tx)
            (λ i j. let f = (filter_in (λ (i : ItemId). is_dated set.items i.0) i (txn_of set tx).reads j).1 in stable (length set.items) i.0 f (all_end i.0 f)));
      };
      only = λ bound h item d. only_bound bound h (length set.items) item d (all_end item d) ∙ stable (length set.items) item d (all_end item d);
    }

pub age_bounds : (set : Set) (response : ℕ → ℕ) → IsCompiled set → AgesAreBounds set response
age_bounds set response ok = ages_are_bounds set ok response
