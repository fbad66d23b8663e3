-- The place of a name.
use Rattle.std.proofs.Common.{◌≡◌, ℕ, zero, suc, ◌+◌, ◌<◌, ◌≤◌, Bool, true, false, not, ltb, cond, List, [], ◌∷◌, ◌++◌, map, length, get_or, Option, Some, None, take, refl, sym, ap, ◌∙◌, arith, bytes_eq}
use Rattle.std.specs.Prelude.{position, ◌||◌, if◌then◌else◌}
use Rattle.std.specs.List.{position_or_len, list_any, AllByRecursion, IsDistinct}
use Rattle.std.proofs.lemmas.Map.Keys.{IsDistinct-head, IsDistinct-tail}
use Rattle.std.specs.Cmp.Lexicographic.{nat_list_eq_equiv}
use Rattle.std.proofs.lemmas.List.{length-map, map_push, length-take-le, get_or-take, get_or_default}
use Rattle.std.proofs.lemmas.List.Quantifiers.{position-Some}
use Rattle.std.proofs.lemmas.List.Sums.{position_or_len_is, fails_before_first}
use Rattle.std.proofs.lemmas.Slice.Eq.{bytes_eq-Decides}
use Rattle.std.proofs.lemmas.Bool.{lt-ltb, le-ltb, ltb-false, false≢true}
use Rattle.rt_base.specs.Names.{AreNames}
use Rattle.name_table.specs.Places.{place_in}

-- by keys

module _ {X : Type 0} (text : X → List ℕ) (name : List ℕ) where
  same_front : (xs : List X)
      → position_or_len (λ x. bytes_eq name (text x)) xs ≡ position_or_len (λ n. bytes_eq n name) (map text xs)
  same_front [] = refl
  same_front (x ∷ xs) = ap (λ (b : Bool). cond (not b) (1 + position_or_len (λ y. bytes_eq name (text y)) xs) 0)
      (nat_list_eq_equiv.symm name (text x))
      ∙ ap (λ (n : ℕ). cond (not (bytes_eq (text x) name)) (1 + n) 0) (same_front xs)

  pub place_by_keys : (xs : List X) → position (λ x. bytes_eq name (text x)) xs ≡ place_in (map text xs) name
  unfolding place_in
  place_by_keys xs =
      ap (λ (n : ℕ). cond (ltb n (length xs)) (Some n) None) (same_front xs)
      ∙ ap (λ (k : ℕ). cond (ltb (position_or_len (λ n. bytes_eq n name) (map text xs)) k)
      (Some (position_or_len (λ n. bytes_eq n name) (map text xs))) None) (sym (length-map xs text))

unplaced : (b : Bool) (n : ℕ) → cond b (Some n) None ≡ None → b ≡ false
unplaced true n e = absurd cc
unplaced false n e = refl

-- no key is a name that has no place
module _ {X : Type 0} (text : X → List ℕ) (name : List ℕ) where
  one_more : (b rest : Bool) (n m : ℕ) → suc m ≤ cond (not b) (1 + n) 0 → (m ≤ n → rest ≡ false) → (b || rest) ≡ false
  one_more true rest n m h k = absurd (omega arith)
  one_more false rest n m h k = k (omega arith)

  any_false : (xs : List X) → length xs ≤ position_or_len (λ x. bytes_eq name (text x)) xs
      → list_any (λ x. bytes_eq name (text x)) xs ≡ false
  any_false [] h = refl
  any_false (x ∷ xs) h =
      one_more (bytes_eq name (text x)) _ (position_or_len (λ y. bytes_eq name (text y)) xs) (length xs) h (any_false xs)

  pub none_by_keys : (xs : List X) → place_in (map text xs) name ≡ None
      → list_any (λ x. bytes_eq name (text x)) xs ≡ false
  none_by_keys xs none = any_false xs (ltb-false (position_or_len (λ x. bytes_eq name (text x)) xs) (length xs)
      (unplaced _ _ (place_by_keys text name xs ∙ none)))

  -- so it comes behind them
  pub key_behind : (keys new : List X) (names : List (List ℕ)) (key : X) → map text keys ≡ names → text key ≡ name
      → place_in names name ≡ None
      → new ≡ (if list_any (λ x. bytes_eq (text key) (text x)) keys then keys else keys ++ key ∷ [])
      → map text new ≡ names ++ name ∷ []
  key_behind keys new names key same is none inserted =
      let absent : list_any (λ x. bytes_eq (text key) (text x)) keys ≡ false =
      ap (λ (n : List ℕ). list_any (λ x. bytes_eq n (text x)) keys) is
      ∙ none_by_keys keys (ap (λ (ns : List (List ℕ)). place_in ns name) same ∙ none) in
      ap (map text) (inserted ∙ ap (λ (b : Bool). if b then keys else keys ++ key ∷ []) absent)
      ∙ map_push text keys key ∙ ap (λ (ns : List (List ℕ)). ns ++ text key ∷ []) same
      ∙ ap (λ (n : List ℕ). names ++ n ∷ []) is

-- a name at a place that no earlier one is equal to
pub place_at : (names : List (List ℕ)) (i : ℕ) → i < length names
    → ((k : ℕ) → k < i → get_or names k [] ≡ get_or names i [] → ⊥) → place_in names (get_or names i []) ≡ Some i
unfolding place_in
place_at names i lt once =
    let name = get_or names i [] in
    let at : position_or_len (λ n. bytes_eq n name) names ≡ i =
    position_or_len_is (λ n. bytes_eq n name) names i [] (omega arith) (λ k h. apart (bytes_eq (get_or names k []) name)
    refl (once k h)) (λ h. (bytes_eq-Decides name name).1 refl) in
    ap (λ (n : ℕ). cond (ltb n (length names)) (Some n) None) at
    ∙ ap (λ (b : Bool). cond b (Some i) None) (lt-ltb i (length names) lt)
  where
    apart : {a b : List ℕ} (r : Bool) → bytes_eq a b ≡ r → (a ≡ b → ⊥) → r ≡ false
    apart {a} {b} true e h = absurd (h ((bytes_eq-Decides a b).0 e))
    apart false e h = refl

-- keys that differ: what one is written as stands at its own place alone
module _ {X : Type 0} (text : X → List ℕ) (eq : X → X → Bool) (eq_is : (a b : X) → eq a b ≡ bytes_eq (text a) (text b)) where
  each_at : (P : X → Type 0) (keys : List X) (i : ℕ) (d : X) → AllByRecursion P keys → i < length keys → P (get_or keys i d)
  each_at P [] i d a lt = absurd (omega arith)
  each_at P (x ∷ xs) zero d a lt = a.0
  each_at P (x ∷ xs) (suc i) d a lt = each_at P xs i d a.1 (omega arith)

  texts_differ : (keys : List X) (k i : ℕ) (d : X) → IsDistinct eq keys → k < i → i < length keys
      → bytes_eq (text (get_or keys i d)) (text (get_or keys k d)) ≡ false
  texts_differ [] k i d h less lt = absurd (omega arith)
  texts_differ (x ∷ xs) k zero d h less lt = absurd (omega arith)
  texts_differ (x ∷ xs) zero (suc i) d h less lt =
      nat_list_eq_equiv.symm (text (get_or xs i d)) (text x)
      ∙ (sym (eq_is x (get_or xs i d)) ∙ each_at (λ y. eq x y ≡ false) xs i d (IsDistinct-head eq x xs h) (omega arith))
  texts_differ (x ∷ xs) (suc k) (suc i) d h less lt = texts_differ xs k i d (IsDistinct-tail eq x xs h) (omega arith) (omega arith)

  pub place_of_key : (keys : List X) (i : ℕ) (d : X) (name : List ℕ) → IsDistinct eq keys → i < length keys
      → text (get_or keys i d) ≡ name → place_in (map text keys) name ≡ Some i
  place_of_key keys i d name h lt same =
      let at : position_or_len (λ x. bytes_eq name (text x)) keys ≡ i =
      position_or_len_is (λ x. bytes_eq name (text x)) keys i d (omega arith)
      (λ k less. ap (λ (n : List ℕ). bytes_eq n (text (get_or keys k d))) (sym same) ∙ texts_differ keys k i d h less lt)
      (λ more. (bytes_eq-Decides name (text (get_or keys i d))).1 (sym same)) in
      sym (place_by_keys text name keys) ∙ ap (λ (n : ℕ). cond (ltb n (length keys)) (Some n) None) at
      ∙ ap (λ (b : Bool). cond b (Some i) None) (lt-ltb i (length keys) lt)

-- what stands at a place
pub place_is : (names : List (List ℕ)) (name : List ℕ) (i : ℕ) → place_in names name ≡ Some i
    → (i < length names) × (get_or names i [] ≡ name)
unfolding place_in
place_is names name i e =
    let found = position-Some (λ n. bytes_eq n name) names i [] e in
    (found.0, (bytes_eq-Decides (get_or names i []) name).0 found.1)

-- a name that has no place is none of these
pub none_is : (names : List (List ℕ)) (name : List ℕ) → place_in names name ≡ None → (i : ℕ) (d : List ℕ)
    → i < length names → get_or names i d ≡ name → ⊥
unfolding place_in
none_is names name none i d lt same =
    let all : length names ≤ position_or_len (λ n. bytes_eq n name) names = ltb-false _ _ (unplaced _ _ none) in
    let not_here : bytes_eq (get_or names i d) name ≡ false =
    fails_before_first (λ n. bytes_eq n name) names i d (omega arith) in
    false≢true (sym not_here ∙ (bytes_eq-Decides (get_or names i d) name).1 same)

-- a name that has no place has none where another one comes behind

grows : (b : Bool) (n m more_n more_m : ℕ) → suc m ≤ cond (not b) (1 + n) 0 → (m ≤ n → more_m ≤ more_n)
    → suc more_m ≤ cond (not b) (1 + more_n) 0
grows true n m more_n more_m h k = absurd (omega arith)
grows false n m more_n more_m h k = omega (arith, k (omega arith))

last_fails : (b : Bool) → b ≡ false → 1 ≤ cond (not b) (1 + 0) 0
last_fails true e = absurd cc
last_fails false e = omega arith

none_behind : (p : List ℕ → Bool) (more : List ℕ) → p more ≡ false → (names : List (List ℕ))
    → length names ≤ position_or_len p names
    → length (names ++ more ∷ []) ≤ position_or_len p (names ++ more ∷ [])
none_behind p more fails [] h = last_fails (p more) fails
none_behind p more fails (name ∷ names) h =
    grows (p name) (position_or_len p names) (length names) (position_or_len p (names ++ more ∷ []))
    (length (names ++ more ∷ [])) h (none_behind p more fails names)

pub none_further : (names : List (List ℕ)) (more name : List ℕ) → place_in names name ≡ None → (more ≡ name → ⊥)
    → place_in (names ++ more ∷ []) name ≡ None
unfolding place_in
none_further names more name none other =
    let all = none_behind (λ n. bytes_eq n name) more (fails (bytes_eq more name) refl) names
    (ltb-false _ _ (unplaced _ _ none)) in
    ap (λ (b : Bool). cond b (Some (position_or_len (λ n. bytes_eq n name) (names ++ more ∷ []))) None)
    (le-ltb _ _ all)
  where
    fails : (r : Bool) → bytes_eq more name ≡ r → r ≡ false
    fails true e = absurd (other ((bytes_eq-Decides more name).0 e))
    fails false e = refl

-- among names that differ the one at a place has no place before that
pub not_before : (names : List (List ℕ)) (i : ℕ) (name : List ℕ) → AreNames names → i < length names
    → name ≡ get_or names i name → place_in (take i names) name ≡ None
not_before names i name good lt at = by_place (place_in (take i names) name) refl
  where
    by_place : (place : Option ℕ) → place_in (take i names) name ≡ place → place ≡ None
    by_place None e = refl
    by_place (Some k) e =
        let found = place_is (take i names) name k e in
        let below : k < i = omega (arith, found.0, length-take-le i names (omega arith)) in
        let same : get_or names k [] ≡ get_or names i [] =
        sym (get_or-take i names k [] below) ∙ found.1 ∙ at ∙ get_or_default names i name [] lt in
        let one : k ≡ i = good.once k i (omega arith) lt same in
        absurd (omega arith)
