-- Items in item order without repeats are found so among all.
use Rattle.std.proofs.Common.{◌≡◌, ℕ, zero, suc, ◌+◌, ◌<◌, ◌≤◌, List, [], ◌∷◌, length, get_or, map, Bool, true, false, ◌||◌, cond, Some, ◌⊎◌, inl, inr, refl, sym, ap, subst, ◌∙◌, arith, zero-add}
use Rattle.std.specs.Prelude.{◌==◌}
use Rattle.std.specs.List.{All, AllPairs, filter, range_with_len}
use Rattle.std.proofs.lemmas.Bool.{or_left, or_from, eq-eqb, ne_eqb, cases_eq, cases_lt}
use Rattle.rt_base.specs.declared.ids.ItemId.{ItemId}
use Rattle.scenario_forms.specs.Fields.{item_id}
use Rattle.scenario_reader.specs.Made.{is_named, in_item_order}

-- rising items from one on, below another
abbrev AreFrom : ℕ → ℕ → List ItemId → Type 0
AreFrom a n [] = Unit {0}
AreFrom a n (i ∷ ids) = (a ≤ i.0) × (i.0 < n) × AreFrom (i.0 + 1) n ids

are_from : (n : ℕ) (ids : List ItemId) (a : ℕ) → AllPairs (λ x y. x.0 < y.0) ids → All (λ i. i.0 < n) ids
    → ((k : ℕ) (d : ItemId) → k < length ids → a ≤ (get_or ids k d).0) → AreFrom a n ids
are_from n [] a rising below above = tt
are_from n (i ∷ ids) a rising below above = (
  above 0 i (omega arith),
  below 0 i (omega arith),
  are_from n ids (i.0 + 1)
      (λ j k d less lt. rising (suc j) (suc k) d (omega arith) (omega arith))
      (λ k d lt. below (suc k) d (omega arith))
      (λ k d lt. let less : i.0 < (get_or ids k d).0 = rising 0 (suc k) d (omega arith) (omega arith) in omega arith),
)

same_filter : (p q : ℕ → Bool) (a m : ℕ) → ((x : ℕ) → a ≤ x → p x ≡ q x)
    → filter p (range_with_len a m) ≡ filter q (range_with_len a m)
same_filter p q a zero h = refl
same_filter p q a (suc m) h =
    ap (λ (b : Bool). cond b (a ∷ filter p (range_with_len (a + 1) m)) (filter p (range_with_len (a + 1) m))) (h a
    (omega arith))
    ∙ ap (λ (xs : List ℕ). cond (q a) (a ∷ xs) xs) (same_filter p q (a + 1) m (λ x le. h x (omega arith)))

not_named : (ids : List ItemId) (n a b : ℕ) → AreFrom b n ids → a < b → is_named (map Some ids) a ≡ false
not_named [] n a b h lt = refl
not_named (i ∷ ids) n a b h lt =
    let above : b ≤ i.0 = h.0 in
    or_from (i.0 == a) (is_named (map Some ids) a) (ne_eqb i.0 a (λ e. absurd (omega arith)))
    (not_named ids n a (i.0 + 1) h.2 (omega arith))

-- past the first item, only the others are found
past_first : (i : ItemId) (ids : List ItemId) (x : ℕ) → i.0 + 1 ≤ x
    → is_named (map Some (i ∷ ids)) x ≡ is_named (map Some ids) x
past_first i ids x le = ap (λ (b : Bool). b || is_named (map Some ids) x) (ne_eqb i.0 x (λ e. absurd (omega arith)))

takes : (p : ℕ → Bool) (a m : ℕ) → p a ≡ true → filter p (range_with_len a (suc m)) ≡ a ∷ filter p (range_with_len
    (a + 1) m)
takes p a m h = ap (λ (b : Bool). cond b (a ∷ filter p (range_with_len (a + 1) m)) (filter p (range_with_len
    (a + 1) m))) h

leaves : (p : ℕ → Bool) (a m : ℕ) → p a ≡ false → filter p (range_with_len a (suc m)) ≡ filter p (range_with_len
    (a + 1) m)
leaves p a m h = ap (λ (b : Bool). cond b (a ∷ filter p (range_with_len (a + 1) m)) (filter p (range_with_len
    (a + 1) m))) h

above_more : (a i : ℕ) → a ≤ i → (i ≡ a → ⊥) → a + 1 ≤ i
above_more a i le other = elim (cases_lt a i) [ inl less ↦ omega arith | inr more ↦ absurd (other (omega arith)) ]

next_found : (n m a : ℕ) (i : ItemId) (ids : List ItemId) → AreFrom a n (i ∷ ids) → (i.0 ≡ a) ⊎ (i.0 ≡ a → ⊥)
    → (AreFrom (a + 1) n ids → map item_id (filter (is_named (map Some ids)) (range_with_len (a + 1) m)) ≡ ids)
    → (AreFrom (a + 1) n (i ∷ ids)
    → map item_id (filter (is_named (map Some (i ∷ ids))) (range_with_len (a + 1) m)) ≡ i ∷ ids)
    → map item_id (filter (is_named (map Some (i ∷ ids))) (range_with_len a (suc m))) ≡ i ∷ ids
next_found n m a i ids h (inl e) rest later =
    ap (map item_id) (takes (is_named (map Some (i ∷ ids))) a m (or_left (i.0 == a) (is_named (map Some ids) a)
    (eq-eqb i.0 a e))
    ∙ ap (λ (xs : List ℕ). a ∷ xs) (same_filter (is_named (map Some (i ∷ ids))) (is_named (map Some ids)) (a + 1) m
    (λ x le. past_first i ids x (omega arith))))
    ∙ ap (λ (xs : List ItemId). item_id a ∷ xs) (rest (subst (λ (k : ℕ). AreFrom (k + 1) n ids) e h.2))
    ∙ ap (λ (k : ℕ). item_id k ∷ ids) (sym e)
next_found n m a i ids h (inr other) rest later =
    let above : a ≤ i.0 = h.0 in
    let more : a + 1 ≤ i.0 = above_more a i.0 above other in
    ap (map item_id) (leaves (is_named (map Some (i ∷ ids))) a m (not_named (i ∷ ids) n a (a + 1) (more, h.1, h.2)
    (omega arith)))
    ∙ later (more, h.1, h.2)

found_from : (n m a : ℕ) (ids : List ItemId) → a + m ≡ n → AreFrom a n ids
    → map item_id (filter (is_named (map Some ids)) (range_with_len a m)) ≡ ids
found_from n zero a [] e h = refl
found_from n zero a (i ∷ ids) e h = let above : a ≤ i.0 = h.0 in let below : i.0 < n = h.1 in absurd (omega arith)
found_from n (suc m) a [] e h = found_from n m (a + 1) [] (omega arith) tt
found_from n (suc m) a (i ∷ ids) e h = next_found n m a i ids h (cases_eq i.0 a)
    (λ g. found_from n m (a + 1) ids (omega arith) g)
    (λ g. found_from n m (a + 1) (i ∷ ids) (omega arith) g)

pub in_order : (n : ℕ) (ids : List ItemId) → AllPairs (λ x y. x.0 < y.0) ids → All (λ i. i.0 < n) ids
    → in_item_order n (map Some ids) ≡ ids
in_order n ids rising below = found_from n n 0 ids (zero-add n) (are_from n ids 0 rising below (λ k d lt. omega arith))
