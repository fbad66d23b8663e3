-- The names of a generated scenario.
use Rattle.std.proofs.Common.{◌≡◌, ℕ, ◌+◌, ◌<◌, ◌≤◌, List, [], ◌∷◌, ◌++◌, length, get_or, drop, codes, decimal, Bool, true, false, cond, ◌⊎◌, inl, inr, refl, sym, ap, ◌∙◌, arith, zero-add}
use Rattle.std.proofs.lemmas.Bool.{cases_lt}
use Rattle.std.proofs.lemmas.List.{get_or_append_left, get_or_push, length_push}
use Rattle.std.proofs.lemmas.List.FromFn.{get_or-map-range_with_len, length-map-range_with_len}
use Rattle.std.proofs.lemmas.Fmt.{decimal_injective, decimal_nonempty}
use Rattle.rt_base.specs.Names.{is_name, AreNames}
use Rattle.scenario_writer.specs.Generated.{each, is_even, dated_name, txn_name}
use Rattle.scenario_writer.proofs.Each.{is_numbered}

-- elements of a list that is made from a number
pub at_each : {A : Type 0} (f : ℕ → A) (n i : ℕ) (d : A) → i < n → get_or (each f n) i d ≡ f i
at_each f n i d lt = get_or-map-range_with_len f 0 n i i d lt (zero-add i)

pub length_each : {A : Type 0} (f : ℕ → A) (n : ℕ) → length (each f n) ≡ n
length_each f n = length-map-range_with_len f 0 n

pub length_with : {A : Type 0} (f : ℕ → A) (n : ℕ) (x : A) → length (each f n ++ x ∷ []) ≡ n + 1
length_with f n x = length_push (each f n) x ∙ ap (λ (k : ℕ). k + 1) (length_each f n)

pub before_last : {A : Type 0} (f : ℕ → A) (n i : ℕ) (x d : A) → i < n → get_or (each f n ++ x ∷ []) i d ≡ f i
before_last f n i x d lt = get_or_append_left (each f n) (x ∷ []) d i (let e : length
    (each f n) ≡ n = length_each f n in omega arith)
    ∙ at_each f n i d lt

pub at_last : {A : Type 0} (f : ℕ → A) (n : ℕ) (x d : A) → get_or (each f n ++ x ∷ []) n d ≡ x
at_last f n x d = get_or_push (each f n) x d n (length_each f n)

plain_if : (b : Bool) (i : ℕ) → i < 64 → is_name (cond b (codes "s" ++ decimal i) (codes "d" ++ decimal i)) ≡ true
plain_if true i lt = is_numbered 115 i refl lt
plain_if false i lt = is_numbered 100 i refl lt

number_if : (b : Bool) (i : ℕ) → drop 1 (cond b (codes "s" ++ decimal i) (codes "d" ++ decimal i)) ≡ decimal i
number_if true i = refl
number_if false i = refl

pub dated_plain : (i : ℕ) → i < 64 → is_name (dated_name i) ≡ true
dated_plain i lt = plain_if (is_even i) i lt

dated_once : (i j : ℕ) → i < 64 → j < 64 → dated_name i ≡ dated_name j → i ≡ j
dated_once i j a b e = decimal_injective i j (omega arith) (omega arith)
    (sym (number_if (is_even i) i) ∙ ap (drop 1) e ∙ number_if (is_even j) j)

dated_other : (i : ℕ) → i < 64 → dated_name i ≡ codes "m" → ⊥
dated_other i lt e =
    let none : decimal i ≡ [] = sym (number_if (is_even i) i) ∙ ap (drop 1) e in
    let some : 0 < length (decimal i) = decimal_nonempty i (omega arith) in
    let zero_long : length (decimal i) ≡ 0 = ap length none in
    absurd (omega arith)

module _ (n : ℕ) (few : n ≤ 64) where
  abbrev items : List (List ℕ)
  items = each dated_name n ++ codes "m" ∷ []

  below_or_last : (i : ℕ) → i < length items → (i < n) ⊎ (i ≡ n)
  below_or_last i lt = let e : length items ≡ n + 1 = length_with dated_name n (codes "m") in
      elim (cases_lt i n) [ inl less ↦ inl less | inr more ↦ inr (omega arith) ]

  plain_at : (i : ℕ) → (i < n) ⊎ (i ≡ n) → is_name (get_or items i []) ≡ true
  plain_at i (inl lt) = ap is_name (before_last dated_name n i (codes "m") [] lt) ∙ dated_plain i (omega arith)
  plain_at i (inr e) = ap (λ (k : ℕ). is_name (get_or items k [])) e ∙ ap is_name (at_last dated_name n (codes "m") [])

  once_at : (i j : ℕ) → (i < n) ⊎ (i ≡ n) → (j < n) ⊎ (j ≡ n) → get_or items i [] ≡ get_or items j [] → i ≡ j
  once_at i j (inl a) (inl b) e = dated_once i j (omega arith) (omega arith)
      (sym (before_last dated_name n i (codes "m") [] a) ∙ e ∙ before_last dated_name n j (codes "m") [] b)
  once_at i j (inl a) (inr b) e = absurd (dated_other i (omega arith)
      (sym (before_last dated_name n i (codes "m") [] a) ∙ e ∙ ap (λ (k : ℕ). get_or items k []) b
      ∙ at_last dated_name n (codes "m") []))
  once_at i j (inr a) (inl b) e = absurd (dated_other j (omega arith)
      (sym (before_last dated_name n j (codes "m") [] b) ∙ sym e ∙ ap (λ (k : ℕ). get_or items k []) a
      ∙ at_last dated_name n (codes "m") []))
  once_at i j (inr a) (inr b) e = a ∙ sym b

  pub item_names : AreNames (each dated_name n ++ codes "m" ∷ [])
  item_names = record {
    plain = λ i lt. plain_at i (below_or_last i lt);
    once = λ i j a b e. once_at i j (below_or_last i a) (below_or_last j b) e;
  }

  pub txn_names : AreNames (each txn_name n)
  txn_names = record {
    plain = λ i lt. let e : length (each txn_name n) ≡ n = length_each txn_name n in
        ap is_name (at_each txn_name n i [] (omega arith)) ∙ is_numbered 116 i refl (omega arith);
    once = λ i j a b e. let l : length (each txn_name n) ≡ n = length_each txn_name n in
        decimal_injective i j (omega arith) (omega arith) (ap (drop 1) (sym (at_each txn_name n i [] (omega arith)) ∙ e
        ∙ at_each txn_name n j [] (omega arith)));
  }
