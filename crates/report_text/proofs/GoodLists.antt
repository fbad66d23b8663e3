-- A list of items that was read, and one more name.
use Rattle.std.proofs.Common.{◌≡◌, ◌⊎◌, ℕ, ◌+◌, ◌<◌, ◌≤◌, Bool, true, false, cond, leb, inl, inr, List, [], ◌∷◌, ◌++◌, length, get_or, Option, Some, None, refl, sym, ap, subst, ◌∙◌, arith, codes, length-append}
use Rattle.std.specs.Prelude.{is_some}
use Rattle.std.specs.Str.{bytes_eq}
use Rattle.std.specs.List.{All, AllPairs}
use Rattle.std.proofs.lemmas.Bool.{leb-true, cases_order}
use Rattle.std.proofs.lemmas.List.{get_or_append_left}
use Rattle.std.proofs.lemmas.List.Elements.{All-append, All-cons, All-nil}
use Rattle.std.proofs.lemmas.List.Quantifiers.{all_pairs_push}
use Rattle.rt_base.specs.declared.ids.ItemId.{ItemId}
use Rattle.rt_base.specs.Names.{is_name, name_of, AreNames}
use Rattle.journal_text.specs.Ids.{name_at, index_of}
use Rattle.line_fields.proofs.CutLaws.{some_is, none_some, bind_some, chosen}
use Rattle.journal_text.proofs.IdLaws.{index_takes, index_again}
use Rattle.report_text.specs.Pieces.{all_pieces}
use Rattle.report_text.specs.Head.{rising, list_of, fresh_of}

-- ---- lists of items

-- items of the names in rising order
pub record AreGood (count : ℕ) (ids : List ItemId) : Type 0 where
  pub rising : AllPairs (λ a b. a.0 < b.0) ids
  pub in_range : All (λ i. i.0 < count) ids

abbrev Below : ℕ → List ItemId → Type 0
Below least ids = All (λ i. i.0 < least) ids

none_good : (count : ℕ) → AreGood count []
none_good count = record {
  rising = λ i j d lt less. absurd (omega arith);
  in_range = All-nil (λ i. i.0 < count);
}

more_good : (count least i : ℕ) (ids : List ItemId) → AreGood count ids → Below least ids → least ≤ i → i < count
    → AreGood count (ids ++ record { 0 = i } ∷ [])
more_good count least i ids good below le lt = record {
  rising = all_pairs_push (λ a b. a.0 < b.0) ids (record { 0 = i }) good.rising (λ k d h. omega (arith, below k d h, le));
  in_range = All-append (λ j. j.0 < count) ids (record { 0 = i } ∷ []) good.in_range
      (All-cons (λ j. j.0 < count) (record { 0 = i }) [] lt (All-nil (λ j. j.0 < count)));
}

more_below : (least i : ℕ) (ids : List ItemId) → Below least ids → least ≤ i
    → Below (i + 1) (ids ++ record { 0 = i } ∷ [])
more_below least i ids below le =
    All-append (λ j. j.0 < i + 1) ids (record { 0 = i } ∷ []) (λ k d h. omega (arith, below k d h, le))
    (All-cons (λ j. j.0 < i + 1) (record { 0 = i }) [] (omega arith) (All-nil (λ j. j.0 < i + 1)))

rising_good : (items : List (List ℕ)) (least : ℕ) (ids : List ItemId) (ws : List (List ℕ)) (out : List ItemId)
    → AreGood (length items) ids → Below least ids → rising items least ids ws ≡ Some out → AreGood (length items) out
rising_good items least ids [] out good below e = subst (AreGood (length items)) (some_is ids out e) good
rising_good items least ids (w ∷ ws) out good below e =
    let i = bind_some (index_of items w) _ out e in
    let t = chosen (leb least i.0) _ out i.2 in
    let le : least ≤ i.0 = leb-true least i.0 t.0 in
    let lt : i.0 < length items = (index_takes items w i.0 i.1).0 in
    rising_good items (i.0 + 1) (ids ++ record { 0 = i.0 } ∷ []) ws out (more_good (length items) least i.0 ids good below le lt)
    (more_below least i.0 ids below le) t.1

listed_good : (items : List (List ℕ)) (ids : List ItemId) (test : Bool) (ws : List (List ℕ))
    → cond test (Some []) (rising items 0 [] ws) ≡ Some ids → AreGood (length items) ids
listed_good items ids true ws e = subst (AreGood (length items)) (some_is [] ids e) (none_good (length items))
listed_good items ids false ws e =
    rising_good items 0 [] ws ids (none_good (length items)) (All-nil (λ i. i.0 < 0)) e

pub list_good : (items : List (List ℕ)) (w : List ℕ) (ids : List ItemId) → list_of items w ≡ Some ids
    → AreGood (length items) ids
unfolding list_of
list_good items w ids e = listed_good items ids (bytes_eq w (codes "-")) (all_pieces 44 w) e

-- ---- names

pub at_end : {A : Type 0} (xs : List A) (x d : A) → get_or (xs ++ x ∷ []) (length xs) d ≡ x
at_end [] x d = refl
at_end (y ∷ xs) x d = at_end xs x d

-- a place in a list with one more
inside : {A : Type 0} (xs : List A) (x : A) (i : ℕ) → i < length (xs ++ x ∷ []) → (i < length xs) ⊎ (i ≡ length xs)
inside xs x i lt = elim (cases_order i (length xs)) [
  | inl same ↦ inr same
  | inr other ↦ elim other [
    | inl below ↦ inl below
    | inr above ↦ absurd (omega (arith, length-append xs (x ∷ [])))
  ]
]

before : (names : List (List ℕ)) (name : List ℕ) (i : ℕ) → i < length names
    → name_at (names ++ name ∷ []) i ≡ name_at names i
before names name i lt = get_or_append_left names (name ∷ []) [] i lt

last : (names : List (List ℕ)) (name : List ℕ) (i : ℕ) → i ≡ length names → name_at (names ++ name ∷ []) i ≡ name
last names name i e = ap (name_at (names ++ name ∷ [])) e ∙ at_end names name []

plain_at : (names : List (List ℕ)) (name : List ℕ) (i : ℕ) → AreNames names → is_name name ≡ true
    → (i < length names) ⊎ (i ≡ length names) → is_name (name_at (names ++ name ∷ []) i) ≡ true
plain_at names name i good plain (inl lt) = ap is_name (before names name i lt) ∙ good.plain i lt
plain_at names name i good plain (inr e) = ap is_name (last names name i e) ∙ plain

once_at : (names : List (List ℕ)) (name : List ℕ) (i j : ℕ) → AreNames names
    → ((k : ℕ) → k < length names → name_at names k ≡ name → ⊥)
    → (i < length names) ⊎ (i ≡ length names) → (j < length names) ⊎ (j ≡ length names)
    → name_at (names ++ name ∷ []) i ≡ name_at (names ++ name ∷ []) j → i ≡ j
once_at names name i j good new (inl lt) (inl less) same =
    good.once i j lt less (sym (before names name i lt) ∙ same ∙ before names name j less)
once_at names name i j good new (inl lt) (inr e) same =
    absurd (new i lt (sym (before names name i lt) ∙ same ∙ last names name j e))
once_at names name i j good new (inr e) (inl less) same =
    absurd (new j less (sym (before names name j less) ∙ sym same ∙ last names name i e))
once_at names name i j good new (inr e) (inr f) same = e ∙ sym f

one_more : (names : List (List ℕ)) (name : List ℕ) → AreNames names → is_name name ≡ true
    → ((k : ℕ) → k < length names → name_at names k ≡ name → ⊥) → AreNames (names ++ name ∷ [])
one_more names name good plain new = record {
  plain = λ i lt. plain_at names name i good plain (inside names name i lt);
  once = λ i j lt less same. once_at names name i j good new (inside names name i lt) (inside names name j less) same;
}

new_name : (names : List (List ℕ)) (w : List ℕ) → AreNames names → is_some (index_of names w) ≡ false
    → (k : ℕ) → k < length names → name_at names k ≡ w → ⊥
new_name names w good none k lt same =
    let found : index_of names w ≡ Some k = ap (index_of names) (sym same) ∙ index_again names k good lt in
    let some : is_some (index_of names w) ≡ true = ap is_some found in absurd cc

named : (names : List (List ℕ)) (w name : List ℕ) → AreNames names → (plain : Bool) → is_name w ≡ plain
    → is_some (index_of names w) ≡ false → cond plain (Some w) None ≡ Some name → AreNames (names ++ name ∷ [])
named names w name good true is none e =
    subst (λ (n : List ℕ). AreNames (names ++ n ∷ [])) (some_is w name e) (one_more names w good is (new_name names w good none))
named names w name good false is none e = absurd (none_some name e)

fresh_at : (names : List (List ℕ)) (w name : List ℕ) → AreNames names → (known : Bool)
    → is_some (index_of names w) ≡ known
    → cond known None (name_of w) ≡ Some name → AreNames (names ++ name ∷ [])
fresh_at names w name good true is e = absurd (none_some name e)
fresh_at names w name good false is e = named names w name good (is_name w) refl is e

no_place : (o : Option ℕ) → is_some o ≡ false → o ≡ None
no_place None e = refl
no_place (Some i) e = absurd cc

same_word : (w name : List ℕ) (plain : Bool) → cond plain (Some w) None ≡ Some name → w ≡ name
same_word w name true e = some_is w name e
same_word w name false e = absurd (none_some name e)

new_at : (names : List (List ℕ)) (w name : List ℕ) (known : Bool) → is_some (index_of names w) ≡ known
    → cond known None (name_of w) ≡ Some name → index_of names name ≡ None
new_at names w name true is e = absurd (none_some name e)
new_at names w name false is e =
    subst (λ (n : List ℕ). index_of names n ≡ None) (same_word w name (is_name w) e) (no_place (index_of names w) is)

-- a name that has no place, and that stands behind names as one of them
abbrev pub IsFresh : List (List ℕ) → List ℕ → Type 0
IsFresh names name = (index_of names name ≡ None) × (AreNames names → AreNames (names ++ name ∷ []))

pub fresh_good : (names : List (List ℕ)) (w name : List ℕ) → fresh_of names w ≡ Some name → IsFresh names name
unfolding fresh_of
fresh_good names w name e = (
  new_at names w name (is_some (index_of names w)) refl e,
  λ good. fresh_at names w name good (is_some (index_of names w)) refl e,
)
