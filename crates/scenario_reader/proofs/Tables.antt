-- The names of items and transactions that were read.
use Rattle.std.proofs.Common.{◌≡◌, ℕ, ◌+◌, Bool, true, inl, inr, List, [], ◌∷◌, ◌++◌, length, None, Result, Ok, refl, sym, subst, arith, length-append}
use Rattle.std.specs.Prelude.{slice_index_or}
use Rattle.std.specs.List.{All, AllPairs}
use Rattle.std.proofs.lemmas.Bool.{cases_order}
use Rattle.std.proofs.lemmas.List.Elements.{All-append, All-cons, All-nil}
use Rattle.std.proofs.lemmas.List.Quantifiers.{all_pairs_push}
use Rattle.rt_base.specs.Names.{is_name, AreNames}
use Rattle.name_table.specs.Places.{place_in}
use Rattle.name_table.proofs.Places.{none_is}
use Rattle.serde_json.specs.Data.{Data, Items, no_items, item}
use Rattle.item_model.specs.declared.decl.ItemDecl.{ItemDecl}
use Rattle.scenario_forms.specs.declared.error.FormError.{FormError}
use Rattle.scenario_forms.specs.Reading.{◌>>=◌, fold_at}
use Rattle.scenario_forms.specs.Fields.{Places}
use Rattle.scenario_forms.specs.Items.{Table, with_item, item_at, item_step, no_items_yet}
use Rattle.scenario_forms.specs.Txns.{Txn, Txns, with_txn, txn_name, txn_at, txn_step, no_txns_yet}
use Rattle.scenario_forms.specs.Root.{Formed, is_second, head_at, sets_at, forms_at, items_at, txns_at}
use Rattle.scenario_forms.proofs.FreshNames.{Holds, through, holds_ok, IsFresh, HasFresh, item_fresh, txn_fresh}

-- names, as many as there are declarations
pub record IsTable (names : List (List ℕ)) (count : ℕ) : Type 0 where
  pub all : length names ≡ count
  pub plain : All (λ n. is_name n ≡ true) names
  pub apart : AllPairs (λ a b. a ≡ b → ⊥) names

pub none_yet : IsTable [] 0
none_yet = record {
  all = refl;
  plain = All-nil (λ n. is_name n ≡ true);
  apart = λ i j d lt less. absurd (omega arith);
}

-- one more name, which had no place
pub with_name : (names : List (List ℕ)) (count : ℕ) (name : List ℕ) → IsTable names count
    → IsFresh (place_in names) name → IsTable (names ++ name ∷ []) (count + 1)
with_name names count name h fresh = record {
  all = omega (arith, length-append names (name ∷ []), h.all);
  plain = All-append (λ n. is_name n ≡ true) names (name ∷ []) h.plain
      (All-cons (λ n. is_name n ≡ true) name [] fresh.1 (All-nil (λ n. is_name n ≡ true)));
  apart = all_pairs_push (λ a b. a ≡ b → ⊥) names name h.apart (none_is names name fresh.0);
}

pub are_names : (names : List (List ℕ)) (count : ℕ) → IsTable names count → AreNames names
are_names names count h = record {
  plain = λ i lt. h.plain i [] lt;
  once = λ i j lt less same. elim (cases_order i j) [
    | inl e ↦ e
    | inr other ↦ elim other [
      | inl below ↦ absurd (h.apart i j [] below less same)
      | inr above ↦ absurd (h.apart j i [] above lt (sym same))
    ]
  ];
}

-- arrays
pub folded : {A : Type 0} (P : A → Type 0) (step : A → Data → Result A FormError)
    → ((a : A) (d : Data) → P a → Holds P (step a d))
    → (ds : Items) (a : A) → P a → Holds P (fold_at step a ds)
unfolding fold_at
folded P step each no_items a h = h
folded P step each (item d ds) a h =
    through P (step a d) (λ b. fold_at step b ds) (λ b is. folded P step each ds b
    (holds_ok P (step a d) b (each a d h) is))

-- items
abbrev pub IsItemTable : Table → Type 0
IsItemTable t = IsTable t.names (length t.decls)

with_item_is : (t : Table) (x : List ℕ × ItemDecl) → IsItemTable t → IsFresh (place_in t.names) x.0
    → IsItemTable (with_item t x)
with_item_is t x h fresh =
    subst (λ (n : ℕ). IsTable (t.names ++ x.0 ∷ []) n) (sym (length-append t.decls (x.1 ∷ [])))
    (with_name t.names (length t.decls) x.0 h fresh)

item_steps : (t : Table) (d : Data) → IsItemTable t → Holds IsItemTable (item_step t d)
unfolding item_step
item_steps t d h =
    through IsItemTable (item_at (place_in t.names) (length t.names) d) (λ x. Ok (with_item t x))
    (λ x is. with_item_is t x h (holds_ok (HasFresh (place_in t.names)) (item_at (place_in t.names) (length t.names) d) x
    (item_fresh (place_in t.names) (length t.names) d) is))

pub items_hold : (d : Data) → Holds IsItemTable (items_at d)
unfolding items_at
items_hold d = through IsItemTable _ _ (λ values is. folded IsItemTable item_step item_steps values no_items_yet
    none_yet)

-- transactions
abbrev pub IsTxnTable : Txns → Type 0
IsTxnTable t = IsTable t.names (length t.txns)

with_txn_is : (t : Txns) (name : List ℕ) (x : Txn) → IsTxnTable t → IsFresh (place_in t.names) name
    → IsTxnTable (with_txn t name x)
with_txn_is t name x h fresh =
    subst (λ (n : ℕ). IsTable (t.names ++ name ∷ []) n) (sym (length-append t.txns (x ∷ [])))
    (with_name t.names (length t.txns) name h fresh)

txn_steps : (second : Bool) (items : Places) (t : Txns) (d : Data) → IsTxnTable t
    → Holds IsTxnTable (txn_step second items t d)
unfolding txn_step
txn_steps second items t d h =
    through IsTxnTable (txn_name second (place_in t.names) (length t.names) d) _
    (λ name name_is. through IsTxnTable (txn_at items (length t.names) d) _
    (λ x is. with_txn_is t name x h (holds_ok (IsFresh (place_in t.names)) (txn_name second (place_in t.names) (length t.names) d) name
    (txn_fresh second (place_in t.names) (length t.names) d) name_is)))

txns_hold : (second : Bool) (items : Places) (d : Data) → Holds IsTxnTable (txns_at second items d)
unfolding txns_at
txns_hold second items d =
    through IsTxnTable _ _ (λ values is. folded IsTxnTable (txn_step second items) (txn_steps second items) values
    no_txns_yet none_yet)

-- forms
abbrev pub HasTables : Formed → Type 0
HasTables f = IsItemTable f.items × IsTxnTable f.txns

abbrev pub after_txns : Data → ℕ → Table → Txns → Result Formed FormError
after_txns d version items txns =
    sets_at (place_in items.names) d >>= λ sets. Ok (record { version = version; items = items; txns = txns; sets = sets })

abbrev pub after_items : Data → ℕ → Table → Result Formed FormError
after_items d version items = txns_at (is_second d) (place_in items.names) d >>= after_txns d version items

abbrev pub after_version : Data → ℕ → Result Formed FormError
after_version d version = items_at d >>= after_items d version

pub forms_at_is : (d : Data) → forms_at d ≡ (head_at d >>= after_version d)
unfolding forms_at
forms_at_is d = refl

txns_keep : (d : Data) (version : ℕ) (items : Table) (txns : Txns) → IsItemTable items → IsTxnTable txns
    → Holds HasTables (after_txns d version items txns)
txns_keep d version items txns h k =
    through HasTables (sets_at (place_in items.names) d) (λ sets. Ok
    (record { version = version; items = items; txns = txns; sets = sets }))
    (λ sets is. (h, k))

items_keep : (d : Data) (version : ℕ) (items : Table) → IsItemTable items
    → Holds HasTables (after_items d version items)
items_keep d version items h =
    through HasTables (txns_at (is_second d) (place_in items.names) d) (after_txns d version items)
    (λ txns is. txns_keep d version items txns h (holds_ok IsTxnTable _ txns (txns_hold (is_second d) (place_in items.names) d)
    is))

forms_hold : (d : Data) → Holds HasTables (forms_at d)
forms_hold d =
    subst (λ (r : Result Formed FormError). Holds HasTables r) (sym (forms_at_is d))
    (through HasTables (head_at d) (after_version d)
    (λ version version_is. through HasTables (items_at d) (after_items d version)
    (λ items is. items_keep d version items (holds_ok IsItemTable (items_at d) items (items_hold d) is))))

pub forms_have : (d : Data) (f : Formed) → forms_at d ≡ Ok f → HasTables f
forms_have d f is = holds_ok HasTables (forms_at d) f (forms_hold d) is
