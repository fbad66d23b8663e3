-- A name that is read has no place yet.
use Rattle.std.proofs.Common.{◌≡◌, ℕ, Bool, true, false, cond, List, codes, pos, Option, Some, None, Result, Ok, Err, refl, sym, ap, subst}
use Rattle.std.specs.Prelude.{if◌then◌else◌, option_and_then, is_some}
use Rattle.rt_base.specs.Names.{name_of, is_name}
use Rattle.serde_json.specs.Data.{Data}
use Rattle.serde_json.specs.Find.{get, as_str}
use Rattle.item_model.specs.declared.decl.ItemDecl.{ItemDecl}
use Rattle.item_model.specs.declared.decl.ItemKind.{ItemKind}
use Rattle.scenario_forms.specs.declared.error.Place.{Place}
use Rattle.scenario_forms.specs.declared.error.FormError.{FormError}
use Rattle.scenario_forms.specs.declared.error.Place.TheVariants as places
use Rattle.scenario_forms.specs.declared.error.ItemMember.TheVariants as members
use Rattle.scenario_forms.specs.declared.error.TxnMember.TheVariants as txn_members
use Rattle.scenario_forms.specs.Reading.{◌>>=◌, needed, member_at, member_or}
use Rattle.scenario_forms.specs.Fields.{Places, new_name, unless_placed, integer, no_others, formed_unit}
use Rattle.scenario_forms.specs.Items.{item_at, is_item_member, kind_form, item_kind}
use Rattle.scenario_forms.specs.Txns.{is_txn_member, txn_name}

-- what holds of an answer, if there is one
abbrev pub Holds : {A : Type 0} → (A → Type 0) → Result A FormError → Type 0
Holds P (Ok a) = P a
Holds P (Err e) = Unit {0}

pub through : {A B : Type 0} (P : B → Type 0) (r : Result A FormError) (f : A → Result B FormError)
    → ((a : A) → r ≡ Ok a → Holds P (f a)) → Holds P (r >>= f)
through P (Ok a) f h = h a refl
through P (Err e) f h = tt

pub holds_ok : {A : Type 0} (P : A → Type 0) (r : Result A FormError) (a : A) → Holds P r → r ≡ Ok a → P a
holds_ok P r a h is = subst (λ s. Holds P s) is h

-- a name that has no place
abbrev pub IsFresh : Places → List ℕ → Type 0
IsFresh places name = (places name ≡ None) × (is_name name ≡ true)

named_by : (places : Places) (text name : List ℕ) (b : Bool) → is_name text ≡ b → places text ≡ None
    → cond b (Some text) None ≡ Some name → IsFresh places name
named_by places text name false is fresh h = absurd cc
named_by places text name true is fresh h =
    let same : text ≡ name = cc in
    (subst (λ (n : List ℕ). places n ≡ None) same fresh, subst (λ (n : List ℕ). is_name n ≡ true) same is)

fresh_by : (places : Places) (text name : List ℕ) (o : Option ℕ) → places text ≡ o
    → cond (is_some o) None (name_of text) ≡ Some name → IsFresh places name
fresh_by places text name (Some k) is h = absurd cc
fresh_by places text name None is h = named_by places text name (is_name text) refl is h

fresh_text : (places : Places) (o : Option (List ℕ)) (name : List ℕ)
    → option_and_then (unless_placed places) o ≡ Some name
    → IsFresh places name
fresh_text places None name h = absurd cc
fresh_text places (Some text) name h = fresh_by places text name (places text) refl h

fresh_data : (places : Places) (o : Option Data) (name : List ℕ) → option_and_then (new_name places) o ≡ Some name
    → IsFresh places name
fresh_data places None name h = absurd cc
fresh_data places (Some d) name h = fresh_text places (as_str d) name h

pub needed_is : {A : Type 0} (place : Place) (o : Option A) (x : A) → needed place o ≡ Ok x → o ≡ Some x
needed_is place None x h = absurd cc
needed_is place (Some y) x h = ap Some cc

fresh_member : (places : Places) (place : Place) (d : Data) (name : List ℕ)
    → member_at place (new_name places) (codes "name") d ≡ Ok name → IsFresh places name
unfolding member_at
fresh_member places place d name h =
    fresh_data places (get (codes "name") d) name (needed_is place
    (option_and_then (new_name places) (get (codes "name") d)) name h)

fresh_name : (places : Places) (place : Place) (d : Data)
    → Holds (IsFresh places) (member_at place (new_name places) (codes "name") d)
fresh_name places place d = held (member_at place (new_name places) (codes "name") d)
    (λ name is. fresh_member places place d name is)
  where
    held : (r : Result (List ℕ) FormError) → ((name : List ℕ) → r ≡ Ok name → IsFresh places name)
        → Holds (IsFresh places) r
    held (Ok name) h = h name refl
    held (Err e) h = tt

-- items

abbrev pub HasFresh : Places → List ℕ × ItemDecl → Type 0
HasFresh places x = IsFresh places x.0

abbrev pub after_kind : ℕ → Data → List ℕ → ItemKind → Result (List ℕ × ItemDecl) FormError
after_kind i d name kind =
    member_or (pos 0) (places.ItemMember i members.Value) integer (codes "value") d >>= λ initial. Ok
    (name, record { kind = kind; initial = initial })

abbrev pub after_name : ℕ → Data → List ℕ → Result (List ℕ × ItemDecl) FormError
after_name i d name =
    member_at (places.ItemMember i members.Kind) kind_form (codes "kind") d
    >>= λ word. item_kind (places.ItemMember i members.Validity) word d >>= after_kind i d name

abbrev pub after_form : Places → ℕ → Data → Unit {0} → Result (List ℕ × ItemDecl) FormError
after_form taken i d formed = member_at (places.ItemMember i members.Name) (new_name taken) (codes "name") d >>=
    after_name i d

abbrev pub item_form : Data → Option (Unit {0})
item_form d = if no_others is_item_member d then Some formed_unit else None

pub item_at_is : (taken : Places) (i : ℕ) (d : Data) → item_at taken i d ≡
    (needed (places.Item i) (item_form d) >>= after_form taken i d)
unfolding item_at
item_at_is taken i d = refl

kind_keeps : (taken : Places) (i : ℕ) (d : Data) (name : List ℕ) (kind : ItemKind) → IsFresh taken name
    → Holds (HasFresh taken) (after_kind i d name kind)
kind_keeps taken i d name kind fresh =
    through (HasFresh taken) (member_or (pos 0) (places.ItemMember i members.Value) integer (codes "value") d)
    (λ initial. Ok (name, record { kind = kind; initial = initial })) (λ initial is. fresh)

name_keeps : (taken : Places) (i : ℕ) (d : Data) (name : List ℕ) → IsFresh taken name
    → Holds (HasFresh taken) (after_name i d name)
name_keeps taken i d name fresh =
    through (HasFresh taken) (member_at (places.ItemMember i members.Kind) kind_form (codes "kind") d)
    (λ word. item_kind (places.ItemMember i members.Validity) word d >>= after_kind i d name)
    (λ word word_is. through (HasFresh taken) (item_kind (places.ItemMember i members.Validity) word d)
    (after_kind i d name)
    (λ kind kind_is. kind_keeps taken i d name kind fresh))

pub item_fresh : (taken : Places) (i : ℕ) (d : Data) → Holds (HasFresh taken) (item_at taken i d)
item_fresh taken i d =
    subst (λ (r : Result (List ℕ × ItemDecl) FormError). Holds (HasFresh taken) r) (sym (item_at_is taken i d))
    (through (HasFresh taken) (needed (places.Item i) (item_form d)) (after_form taken i d)
    (λ formed formed_is. through (HasFresh taken) (member_at (places.ItemMember i members.Name) (new_name taken)
    (codes "name") d) (after_name i d)
    (λ name name_is. name_keeps taken i d name (fresh_member taken (places.ItemMember i members.Name) d name name_is))))

-- transactions

abbrev pub txn_form : Bool → Data → Option (Unit {0})
txn_form second d = if no_others (is_txn_member second) d then Some formed_unit else None

pub txn_fresh : (second : Bool) (taken : Places) (i : ℕ) (d : Data) → Holds (IsFresh taken) (txn_name second taken i d)
unfolding txn_name
txn_fresh second taken i d =
    through (IsFresh taken) (needed (places.Txn i) (txn_form second d))
    (λ formed. member_at (places.TxnMember i txn_members.Name) (new_name taken) (codes "name") d)
    (λ formed is. fresh_name taken (places.TxnMember i txn_members.Name) d)
