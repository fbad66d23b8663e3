-- The items of a scenario.
use Rattle.std.specs.Prelude.{ℕ, pos, ◌^◌, ◌||◌, List, [], ◌∷◌, ◌++◌, length, codes, Bool, if◌then◌else◌, Option, Some, None, Result, Ok, option_and_then, is_none}
use Rattle.std.specs.Str.{bytes_eq}
use Rattle.name_table.specs.Places.{place_in}
use Rattle.item_model.specs.declared.decl.ItemKind.{ItemKind}
use Rattle.item_model.specs.declared.decl.ItemKind.TheVariants as kinds
use Rattle.item_model.specs.declared.decl.ItemDecl.{ItemDecl}
use Rattle.serde_json.specs.Data.{Data}
use Rattle.serde_json.specs.Find.{get, as_str}
use Rattle.scenario_forms.specs.declared.error.Place.{Place}
use Rattle.scenario_forms.specs.declared.error.Place.TheVariants as places
use Rattle.scenario_forms.specs.declared.error.ItemMember.TheVariants as members
use Rattle.scenario_forms.specs.declared.error.FormError.{FormError}
use Rattle.scenario_forms.specs.declared.item.KindWord.{KindWord}
use Rattle.scenario_forms.specs.declared.item.KindWord.TheVariants as words
use Rattle.scenario_forms.specs.declared.item.ItemTable.{ItemTable}
use Rattle.scenario_forms.specs.Reading.{◌>>=◌, needed, member_at, member_or}
use Rattle.scenario_forms.specs.Fields.{Places, whole, integer, new_name, no_others, formed_unit}

abbrev pub is_item_member : List ℕ → Bool
is_item_member k = bytes_eq k (codes "name") || bytes_eq k (codes "kind") || bytes_eq k (codes "validity") || bytes_eq
    k (codes "value")

abbrev pub kind_word : List ℕ → Option KindWord
kind_word text = if bytes_eq text (codes "sensor") then Some words.Sensor else
    (if bytes_eq text (codes "derived") then Some words.Derived else
    (if bytes_eq text (codes "state") then Some words.State else None))

abbrev pub kind_form : Data → Option KindWord
kind_form d = option_and_then kind_word (as_str d)

-- the kind with its validity, which a state item does not have
unfoldable pub item_kind : Place → KindWord → Data → Result ItemKind FormError
item_kind place words.State d = needed place (if is_none (get (codes "validity") d) then Some kinds.State else None)
item_kind place words.Sensor d = do
  validity ← member_at place (whole 1 (2 ^ 40)) (codes "validity") d
  Ok (kinds.Sensor validity)
item_kind place words.Derived d = do
  validity ← member_at place (whole 1 (2 ^ 40)) (codes "validity") d
  Ok (kinds.Derived validity)

-- the item at a place, where these names are taken
unfoldable pub item_at : Places → ℕ → Data → Result (List ℕ × ItemDecl) FormError
item_at taken i d = do
  formed ← needed (places.Item i) (if no_others is_item_member d then Some formed_unit else None)
  name ← member_at (places.ItemMember i members.Name) (new_name taken) (codes "name") d
  word ← member_at (places.ItemMember i members.Kind) kind_form (codes "kind") d
  kind ← item_kind (places.ItemMember i members.Validity) word d
  initial ← member_or (pos 0) (places.ItemMember i members.Value) integer (codes "value") d
  Ok (name, record { kind = kind; initial = initial })

-- items by their names, each of which has its place
pub record Table : Type 0 where
  pub names : List (List ℕ)
  pub decls : List ItemDecl

abbrev pub no_items_yet : Table
no_items_yet = record { names = []; decls = [] }

abbrev pub with_item : Table → List ℕ × ItemDecl → Table
with_item t x = record { names = t.names ++ x.0 ∷ []; decls = t.decls ++ x.1 ∷ [] }

-- one more item
unfoldable pub item_step : Table → Data → Result Table FormError
item_step t d = item_at (place_in t.names) (length t.names) d >>= λ x. Ok (with_item t x)

abbrev pub table_view : ItemTable → Table
table_view t = record { names = t.names; decls = t.decls.items }
