-- A whole scenario by its forms.
use Rattle.std.specs.Prelude.{ℕ, ◌&&◌, ◌||◌, List, [], map, codes, Bool, if◌then◌else◌, Some, None, Result, Ok, option_and_then, is_some}
use Rattle.std.specs.Str.{bytes_eq}
use Rattle.name_table.specs.Places.{place_in}
use Rattle.serde_json.specs.Data.{Data}
use Rattle.serde_json.specs.Find.{get, as_array}
use Rattle.scenario_forms.specs.declared.error.Place.TheVariants as places
use Rattle.scenario_forms.specs.declared.error.FormError.{FormError}
use Rattle.scenario_forms.specs.declared.root.Forms.{Forms}
use Rattle.scenario_forms.specs.Reading.{◌>>=◌, needed, member_at, array_at, fold_at}
use Rattle.scenario_forms.specs.Fields.{Places, whole, no_others, formed_unit}
use Rattle.scenario_forms.specs.Items.{Table, item_step, no_items_yet, table_view}
use Rattle.scenario_forms.specs.Txns.{Txns, txn_step, no_txns_yet, txns_view}
use Rattle.scenario_forms.specs.Sets.{Together, set_step, set_view}

-- together is a member in version 2 alone
abbrev pub is_root_member : Bool → List ℕ → Bool
is_root_member second k = bytes_eq k (codes "version") || bytes_eq k (codes "items") || bytes_eq k
    (codes "transactions") || (second && bytes_eq k (codes "together"))

-- the tables are those of version 2
abbrev pub is_second : Data → Bool
is_second d = is_some (option_and_then (whole 2 2) (get (codes "version") d))

-- a scenario as it was read
pub record Formed : Type 0 where
  pub version : ℕ
  pub items : Table
  pub txns : Txns
  pub sets : List Together

abbrev pub forms_view : Forms → Formed
forms_view f = record {
  version = f.version;
  items = table_view f.items;
  txns = txns_view f.txns;
  sets =
      map set_view f.sets.items;
}

-- the object itself, and its version
unfoldable pub head_at : Data → Result ℕ FormError
head_at d = do
  formed ← needed places.Root (if no_others (is_root_member (is_second d)) d then Some formed_unit else None)
  member_at places.Version (whole 1 2) (codes "version") d

unfoldable pub items_at : Data → Result Table FormError
items_at d = do
  values ← member_at places.Items as_array (codes "items") d
  fold_at item_step no_items_yet values

unfoldable pub txns_at : Bool → Places → Data → Result Txns FormError
txns_at second items d = do
  values ← member_at places.Txns as_array (codes "transactions") d
  fold_at (txn_step second items) no_txns_yet values

unfoldable pub sets_at : Places → Data → Result (List Together) FormError
sets_at items d = do
  values ← array_at places.Together (codes "together") d
  fold_at (set_step items) [] values

unfoldable pub forms_at : Data → Result Formed FormError
forms_at d = do
  version ← head_at d
  items ← items_at d
  txns ← txns_at (is_second d) (place_in items.names) d
  sets ← sets_at (place_in items.names) d
  Ok (record { version = version; items = items; txns = txns; sets = sets })
