-- How far the validity of an item may fall: to its age bound, if somebody reads it.
use Rattle.std.specs.Prelude.{ℕ, Bool, List, Option, None, option_map, pos, slice_index_or, slice_set, if◌then◌else◌}
use Rattle.std.specs.List.{list_any}
use Rattle.item_model.specs.declared.decl.ItemDecl.{ItemDecl}
use Rattle.item_model.specs.declared.decl.ItemKind.{ItemKind}
use Rattle.item_model.specs.declared.decl.ItemKind.TheVariants.{Sensor, Derived, State}
use Rattle.item_model.specs.Kinds.{validity_of}
use Rattle.txn_set.specs.declared.decl.TxnDecl.{TxnDecl}
use Rattle.txn_set.specs.Set.{Set, may_read}
use Rattle.set_admission.specs.Bounds.{age_of}
use Rattle.scale_margin.specs.declared.limits.Spare.{Spare}

-- an item with another validity; a state item has none
abbrev pub kind_with : ItemKind → ℕ → ItemKind
kind_with (Sensor validity) other = Sensor other
kind_with (Derived validity) other = Derived other
kind_with State other = State

-- what stands for an item that the set does not have
abbrev pub no_item : ItemDecl
no_item = record { kind = State; initial = pos 0 }

abbrev pub item_with : ItemDecl → ℕ → ItemDecl
item_with decl validity = record decl { kind = kind_with decl.kind validity }

-- a set in which an item has another validity, all else as it is
abbrev pub with_validity : Set → ℕ → ℕ → Set
with_validity set item validity =
    record set { items = slice_set set.items item (item_with (slice_index_or set.items item no_item) validity) }

-- whether some transaction may read the item
abbrev pub is_read : List TxnDecl → ℕ → Bool
is_read txns item = list_any (λ t. may_read t item) txns

-- the validity of an item that somebody reads, and its age bound
abbrev pub spare_of : Set → ℕ → Option Spare
spare_of set item =
    if is_read set.txns item
    then option_map (λ validity. record { validity = validity; age = age_of set item }) (validity_of set.items item)
    else None
