-- What an item is by its declaration. An item goes by its place in the list of declarations.
use Rattle.std.specs.Prelude.{ℕ, Bool, true, false, List, Option, None, Some, is_some, slice_get}
use Rattle.std.specs.Option.{option_and_then}
use Rattle.item_model.specs.declared.decl.ItemDecl.{ItemDecl}
use Rattle.item_model.specs.declared.decl.ItemKind.{ItemKind}
use Rattle.item_model.specs.declared.decl.ItemKind.TheVariants.{Sensor, Derived, State}
use Rattle.item_model.specs.declared.stored.Stored.{Stored}

-- an item at the start: its declared value, and the stamp 0
abbrev pub initial_of : ItemDecl → Stored
initial_of decl = record { value = decl.initial; stamp = 0 }

-- a sensor or derived item has a validity, and a state item has none
abbrev pub validity_of_kind : ItemKind → Option ℕ
validity_of_kind (Sensor validity) = Some validity
validity_of_kind (Derived validity) = Some validity
validity_of_kind State = None

abbrev pub is_derived_kind : ItemKind → Bool
is_derived_kind (Derived validity) = true
is_derived_kind other = false

-- the validity of an item; none where it is a state item or no item at all
abbrev pub validity_of : List ItemDecl → ℕ → Option ℕ
validity_of decls item = option_and_then (λ d. validity_of_kind d.kind) (slice_get decls item)

-- whether it is a sensor or derived item
abbrev pub is_dated : List ItemDecl → ℕ → Bool
is_dated decls item = is_some (validity_of decls item)

abbrev pub is_derived_decl : Option ItemDecl → Bool
is_derived_decl None = false
is_derived_decl (Some d) = is_derived_kind d.kind

abbrev pub is_derived : List ItemDecl → ℕ → Bool
is_derived decls item = is_derived_decl (slice_get decls item)
