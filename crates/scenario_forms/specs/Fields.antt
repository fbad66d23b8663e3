-- The forms of members.
use Rattle.std.specs.Prelude.{ℕ, ◌+◌, ◌==◌, ℤ, ◌&&◌, List, Option, Some, None, nat_le, Bool, true, false, if◌then◌else◌, option_and_then, option_map, unwrap_or, is_some}
use Rattle.rt_base.specs.Names.{name_of}
use Rattle.rt_base.specs.declared.ids.ItemId.{ItemId}
use Rattle.serde_json.specs.Data.{Data, Members, no_members, member}
use Rattle.serde_json.specs.Find.{as_str, as_object, as_number, as_u64, as_i64}

-- a whole number from low to high
abbrev pub whole : ℕ → ℕ → Data → Option ℕ
whole low high d = option_and_then (λ n. if nat_le low n && nat_le n high then Some n else None)
    (option_and_then as_u64 (as_number d))

-- a whole number of the range of i64
abbrev pub integer : Data → Option ℤ
integer d = option_and_then as_i64 (as_number d)

abbrev pub item_id : ℕ → ItemId
item_id n = record { 0 = n }

-- the places that names have
abbrev pub Places : Type 0
Places = List ℕ → Option ℕ

abbrev pub item_in : Places → List ℕ → Option ItemId
item_in places name = option_map item_id (places name)

-- a name that has no place yet
abbrev pub unless_placed : Places → List ℕ → Option (List ℕ)
unless_placed places name = if is_some (places name) then None else name_of name

abbrev pub new_name : Places → Data → Option (List ℕ)
new_name places d = option_and_then (unless_placed places) (as_str d)

-- every name passes
abbrev pub all_names : (List ℕ → Bool) → Members → Bool
all_names test no_members = true
all_names test (member k d ms) = test k && all_names test ms

-- how many members there are
abbrev pub count_members : Members → ℕ
count_members no_members = 0
count_members (member k d ms) = 1 + count_members ms

-- an object with this many members
abbrev pub sized : ℕ → Data → Bool
sized n d = unwrap_or (option_map (λ ms. count_members ms == n) (as_object d)) false

-- an object with no other members
abbrev pub no_others : (List ℕ → Bool) → Data → Bool
no_others test d = unwrap_or (option_map (all_names test) (as_object d)) false

abbrev pub formed_unit : Unit {0}
formed_unit = tt
