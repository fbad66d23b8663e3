-- The relative sets of a scenario.
use Rattle.std.specs.Prelude.{ℕ, ◌^◌, ◌||◌, List, [], ◌∷◌, ◌++◌, length, codes, Bool, if◌then◌else◌, Option, Some, None, Result, Ok}
use Rattle.std.specs.Str.{bytes_eq}
use Rattle.rt_base.specs.declared.ids.ItemId.{ItemId}
use Rattle.serde_json.specs.Data.{Data}
use Rattle.serde_json.specs.Find.{as_array}
use Rattle.scenario_forms.specs.declared.error.Place.TheVariants as places
use Rattle.scenario_forms.specs.declared.error.FormError.{FormError}
use Rattle.scenario_forms.specs.declared.arrays.Owner.TheVariants as owners
use Rattle.scenario_forms.specs.declared.sets.ReadSet.{ReadSet}
use Rattle.scenario_forms.specs.Reading.{◌>>=◌, needed, member_at, all_at}
use Rattle.scenario_forms.specs.Fields.{Places, whole, no_others, formed_unit}
use Rattle.scenario_forms.specs.Arrays.{element_place, named}

abbrev pub is_set_member : List ℕ → Bool
is_set_member k = bytes_eq k (codes "items") || bytes_eq k (codes "within")

pub record Together : Type 0 where
  pub items : List (Option ItemId)
  pub within : ℕ

abbrev pub set_view : ReadSet → Together
set_view s = record { items = s.items.items; within = s.within }

unfoldable pub set_at : Places → ℕ → Data → Result Together FormError
set_at items i d = do
  formed ← needed (places.Set i) (if no_others is_set_member d then Some formed_unit else None)
  values ← member_at (places.SetItems i) as_array (codes "items") d
  named_items ← all_at (element_place (owners.Set i)) (named items) values
  within ← member_at (places.SetWithin i) (whole 0 (2 ^ 40)) (codes "within") d
  Ok (record { items = named_items; within = within })

-- one more set
unfoldable pub set_step : Places → List Together → Data → Result (List Together) FormError
set_step items acc d = set_at items (length acc) d >>= λ x. Ok (acc ++ x ∷ [])
