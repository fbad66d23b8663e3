-- The members of an object and the items of an array, by their number.
use Rattle.std.proofs.Common.{◌≡◌, List, [], ◌∷◌, length, get_or, Some, None, String, Global, string_bytes, refl, ap, arith}
use Rattle.std.specs.List.{slice_get}
use Rattle.serde_json.specs.View.{view, items_view, members_view}
use Rattle.serde_json.specs.declared.value.Value.{Value}
use Rattle.scenario_forms.specs.Shapes.{one_of, two_of}

abbrev Entry : Type 0
Entry = String Global × Value

pub one_entry : (es : List Entry) (e : Entry) → length es ≡ 1 → slice_get es 0 ≡ Some e
    → one_of (members_view es) ≡ Some (string_bytes e.0, view e.1)
one_entry [] e len is = absurd (omega arith)
one_entry (a ∷ []) e len is = let same : a ≡ e = cc in ap (λ (x : Entry). Some (string_bytes x.0, view x.1)) same
one_entry (a ∷ b ∷ es) e len is = absurd (omega arith)

pub other_entries : (es : List Entry) → (length es ≡ 1 → ⊥) → one_of (members_view es) ≡ None
other_entries [] other = refl
other_entries (a ∷ []) other = absurd (other refl)
other_entries (a ∷ b ∷ es) other = refl

pub pair_items : (vs : List Value) (x y : Value) → length vs ≡ 2
    → two_of (items_view vs) ≡ Some (view (get_or vs 0 x), view (get_or vs 1 y))
pair_items [] x y len = absurd (omega arith)
pair_items (a ∷ []) x y len = absurd (omega arith)
pair_items (a ∷ b ∷ []) x y len = refl
pair_items (a ∷ b ∷ c ∷ vs) x y len = absurd (omega arith)

pub other_items : (vs : List Value) → (length vs ≡ 2 → ⊥) → two_of (items_view vs) ≡ None
other_items [] other = refl
other_items (a ∷ []) other = refl
other_items (a ∷ b ∷ []) other = absurd (other refl)
other_items (a ∷ b ∷ c ∷ vs) other = refl
