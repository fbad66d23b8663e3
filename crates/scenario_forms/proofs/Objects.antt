-- Objects and their members.
use Rattle.std.proofs.Common.{◌≡◌, ℕ, List, [], ◌∷◌, length, Bool, false, ◌&&◌, Option, Some, option_map, unwrap_or, ◌∙◌, String, BTreeMap, Global, string_bytes, refl, sym, ap, arith}
use Rattle.std.specs.Prelude.{◌==◌}
use Rattle.std.specs.List.{list_all}
use Rattle.std.specs.Map.{keys_of}
use Rattle.std.specs.BTreeMap.{keys}
use Rattle.serde_json.specs.View.{members_view}
use Rattle.serde_json.specs.Data.{Data, Members}
use Rattle.serde_json.specs.Find.{as_object}
use Rattle.serde_json.specs.declared.value.Value.{Value}
use Rattle.scenario_forms.specs.Fields.{all_names, no_others, count_members, sized}

all_names_entries : (test : List ℕ → Bool) (es : List (String Global × Value))
    → list_all (λ k. test (string_bytes k)) (keys_of es) ≡ all_names test (members_view es)
all_names_entries test [] = refl
all_names_entries test (e ∷ es) = ap (λ b. test (string_bytes e.0) && b) (all_names_entries test es)

-- a test of the keys is one of the names
pub all_names_keys : (test : List ℕ → Bool) (m : BTreeMap (String Global) Value)
    → list_all (λ k. test (string_bytes k)) (keys m) ≡ all_names test (members_view m.entries)
all_names_keys test m = all_names_entries test m.entries

-- and of an object's members
pub no_others_keys : (test : List ℕ → Bool) (d : Data) (m : BTreeMap (String Global) Value)
    → Some (members_view m.entries) ≡ as_object d → list_all (λ k. test (string_bytes k)) (keys m) ≡ no_others test d
no_others_keys test d m is = all_names_keys test m ∙ ap
    (λ (o : Option Members). unwrap_or (option_map (all_names test) o) false) is

count_entries : (es : List (String Global × Value)) → count_members (members_view es) ≡ length es
count_entries [] = refl
count_entries (e ∷ es) = let h : count_members (members_view es) ≡ length es = count_entries es in omega arith

pub sized_entries : (n : ℕ) (d : Data) (m : BTreeMap (String Global) Value)
    → Some (members_view m.entries) ≡ as_object d → sized n d ≡ (length m.entries == n)
sized_entries n d m is = ap (λ (o : Option Members). unwrap_or (option_map (λ ms. count_members ms == n) o) false)
    (sym is) ∙ ap (λ (k : ℕ). k == n) (count_entries m.entries)
