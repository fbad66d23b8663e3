-- The validity of an item is within the range of a text.
use Rattle.std.proofs.Common.{◌≡◌, ℕ, ◌^◌, ◌≤◌, Bool, true, false, cond, codes, Option, Some, None, Result, Ok, Err, refl, subst, arith}
use Rattle.std.specs.Prelude.{if◌then◌else◌, ◌&&◌, option_and_then, is_none, nat_le}
use Rattle.std.proofs.lemmas.Bool.{and_parts, leb-true}
use Rattle.serde_json.specs.Data.{Data}
use Rattle.serde_json.specs.Find.{get, as_number, as_u64}
use Rattle.item_model.specs.declared.decl.ItemKind.{ItemKind}
use Rattle.item_model.specs.declared.decl.ItemKind.TheVariants as kinds
use Rattle.step_script.specs.Scenarios.{HasValidity}
use Rattle.scenario_forms.specs.declared.error.Place.{Place}
use Rattle.scenario_forms.specs.declared.error.FormError.{FormError}
use Rattle.scenario_forms.specs.declared.item.KindWord.{KindWord}
use Rattle.scenario_forms.specs.declared.item.KindWord.TheVariants as words
use Rattle.scenario_forms.specs.Reading.{◌>>=◌, needed, member_at}
use Rattle.scenario_forms.specs.Fields.{whole}
use Rattle.scenario_forms.specs.Items.{item_kind}

whole_by : (n m : ℕ) (b : Bool) → (nat_le 1 n && nat_le n (2 ^ 40)) ≡ b → cond b (Some n) None ≡ Some m
    → (1 ≤ m) × (m ≤ 2 ^ 40)
whole_by n m false is h = absurd cc
whole_by n m true is h =
    let same : n ≡ m = cc in
    let parts = and_parts (nat_le 1 n) (nat_le n (2 ^ 40)) is in
    let low = leb-true 1 n parts.0 in
    let high = leb-true n (2 ^ 40) parts.1 in
    (omega (arith, same, low), omega (arith, same, high))

whole_in : (o : Option ℕ) (m : ℕ) → option_and_then (λ n. if nat_le 1 n && nat_le n (2 ^ 40) then Some n else None) o
    ≡ Some m → (1 ≤ m) × (m ≤ 2 ^ 40)
whole_in None m h = absurd cc
whole_in (Some n) m h = whole_by n m (nat_le 1 n && nat_le n (2 ^ 40)) refl h

needed_in : (place : Place) (o : Option Data) (m : ℕ)
    → needed place (option_and_then (whole 1 (2 ^ 40)) o) ≡ Ok m → (1 ≤ m) × (m ≤ 2 ^ 40)
needed_in place None m h = absurd cc
needed_in place (Some d) m h = found (option_and_then as_u64 (as_number d)) m h
  where
    met : (o : Option ℕ) (m : ℕ) → needed place o ≡ Ok m → o ≡ Some m
    met None m h = absurd cc
    met (Some n) m h = cc

    found : (o : Option ℕ) (m : ℕ)
        → needed place (option_and_then (λ n. if nat_le 1 n && nat_le n (2 ^ 40) then Some n else None) o) ≡ Ok m
        → (1 ≤ m) × (m ≤ 2 ^ 40)
    found o m h = whole_in o m (met _ m h)

member_in : (place : Place) (d : Data) (m : ℕ) → member_at place (whole 1 (2 ^ 40)) (codes "validity") d ≡ Ok m
    → (1 ≤ m) × (m ≤ 2 ^ 40)
unfolding member_at
member_in place d m h = needed_in place (get (codes "validity") d) m h

abbrev IfOkKind : Result ItemKind FormError → Type 0
IfOkKind (Ok kind) = HasValidity kind
IfOkKind (Err e) = Unit {0}

state_valid : (place : Place) (b : Bool) → IfOkKind (needed place (if b then Some kinds.State else None))
state_valid place true = tt
state_valid place false = tt

dated_valid : (make : ℕ → ItemKind) → ((n : ℕ) → (1 ≤ n) × (n ≤ 2 ^ 40) → HasValidity (make n))
    → (r : Result ℕ FormError) → ((m : ℕ) → r ≡ Ok m → (1 ≤ m) × (m ≤ 2 ^ 40))
    → IfOkKind (r >>= λ validity. Ok (make validity))
dated_valid make valid (Ok m) h = valid m (h m refl)
dated_valid make valid (Err e) h = tt

kind_valid : (place : Place) (word : KindWord) (d : Data) → IfOkKind (item_kind place word d)
unfolding item_kind
kind_valid place words.State d = state_valid place (is_none (get (codes "validity") d))
kind_valid place words.Sensor d =
    dated_valid kinds.Sensor (λ n h. h) (member_at place (whole 1 (2 ^ 40)) (codes "validity") d) (member_in place d)
kind_valid place words.Derived d =
    dated_valid kinds.Derived (λ n h. h) (member_at place (whole 1 (2 ^ 40)) (codes "validity") d) (member_in place d)

pub valid_kind : (place : Place) (word : KindWord) (d : Data) (kind : ItemKind) → item_kind place word d ≡ Ok kind
    → HasValidity kind
valid_kind place word d kind is = subst IfOkKind is (kind_valid place word d)
