-- An array's elements are fewer than the values that hold it.
use Rattle.std.proofs.Common.{◌≡◌, ℕ, suc, ◌+◌, ◌<◌, ◌≤◌, ◌^◌, List, [], ◌∷◌, length, map, Option, Some, None, Ok, Ordering, Less, Equal, Greater, refl, subst, arith}
use Rattle.std.specs.Prelude.{⊤, option_and_then}
use Rattle.std.specs.Ordering.{match_ordering, nat_cmp}
use Rattle.std.specs.Cmp.Lexicographic.{slice_cmp}
use Rattle.serde_json.specs.Data.{Data, null, boolean, number, string, array, object, Items, no_items, Members, no_members, member}
use Rattle.serde_json.specs.Find.{get, get_member, as_array}
use Rattle.serde_json.specs.View.{view, items_view, items_of}
use Rattle.serde_json.specs.declared.value.Value.{Value}
use Rattle.scenario_forms.specs.declared.error.Place.{Place}
use Rattle.scenario_forms.specs.Reading.{optional, member_at, member_or}
use Rattle.scenario_forms.specs.Sizes.{size, items_size, members_size}
use Rattle.scenario_forms.proofs.FreshNames.{needed_is}

pub some_size : (d : Data) → 1 ≤ size d
some_size null = omega arith
some_size (boolean b) = omega arith
some_size (number n) = omega arith
some_size (string s) = omega arith
some_size (array ds) = omega arith
some_size (object ms) = omega arith

counted : (ds : List Data) → length ds ≤ items_size (items_of ds)
counted [] = omega arith
counted (d ∷ ds) = omega (arith, some_size d, counted ds)

same_length : (vs : List Value) → length vs ≡ length (map view vs)
same_length [] = refl
same_length (v ∷ vs) = let h : length vs ≡ length (map view vs) = same_length vs in omega arith

abbrev Below : ℕ → Option Data → Type 0
Below n None = ⊤
Below n (Some d) = size d ≤ n

by_order : (o : Ordering) (a b c : Option Data) (n : ℕ) → Below n a → Below n b → Below n c
    → Below n (match_ordering o a b c)
by_order Less a b c n p q r = p
by_order Equal a b c n p q r = q
by_order Greater a b c n p q r = r

further : (m n : ℕ) (o : Option Data) → m ≤ n → Below m o → Below n o
further m n None le h = tt
further m n (Some d) le h = omega arith

found_below : (k : List ℕ) (ms : Members) → Below (members_size ms) (get_member k ms)
found_below k no_members = tt
found_below k (member l e ms) =
    let rest : Below (size e + members_size ms) (get_member k ms) =
    further (members_size ms) (size e + members_size ms) (get_member k ms) (omega arith) (found_below k ms) in
    by_order (slice_cmp nat_cmp k l) (get_member k ms) (Some e) (get_member k ms) (size e + members_size ms) rest
    (omega arith) rest

abbrev Under : ℕ → Option Data → Type 0
Under n None = ⊤
Under n (Some d) = size d < n

got_under : (k : List ℕ) (d : Data) → Under (size d) (get k d)
got_under k null = tt
got_under k (boolean b) = tt
got_under k (number n) = tt
got_under k (string s) = tt
got_under k (array ds) = tt
got_under k (object ms) = one_further (get_member k ms) (found_below k ms)
  where
    one_further : (o : Option Data) → Below (members_size ms) o → Under (suc (members_size ms)) o
    one_further None h = tt
    one_further (Some e) h = omega arith

array_is : (o : Option Data) (n : ℕ) (ds : Items) → Under n o → option_and_then as_array o ≡ Some ds
    → items_size ds + 2 ≤ n
array_is None n ds h e = absurd cc
array_is (Some null) n ds h e = absurd cc
array_is (Some (boolean b)) n ds h e = absurd cc
array_is (Some (number x)) n ds h e = absurd cc
array_is (Some (string s)) n ds h e = absurd cc
array_is (Some (array es)) n ds h e =
    let same : es ≡ ds = cc in subst (λ (fs : Items). items_size fs + 2 ≤ n) same (omega arith)
array_is (Some (object ms)) n ds h e = absurd cc

no_longer : (place : Place) (o : Option Data) (n : ℕ) (ds : Items) → Under n o
    → optional no_items place as_array o ≡ Ok ds → items_size ds ≤ n
no_longer place None n ds h e =
    let same : no_items ≡ ds = cc in subst (λ (fs : Items). items_size fs ≤ n) same (omega arith)
no_longer place (Some d) n ds h e =
    omega (arith, array_is (Some d) n ds h (needed_is place (as_array d) ds e))

-- the elements of an array that may be absent
pub array_or_size : (place : Place) (k : List ℕ) (d : Data) (ds : Items)
    → member_or no_items place as_array k d ≡ Ok ds → items_size ds ≤ size d
unfolding member_or
array_or_size place k d ds e = no_longer place (get k d) (size d) ds (got_under k d) e

-- the elements of a member that is an array
pub array_size : (place : Place) (k : List ℕ) (d : Data) (ds : Items) → member_at place as_array k d ≡ Ok ds
    → items_size ds + 2 ≤ size d
unfolding member_at
array_size place k d ds e =
    array_is (get k d) (size d) ds (got_under k d) (needed_is place (option_and_then as_array (get k d)) ds e)

pub few_values : (place : Place) (k : List ℕ) (d : Data) (vs : List Value)
    → member_at place as_array k d ≡ Ok (items_view vs) → size d ≤ 2 ^ 32 → length vs ≤ 2 ^ 32
few_values place k d vs e small =
    omega (arith, array_size place k d (items_view vs) e, counted (map view vs), same_length vs)
