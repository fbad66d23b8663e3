-- The numbers in the data of a text: as a signed integer, each is of 64 bits.
use Rattle.std.proofs.Common.{◌≡◌, ℕ, zero, suc, ◌<◌, ◌≤◌, ◌^◌, Bool, true, false, cond, List, drop, pos, neg_ℤ, Option, Some, None, option_map, option_and_then, Ordering, Less, Equal, Greater, refl, arith}
use Rattle.std.specs.Prelude.{nat_lt, nat_le, ◌&&◌, ◌==◌, slice_index, IfSome}
use Rattle.std.specs.Float.{binary64, float_is_finite}
use Rattle.std.specs.Ordering.{match_ordering}
use Rattle.std.proofs.lemmas.Bool.{and_parts, ltb-true, leb-true}
use Rattle.std.specs.Float.Numeral.{minus, Parts, scan_numeral as scan, numeral_digits as digits_of, nearest_float as nearest}
use Rattle.json.specs.Json as json
use Rattle.json.specs.Lex.{tokens}
use Rattle.serde_json.specs.Data.{Num, unsigned, negative, float, Data, null, boolean, number, string, array, object, Items, no_items, item, Members, no_members, member, put}
use Rattle.serde_json.specs.Read.{is_integer, float_of, number_from, number_of, of_json, of_items, of_members, max_depth, read}
use Rattle.serde_json.specs.Find.{as_i64}
use Rattle.scenario_writer.specs.Integers.{IsI64}

-- what is read of a number as a signed integer is of 64 bits
abbrev pub IfI64 : Num → Type 0
IfI64 n = IfSome (as_i64 n) IsI64

-- so it is of each number inside
abbrev mutual
  pub HasI64 : Data → Type 0
  HasI64 null = Unit {0}
  HasI64 (boolean b) = Unit {0}
  HasI64 (number n) = IfI64 n
  HasI64 (string s) = Unit {0}
  HasI64 (array ds) = ItemsHaveI64 ds
  HasI64 (object ms) = MembersHaveI64 ms

  pub ItemsHaveI64 : Items → Type 0
  ItemsHaveI64 no_items = Unit {0}
  ItemsHaveI64 (item d ds) = HasI64 d × ItemsHaveI64 ds

  pub MembersHaveI64 : Members → Type 0
  MembersHaveI64 no_members = Unit {0}
  MembersHaveI64 (member k d ms) = HasI64 d × MembersHaveI64 ms

pub if_mapped : {A B : Type 0} (P : A → Type 0) (Q : B → Type 0) (f : A → B) (o : Option A) → IfSome o P
    → ((a : A) → P a → Q (f a)) → IfSome (option_map f o) Q
if_mapped P Q f None h k = tt
if_mapped P Q f (Some a) h k = k a h

pub if_then : {A B : Type 0} (P : A → Type 0) (Q : B → Type 0) (f : A → Option B) (o : Option A) → IfSome o P
    → ((a : A) → P a → IfSome (f a) Q) → IfSome (option_and_then f o) Q
if_then P Q f None h k = tt
if_then P Q f (Some a) h k = k a h

-- Numbers.

below : (n : ℕ) (b : Bool) → nat_lt n (2 ^ 63) ≡ b → IfSome (cond b (Some (pos n)) None) IsI64
below n false is = tt
below n true is = record { sfits = ltb-true n (2 ^ 63) is }

unsigned_has : (n : ℕ) → IfI64 (unsigned n)
unsigned_has n = below n (nat_lt n (2 ^ 63)) refl

negative_has : (n : ℕ) → 0 < n → n ≤ 2 ^ 63 → IfI64 (negative (neg_ℤ (pos n)))
negative_has zero some most = absurd (omega arith)
negative_has (suc n) some most = record { sfits = omega arith }

float_by : (b : Bool) (sign : Bool) (p : Parts) → IfSome (cond b (Some (float (nearest binary64 sign p))) None) IfI64
float_by true sign p = tt
float_by false sign p = tt

float_has : (sign : Bool) (p : Parts) → IfSome (float_of sign p) IfI64
float_has sign p = float_by (float_is_finite (nearest binary64 sign p)) sign p

one_of : (b : Bool) (n : Num) (o : Option Num) → (b ≡ true → IfI64 n) → IfSome o IfI64
    → IfSome (cond b (Some n) o) IfI64
one_of true n o h k = h refl
one_of false n o h k = k

number_from_has : (sign : Bool) (p : Parts) → IfSome (number_from sign p) IfI64
number_from_has false p =
    one_of _ (unsigned (digits_of p)) (float_of false p) (λ is. unsigned_has (digits_of p)) (float_has false p)
number_from_has true p =
    one_of _ (negative (neg_ℤ (pos (digits_of p)))) (float_of true p)
    (λ is.
    let whole = and_parts (is_integer p && nat_lt 0 (digits_of p)) (nat_le (digits_of p) (2 ^ 63)) is in
    let some = and_parts (is_integer p) (nat_lt 0 (digits_of p)) whole.0 in
    negative_has (digits_of p) (ltb-true 0 (digits_of p) some.1) (leb-true (digits_of p) (2 ^ 63) whole.1))
    (float_has true p)

by_sign : (b : Bool) (o q : Option Num) → IfSome o IfI64 → IfSome q IfI64 → IfSome (cond b o q) IfI64
by_sign true o q h k = h
by_sign false o q h k = k

number_has : (s : List ℕ) → IfSome (number_of s) IfI64
unfolding number_of
number_has s =
    by_sign (slice_index s 0 == minus) (number_from true (scan (drop 1 s))) (number_from false (scan s))
    (number_from_has true (scan (drop 1 s))) (number_from_has false (scan s))

-- Data.

by_order : (o : Ordering) (a b c : Members) → MembersHaveI64 a → MembersHaveI64 b → MembersHaveI64 c
    → MembersHaveI64 (match_ordering o a b c)
by_order Less a b c h k l = h
by_order Equal a b c h k l = k
by_order Greater a b c h k l = l

put_has : (k : List ℕ) (d : Data) (ms : Members) → HasI64 d → MembersHaveI64 ms → MembersHaveI64 (put k d ms)
put_has k d no_members h g = (h, tt)
put_has k d (member l e ms) h g =
    by_order _ (member k d (member l e ms)) (member l d ms) (member l e (put k d ms)) (h, g) (h, g.1)
    (g.0, put_has k d ms h g.1)

mutual
  json_has : (j : json.Json) → IfSome (of_json j) HasI64
  json_has json.null = tt
  json_has (json.boolean b) = tt
  json_has (json.number s) = if_mapped IfI64 HasI64 number (number_of s) (number_has s) (λ n h. h)
  json_has (json.string s) = tt
  json_has (json.array js) = if_mapped ItemsHaveI64 HasI64 array (of_items js) (items_have js) (λ ds h. h)
  json_has (json.object ms) =
      if_mapped MembersHaveI64 HasI64 object (of_members ms no_members) (members_have ms no_members tt) (λ ds h. h)

  items_have : (js : json.Items) → IfSome (of_items js) ItemsHaveI64
  items_have json.no_items = tt
  items_have (json.item j js) =
      if_then HasI64 ItemsHaveI64 _ (of_json j) (json_has j)
      (λ d h. if_mapped ItemsHaveI64 ItemsHaveI64 (item d) (of_items js) (items_have js) (λ ds k. (h, k)))

  members_have : (ms : json.Members) (found : Members) → MembersHaveI64 found
      → IfSome (of_members ms found) MembersHaveI64
  members_have json.no_members found g = g
  members_have (json.member k j ms) found g =
      if_then HasI64 MembersHaveI64 _ (of_json j) (json_has j)
      (λ d h. members_have ms (put k d found) (put_has k d found h g))

if_read : (o : Option json.Json) → IfSome (option_and_then of_json o) HasI64
if_read None = tt
if_read (Some j) = json_has j

pub read_has : (text : List ℕ) → IfSome (read text) HasI64
read_has text = if_read (option_and_then (λ p. json.if_last p.0 p.1) (json.value max_depth (tokens text)))
