-- A text's value is made of no more values than the text has bytes, and one more.
use Rattle.std.proofs.Common.{◌≡◌, ℕ, zero, suc, ◌+◌, ◌≤◌, Bool, true, false, List, [], ◌∷◌, length, Option, Some, None, option_map, option_and_then, Ordering, Less, Equal, Greater, refl, subst, arith}
use Rattle.std.specs.Prelude.{⊤}
use Rattle.std.specs.Ordering.{match_ordering}
use Rattle.json.specs.Token.{Token}
use Rattle.json.specs.Json as json
use Rattle.json.specs.Json.{Json, Parse, parse_map, after_end_array, read_key, items_step, members_step, value_with}
use Rattle.json.specs.Lex.{Lexeme, token, comma, colon, Class, quote, backslash, operator, space, other, class, Mode, between, in_word, in_string, in_escape, lex_byte, lex, Place, fresh, after_value, after_comma, after_key, may_begin, may_close, begins_colon, if_allowed, place_token, punctuate, tokens}
use Rattle.json.proofs.Grammar.{after_end_array-shorter, read_key-shorter}
use Rattle.serde_json.specs.Data.{Data, number, array, object, item, Members, no_members, member, put}
use Rattle.serde_json.specs.Read.{number_of, of_json, of_items, of_members, max_depth, read}
use Rattle.scenario_forms.specs.Sizes.{size, items_size, members_size}

-- Tokens: no more than bytes, and one more.

byte_lexed : (m : Mode) (c : Class) (x : ℕ) (xs : List ℕ) (k : Mode → List Lexeme) (n : ℕ)
    → ((next : Mode) → length (k next) ≤ n) → length (lex_byte m c x xs k) ≤ suc n
byte_lexed between quote x xs k n h = omega (arith, h in_string)
byte_lexed between backslash x xs k n h = omega (arith, h in_word)
byte_lexed between operator x xs k n h = omega (arith, h between)
byte_lexed between space x xs k n h = omega (arith, h between)
byte_lexed between other x xs k n h = omega (arith, h in_word)
byte_lexed in_word quote x xs k n h = omega (arith, h in_word)
byte_lexed in_word backslash x xs k n h = omega (arith, h in_word)
byte_lexed in_word operator x xs k n h = omega (arith, h between)
byte_lexed in_word space x xs k n h = omega (arith, h between)
byte_lexed in_word other x xs k n h = omega (arith, h in_word)
byte_lexed in_string quote x xs k n h = omega (arith, h between)
byte_lexed in_string backslash x xs k n h = omega (arith, h in_escape)
byte_lexed in_string operator x xs k n h = omega (arith, h in_string)
byte_lexed in_string space x xs k n h = omega (arith, h in_string)
byte_lexed in_string other x xs k n h = omega (arith, h in_string)
byte_lexed in_escape c x xs k n h = omega (arith, h in_string)

lexed : (m : Mode) (xs : List ℕ) → length (lex m xs) ≤ length xs
unfolding lex
lexed m [] = omega arith
lexed m (x ∷ xs) = byte_lexed m (class x) x xs (λ next. lex next xs) (length xs) (λ next. lexed next xs)

allowed : (b : Bool) (t : Token) (k : Place → List Token) (next : Place) (n : ℕ) → length (k next) ≤ suc n
    → length (if_allowed b t k next) ≤ suc (suc n)
allowed true t k next n h = omega arith
allowed false t k next n h = omega arith

placed : (p : Place) (t : Token) (b : Bool) (k : Place → List Token) (n : ℕ)
    → ((next : Place) → length (k next) ≤ suc n) → length (place_token p t b k) ≤ suc (suc n)
placed p Token.begin_object b k n h = allowed (may_begin p) Token.begin_object k fresh n (h fresh)
placed p Token.end_object b k n h = allowed (may_close p) Token.end_object k after_value n (h after_value)
placed p Token.begin_array b k n h = allowed (may_begin p) Token.begin_array k fresh n (h fresh)
placed p Token.end_array b k n h = allowed (may_close p) Token.end_array k after_value n (h after_value)
placed p (Token.key s) b k n h = omega arith
placed p (Token.string s) true k n h = allowed (may_begin p) (Token.key s) k after_key n (h after_key)
placed p (Token.string s) false k n h = allowed (may_begin p) (Token.string s) k after_value n (h after_value)
placed p (Token.number s) b k n h = allowed (may_begin p) (Token.number s) k after_value n (h after_value)
placed p (Token.boolean c) b k n h = allowed (may_begin p) (Token.boolean c) k after_value n (h after_value)
placed p Token.null b k n h = allowed (may_begin p) Token.null k after_value n (h after_value)
placed p Token.bad b k n h = omega arith

punctuated : (p : Place) (ls : List Lexeme) → length (punctuate p ls) ≤ suc (length ls)
unfolding punctuate
punctuated fresh [] = omega arith
punctuated after_value [] = omega arith
punctuated after_comma [] = omega arith
punctuated after_key [] = omega arith
punctuated fresh (token t ∷ ls) =
    placed fresh t (begins_colon ls) (λ next. punctuate next ls) (length ls) (λ next. punctuated next ls)
punctuated after_value (token t ∷ ls) =
    placed after_value t (begins_colon ls) (λ next. punctuate next ls) (length ls) (λ next. punctuated next ls)
punctuated after_comma (token t ∷ ls) =
    placed after_comma t (begins_colon ls) (λ next. punctuate next ls) (length ls) (λ next. punctuated next ls)
punctuated after_key (token t ∷ ls) =
    placed after_key t (begins_colon ls) (λ next. punctuate next ls) (length ls) (λ next. punctuated next ls)
punctuated fresh (comma ∷ ls) = omega arith
punctuated after_value (comma ∷ ls) = omega (arith, punctuated after_comma ls)
punctuated after_comma (comma ∷ ls) = omega arith
punctuated after_key (comma ∷ ls) = omega arith
punctuated fresh (colon ∷ ls) = omega arith
punctuated after_value (colon ∷ ls) = omega arith
punctuated after_comma (colon ∷ ls) = omega arith
punctuated after_key (colon ∷ ls) = omega (arith, punctuated fresh ls)

few_tokens : (text : List ℕ) → length (tokens text) ≤ suc (length text)
few_tokens text = omega (arith, punctuated fresh (lex between text), lexed between text)

-- A value of the grammar takes a token for each value that it is made of.

abbrev mutual
  json_size : Json → ℕ
  json_size json.null = 1
  json_size (json.boolean b) = 1
  json_size (json.number s) = 1
  json_size (json.string s) = 1
  json_size (json.array js) = suc (json_items_size js)
  json_size (json.object ms) = suc (json_members_size ms)

  json_items_size : json.Items → ℕ
  json_items_size json.no_items = 0
  json_items_size (json.item j js) = json_size j + json_items_size js

  json_members_size : json.Members → ℕ
  json_members_size json.no_members = 0
  json_members_size (json.member k j ms) = json_size j + json_members_size ms

-- what was read, and what is left, are at most so many
abbrev Spent : {A : Type 0} → (A → ℕ) → ℕ → Option (A × List Token) → Type 0
Spent f n None = ⊤
Spent f n (Some p) = f p.0 + length p.1 ≤ n

abbrev Spends : {A : Type 0} → (A → ℕ) → Parse A → Type 0
Spends f p = (ts : List Token) → Spent f (length ts) (p ts)

mapped : {A B : Type 0} (f : A → ℕ) (g : B → ℕ) (m n : ℕ) (h : A → B) → ((a : A) (l : ℕ) → f a + l ≤ m → g (h a) + l ≤ n)
    → (o : Option (A × List Token)) → Spent f m o → Spent g n (parse_map h o)
mapped f g m n h k None x = tt
mapped f g m n h k (Some p) x = k p.0 (length p.1) x

and_more : {B : Type 0} (g : B → ℕ) (n : ℕ) (h : Json → B → B) → ((j : Json) (b : B) → g (h j b) ≡ json_size j + g b)
    → (more : Parse B) → Spends g more → (o : Option (Json × List Token)) → Spent json_size n o
    → Spent g n (option_and_then (λ q. parse_map (h q.0) (more q.1)) o)
and_more g n h is more again None x = tt
and_more g n h is more again (Some q) x =
    mapped g g (length q.1) n (h q.0) (λ b l y. omega (arith, is q.0 b)) (more q.1) (again q.1)

module _ (p : Parse Json) (spends : Spends json_size p) where
  item_turn : (more : Parse json.Items) → Spends json_items_size more → (ts : List Token) (o : Option (List Token))
      → after_end_array ts ≡ o → Spent json_items_size (length ts) (items_step p more ts o)
  item_turn more again ts (Some r) is = omega (arith, after_end_array-shorter ts r is)
  item_turn more again ts None is =
      and_more json_items_size (length ts) json.item (λ j b. refl) more again (p ts) (spends ts)

  items_spend : (n : ℕ) → Spends json_items_size (json.items p n)
  unfolding json.items
  items_spend zero ts = tt
  items_spend (suc n) ts = item_turn (json.items p n) (items_spend n) ts (after_end_array ts) refl

  longer : {A : Type 0} (f : A → ℕ) (m n : ℕ) (o : Option (A × List Token)) → m ≤ n → Spent f m o → Spent f n o
  longer f m n None le x = tt
  longer f m n (Some q) le x = omega arith

  member_turn : (more : Parse json.Members) → Spends json_members_size more → (ts : List Token)
      (o : Option (Option (List ℕ) × List Token)) → read_key ts ≡ o
      → Spent json_members_size (length ts) (option_and_then (λ q. members_step p more q.0 q.1) o)
  member_turn more again ts None is = tt
  member_turn more again ts (Some (None, s)) is = omega (arith, read_key-shorter ts None s is)
  member_turn more again ts (Some (Some k, s)) is =
      longer json_members_size (length s) (length ts) _ (omega (arith, read_key-shorter ts (Some k) s is))
      (and_more json_members_size (length s) (json.member k) (λ j b. refl) more again (p s) (spends s))

  members_spend : (n : ℕ) → Spends json_members_size (json.members p n)
  unfolding json.members
  members_spend zero ts = tt
  members_spend (suc n) ts = member_turn (json.members p n) (members_spend n) ts (read_key ts) refl

one_level : (a : Parse json.Items) (o : Parse json.Members) → ((ts : List Token) → Spent json_items_size (length ts) (a ts))
    → ((ts : List Token) → Spent json_members_size (length ts) (o ts)) → Spends json_size (value_with a o)
one_level a o p q [] = tt
one_level a o p q (Token.begin_object ∷ ts) =
    mapped json_members_size json_size (length ts) (suc (length ts)) json.object (λ ms l x. omega arith) (o ts) (q ts)
one_level a o p q (Token.end_object ∷ ts) = tt
one_level a o p q (Token.begin_array ∷ ts) =
    mapped json_items_size json_size (length ts) (suc (length ts)) json.array (λ js l x. omega arith) (a ts) (p ts)
one_level a o p q (Token.end_array ∷ ts) = tt
one_level a o p q (Token.key s ∷ ts) = tt
one_level a o p q (Token.string s ∷ ts) = omega arith
one_level a o p q (Token.number s ∷ ts) = omega arith
one_level a o p q (Token.boolean b ∷ ts) = omega arith
one_level a o p q (Token.null ∷ ts) = omega arith
one_level a o p q (Token.bad ∷ ts) = tt

value_spends : (d : ℕ) → Spends json_size (json.value d)
unfolding json.value
value_spends zero = one_level (λ ts. None) (λ ts. None) (λ ts. tt) (λ ts. tt)
value_spends (suc d) =
    one_level (λ ts. json.items (json.value d) (length ts) ts) (λ ts. json.members (json.value d) (length ts) ts)
    (λ ts. items_spend (json.value d) (value_spends d) (length ts) ts)
    (λ ts. members_spend (json.value d) (value_spends d) (length ts) ts)

-- The data of a value are no more values.

abbrev AtMost : {A : Type 0} → (A → ℕ) → ℕ → Option A → Type 0
AtMost f n None = ⊤
AtMost f n (Some a) = f a ≤ n

then : {A B : Type 0} (f : A → ℕ) (g : B → ℕ) (m n : ℕ) (h : A → Option B) → ((a : A) → f a ≤ m → AtMost g n (h a))
    → (o : Option A) → AtMost f m o → AtMost g n (option_and_then h o)
then f g m n h k None x = tt
then f g m n h k (Some a) x = k a x

made : {A B : Type 0} (f : A → ℕ) (g : B → ℕ) (m n : ℕ) (h : A → B) → ((a : A) → f a ≤ m → g (h a) ≤ n)
    → (o : Option A) → AtMost f m o → AtMost g n (option_map h o)
made f g m n h k None x = tt
made f g m n h k (Some a) x = k a x

flat : {A : Type 0} (o : Option A) → AtMost (λ _. 0) 0 o
flat None = tt
flat (Some a) = omega arith

either : (o : Ordering) (a b c : Members) (n : ℕ) → members_size a ≤ n → members_size b ≤ n → members_size c ≤ n
    → members_size (match_ordering o a b c) ≤ n
either Less a b c n p q r = p
either Equal a b c n p q r = q
either Greater a b c n p q r = r

put_size : (k : List ℕ) (d : Data) (ms : Members) → members_size (put k d ms) ≤ size d + members_size ms
put_size k d no_members = omega arith
put_size k d (member l e ms) =
    either _ (member k d (member l e ms)) (member l d ms) (member l e (put k d ms)) (size d + (size e + members_size ms))
    (omega arith) (omega arith) (omega (arith, put_size k d ms))

mutual
  data_size : (j : Json) → AtMost size (json_size j) (of_json j)
  data_size json.null = omega arith
  data_size (json.boolean b) = omega arith
  data_size (json.number s) = made (λ _. 0) size 0 1 number (λ a x. omega arith) (number_of s) (flat (number_of s))
  data_size (json.string s) = omega arith
  data_size (json.array js) =
      made items_size size (json_items_size js) (suc (json_items_size js)) array (λ a x. omega arith) (of_items js)
      (data_items_size js)
  data_size (json.object ms) =
      made members_size size (json_members_size ms) (suc (json_members_size ms)) object (λ a x. omega arith)
      (of_members ms no_members) (data_members_size ms no_members (json_members_size ms) (omega arith))

  data_items_size : (js : json.Items) → AtMost items_size (json_items_size js) (of_items js)
  data_items_size json.no_items = omega arith
  data_items_size (json.item j js) =
      then size items_size (json_size j) (json_size j + json_items_size js) _
      (λ d x. made items_size items_size (json_items_size js) (json_size j + json_items_size js) (item d)
      (λ ds y. omega arith) (of_items js) (data_items_size js)) (of_json j) (data_size j)

  data_members_size : (ms : json.Members) (found : Members) (n : ℕ) → json_members_size ms + members_size found ≤ n
      → AtMost members_size n (of_members ms found)
  data_members_size json.no_members found n h = omega arith
  data_members_size (json.member name j ms) found n h =
      then size members_size (json_size j) n _
      (λ d x. data_members_size ms (put name d found) n (omega (arith, put_size name d found))) (of_json j) (data_size j)

last_spent : (n : ℕ) (o : Option (Json × List Token)) → Spent json_size n o
    → AtMost json_size n (option_and_then (λ p. json.if_last p.0 p.1) o)
last_spent n None h = tt
last_spent n (Some (j, [])) h = omega arith
last_spent n (Some (j, t ∷ r)) h = tt

more : (m n : ℕ) (o : Option Data) → m ≤ n → AtMost size m o → AtMost size n o
more m n None le h = tt
more m n (Some d) le h = omega arith

pub read_size : (text : List ℕ) (d : Data) → read text ≡ Some d → size d ≤ suc (length text)
read_size text d e =
    subst (AtMost size (suc (length text))) e (then json_size size (suc (length text)) (suc (length text)) of_json
    (λ j x. more (json_size j) (suc (length text)) (of_json j) x (data_size j)) _
    (last_spent (suc (length text)) (json.value max_depth (tokens text))
    (within (json.value max_depth (tokens text)) (value_spends max_depth (tokens text)))))
  where
    within : (o : Option (Json × List Token)) → Spent json_size (length (tokens text)) o
        → Spent json_size (suc (length text)) o
    within None h = tt
    within (Some q) h = omega (arith, few_tokens text)
