-- Values, arrays and objects that are sent token by token.
use Rattle.std.proofs.Common.{◌≡◌, suc, max, ap₂, List, [], ◌∷◌, ◌++◌, ℕ, ◌^◌, ◌<◌, ◌≤◌, ℤ, pos, negsuc, Option, Some, option_map, option_and_then, decimal, refl, sym, ap, ◌∙◌, subst, arith}
use Rattle.std.proofs.Common.{SFits, w64}
use Rattle.std.specs.Fmt.{signed_decimal}
use Rattle.serde_json.proofs.Numbers.{number_of-decimal, number_of-negative}
use Rattle.std.proofs.lemmas.List.{append_assoc, append-nil}
use Rattle.json.specs.Token.{Token, begin_object, end_object, begin_array, end_array, key}
use Rattle.json.specs.Lex.{tokens}
use Rattle.json.specs.Print.{print}
use Rattle.json.specs.Json.{Json, value, if_last}
use Rattle.json.specs.Tree as tree
use Rattle.json.proofs.Printed.Trees.{value-json_tokens}
use Rattle.json.specs.Tree.{json_tokens, items_tokens, members_tokens}
use Rattle.json.specs.Written.{Written}
use Rattle.serde_json.specs.Data.{Data, null, boolean, number, string, array, object, Items, no_items, item, Members, no_members, member, put, depth, items_depth, members_depth}
use Rattle.serde_json.specs.Read.{of_json, of_items, of_members, read, max_depth}
use Rattle.serde_json.specs.Written.{outline, items_outline, members_outline, compact_text}
use Rattle.serde_json.proofs.Texts.{print-outline}
use Rattle.serde_json.specs.View.{items_of}
use Rattle.scenario_writer.specs.Canonical.{whole, integer, array_of}
use Rattle.scenario_writer.specs.Sent.{Adds, Sends, items_sent, AreRead, SendsItems, Field, field, members_of, fields_sent, FieldsAreRead, SendsFields}

-- Tokens in a row.

pub then : (ts us : List Token) (a b c : Written) → Adds ts a b → Adds us b c → Adds (ts ++ us) a c
then ts us a b c h g = record {
  tokens = g.tokens ∙ ap (λ (xs : List Token). xs ++ us) h.tokens ∙ append_assoc a.tokens ts us;
  before = g.before ∙ h.before;
}

as_tokens : (ts us : List Token) (a b : Written) → ts ≡ us → Adds ts a b → Adds us a b
as_tokens ts us a b e h = subst (λ (xs : List Token). Adds xs a b) e h

pub none_added : (a : Written) → Adds [] a a
none_added a = record { tokens = sym (append-nil a.tokens); before = refl }

-- Numbers.

pub whole_sent : (n : ℕ) (a b : Written) → n < 2 ^ 64 → Adds (Token.number (decimal n) ∷ []) a b → Sends (whole n) a b
whole_sent n a b fits h = record { adds = h; read = ap (option_map number) (number_of-decimal n fits) }

pub integer_sent : (z : ℤ) (a b : Written) → SFits w64 z → Adds (Token.number (signed_decimal z) ∷ []) a b
    → Sends (integer z) a b
integer_sent (pos n) a b fits h = whole_sent n a b (grind arith) h
integer_sent (negsuc n) a b fits h = record {
  adds = h;
  read = ap (option_map number) (number_of-negative n (grind arith));
}

-- Values in a row.

items_sent-append : (ds es : List Data) → items_sent (ds ++ es) ≡ items_sent ds ++ items_sent es
items_sent-append [] es = refl
items_sent-append (d ∷ ds) es = ap (λ (ts : List Token). json_tokens (outline d) ++ ts) (items_sent-append ds es)
    ∙ sym (append_assoc (json_tokens (outline d)) (items_sent ds) (items_sent es))

AreRead-append : (ds es : List Data) → AreRead ds → AreRead es → AreRead (ds ++ es)
AreRead-append [] es h g = g
AreRead-append (d ∷ ds) es h g = (h.0, AreRead-append ds es h.1 g)

pub no_items_sent : (a : Written) → SendsItems [] a a
no_items_sent a = record { adds = none_added a; read = tt }

pub then_items : (ds es : List Data) (a b c : Written) → SendsItems ds a b → SendsItems es b c
    → SendsItems (ds ++ es) a c
then_items ds es a b c h g = record {
  adds = as_tokens _ _ a c (sym (items_sent-append ds es)) (then _ _ a b c h.adds g.adds);
  read = AreRead-append ds es h.read g.read;
}

pub one_item : (d : Data) (a b : Written) → Sends d a b → SendsItems (d ∷ []) a b
one_item d a b h = record {
  adds = as_tokens _ _ a b (sym (append-nil (json_tokens (outline d)))) h.adds;
  read = (h.read, tt);
}

pub then_item : (ds : List Data) (d : Data) (a b c : Written) → SendsItems ds a b → Sends d b c
    → SendsItems (ds ++ d ∷ []) a c
then_item ds d a b c h g = then_items ds (d ∷ []) a b c h (one_item d b c g)

closed : (ds : List Data) → items_sent ds ++ end_array ∷ [] ≡ items_tokens (items_outline (items_of ds))
closed [] = refl
closed (d ∷ ds) = append_assoc (json_tokens (outline d)) (items_sent ds) (end_array ∷ [])
    ∙ ap (λ (ts : List Token). json_tokens (outline d) ++ ts) (closed ds)

items_read : (ds : List Data) → AreRead ds → of_items (items_outline (items_of ds)) ≡ Some (items_of ds)
items_read [] h = refl
items_read (d ∷ ds) h = rw (h.0, items_read ds h.1) refl

pub array_sent : (ds : List Data) (a b c d : Written) → Adds (begin_array ∷ []) a b → SendsItems ds b c
    → Adds (end_array ∷ []) c d
    → Sends (array_of ds) a d
array_sent ds a b c d h g f = record {
  adds = as_tokens _ _ a d (ap (λ (ts : List Token). begin_array ∷ ts) (closed ds))
      (then (begin_array ∷ []) _ a b d h (then _ _ b c d g.adds f));
  read = rw (items_read ds g.read) refl;
}

-- Members in a row.

fields_sent-append : (fs gs : List Field) → fields_sent (fs ++ gs) ≡ fields_sent fs ++ fields_sent gs
fields_sent-append [] gs = refl
fields_sent-append (f ∷ fs) gs = ap (λ (ts : List Token). key f.name ∷ ts)
    (ap (λ (ts : List Token). json_tokens (outline f.value) ++ ts) (fields_sent-append fs gs)
    ∙ sym (append_assoc (json_tokens (outline f.value)) (fields_sent fs) (fields_sent gs)))

FieldsAreRead-append : (fs gs : List Field) → FieldsAreRead fs → FieldsAreRead gs → FieldsAreRead (fs ++ gs)
FieldsAreRead-append [] gs h g = g
FieldsAreRead-append (f ∷ fs) gs h g = (h.0, FieldsAreRead-append fs gs h.1 g)

pub then_fields : (fs gs : List Field) (a b c : Written) → SendsFields fs a b → SendsFields gs b c
    → SendsFields (fs ++ gs) a c
then_fields fs gs a b c h g = record {
  adds = as_tokens _ _ a c (sym (fields_sent-append fs gs)) (then _ _ a b c h.adds g.adds);
  read = FieldsAreRead-append fs gs h.read g.read;
}

pub one_field : (k : List ℕ) (d : Data) (a b c : Written) → Adds (key k ∷ []) a b → Sends d b c
    → SendsFields (field k d ∷ []) a c
one_field k d a b c h g = record {
  adds = as_tokens _ _ a c (ap (λ (ts : List Token). key k ∷ ts) (sym (append-nil (json_tokens (outline d)))))
      (then (key k ∷ []) _ a b c h g.adds);
  read = (g.read, tt);
}

-- the members, put in one after another
abbrev pub all_put : List Field → Members → Members
all_put [] ms = ms
all_put (f ∷ fs) ms = all_put fs (put f.name f.value ms)

fields_closed : (fs : List Field) → fields_sent fs ++ end_object ∷ [] ≡ members_tokens (members_outline (members_of fs))
fields_closed [] = refl
fields_closed (f ∷ fs) = ap (λ (ts : List Token). key f.name ∷ ts)
    (append_assoc (json_tokens (outline f.value)) (fields_sent fs) (end_object ∷ [])
    ∙ ap (λ (ts : List Token). json_tokens (outline f.value) ++ ts) (fields_closed fs))

fields_read : (fs : List Field) (ms : Members) → FieldsAreRead fs
    → of_members (members_outline (members_of fs)) ms ≡ Some (all_put fs ms)
fields_read [] ms h = refl
fields_read (f ∷ fs) ms h = rw (h.0) (fields_read fs (put f.name f.value ms) h.1)

pub object_sent : (fs : List Field) (a b c d : Written) → all_put fs no_members ≡ members_of fs
    → Adds (begin_object ∷ []) a b → SendsFields fs b c → Adds (end_object ∷ []) c d
    → Sends (object (members_of fs)) a d
object_sent fs a b c d ordered h g f = record {
  adds = as_tokens _ _ a d (ap (λ (ts : List Token). begin_object ∷ ts) (fields_closed fs))
      (then (begin_object ∷ []) _ a b d h (then _ _ b c d g.adds f));
  read = rw (fields_read fs no_members g.read, ordered) refl;
}

-- The whole text.

mutual
  depth-outline : (d : Data) → tree.depth (outline d) ≡ depth d
  depth-outline null = refl
  depth-outline (boolean b) = refl
  depth-outline (number n) = refl
  depth-outline (string s) = refl
  depth-outline (array ds) = ap suc (depth-items_outline ds)
  depth-outline (object ms) = ap suc (depth-members_outline ms)

  depth-items_outline : (ds : Items) → tree.items_depth (items_outline ds) ≡ items_depth ds
  depth-items_outline no_items = refl
  depth-items_outline (item d ds) = ap₂ max (depth-outline d) (depth-items_outline ds)

  depth-members_outline : (ms : Members) → tree.members_depth (members_outline ms) ≡ members_depth ms
  depth-members_outline no_members = refl
  depth-members_outline (member k d ms) = ap₂ max (depth-outline d) (depth-members_outline ms)

printed : (d : Data) (a b : Written) (text : List ℕ) → a.before ≡ [] → a.tokens ≡ [] → Sends d a b
    → text ≡ b.before ++ print b.tokens
    → (b.tokens ≡ json_tokens (outline d)) × (text ≡ print b.tokens)
printed d a b text no_bytes no_tokens h is = (
  h.adds.tokens ∙ ap (λ (ts : List Token). ts ++ json_tokens (outline d)) no_tokens,
  is ∙ ap (λ (bs : List ℕ). bs ++ print b.tokens) (h.adds.before ∙ no_bytes),
)

pub text_sent : (d : Data) (a b : Written) (text : List ℕ) → a.before ≡ [] → a.tokens ≡ [] → Sends d a b
    → text ≡ b.before ++ print b.tokens → text ≡ compact_text d
text_sent d a b text no_bytes no_tokens h is =
    let p = printed d a b text no_bytes no_tokens h is in
    p.1 ∙ ap print p.0 ∙ print-outline d

abbrev last : Option (Json × List Token) → Option Data
last read = option_and_then of_json (option_and_then (λ p. if_last p.0 p.1) read)

pub read_sent : (d : Data) (a b : Written) (text : List ℕ) → a.before ≡ [] → a.tokens ≡ [] → Sends d a b
    → text ≡ b.before ++ print b.tokens → tokens (print b.tokens) ≡ b.tokens → depth d ≤ max_depth → read text ≡ Some d
read_sent d a b text no_bytes no_tokens h is same low =
    let p = printed d a b text no_bytes no_tokens h is in
    let low_enough : tree.depth (outline d) ≤ max_depth = rw (depth-outline d) low in
    ap last (ap (value max_depth) (ap tokens p.1 ∙ same ∙ p.0 ∙ sym (append-nil (json_tokens (outline d))))
    ∙ value-json_tokens (outline d) max_depth [] low_enough) ∙ h.read
