-- The integers of a scenario that is read of a text.
use Rattle.std.proofs.Common.{◌≡◌, ℕ, zero, suc, Bool, true, false, cond, pos, List, [], ◌∷◌, ◌++◌, length, get_or, codes, Option, Some, None, option_map, option_and_then, Result, Ok, Err, Ordering, Less, Equal, Greater, refl, subst, arith}
use Rattle.std.specs.Prelude.{IfSome, IfOk}
use Rattle.std.specs.List.{All}
use Rattle.std.specs.Ordering.{nat_cmp, match_ordering}
use Rattle.std.specs.Cmp.Lexicographic.{slice_cmp}
use Rattle.std.specs.Str.{bytes_eq, is_utf8}
use Rattle.std.proofs.lemmas.List.Elements.{All-nil, All-push, All-map}
use Rattle.rt_base.specs.declared.ids.ItemId.{ItemId}
use Rattle.item_model.specs.declared.decl.ItemDecl.{ItemDecl}
use Rattle.step_script.specs.declared.expr.BinOp.{BinOp}
use Rattle.step_script.specs.Shown.{Shown}
use Rattle.serde_json.specs.Data.{Data, null, boolean, number, string, array, object, Items, no_items, item, Members, no_members, member}
use Rattle.serde_json.specs.Find.{get_member, get, as_number, as_str, as_array, as_i64}
use Rattle.serde_json.specs.Read.{read}
use Rattle.scenario_forms.specs.declared.error.Place.{Place}
use Rattle.scenario_forms.specs.declared.error.Place.TheVariants as places
use Rattle.scenario_forms.specs.declared.error.ItemMember.TheVariants as item_members
use Rattle.scenario_forms.specs.declared.error.TxnMember.TheVariants as txn_members
use Rattle.scenario_forms.specs.declared.error.TxnMember.{TxnMember}
use Rattle.scenario_forms.specs.declared.error.FormError.{FormError}
use Rattle.scenario_forms.specs.Reading.{needed, optional, member_at, member_or, array_at, fold_at, form_step, all_at}
use Rattle.scenario_forms.specs.Fields.{Places, item_in, integer, whole, sized, new_name}
use Rattle.scenario_forms.specs.Shapes.{Form, const, sample, serial, last, bin, one_of, two_of, named_shape, member_shape, op_word, two_items, shape_of}
use Rattle.scenario_forms.specs.Exprs.{Known, last_of, bin_of, expr_in, expr_at}
use Rattle.scenario_forms.specs.Ops as ops
use Rattle.scenario_forms.specs.Ops.{Shape, reads, writes, computes, commits, quits, KnownOp, text_form, read_form, write_form, compute_form, op_form, first_of, read_of, write_of, op_of, op_in}
use Rattle.scenario_forms.specs.Items.{Table, kind_form, item_kind, item_at, item_step, no_items_yet}
use Rattle.scenario_forms.specs.Txns.{Txn, Txns, times_at, names_at, releases_at, samples_at, script_at, txn_at, txn_name, txn_step, no_txns_yet}
use Rattle.scenario_forms.specs.Root.{Formed, is_second, head_at, items_at, txns_at, sets_at, forms_at}
use Rattle.scenario_reader.specs.declared.error.ScenarioError.{ScenarioError}
use Rattle.scenario_reader.specs.Refusals as refusals
use Rattle.scenario_reader.specs.declared.error.ScenarioError.TheVariants.{UnknownName}
use Rattle.scenario_reader.specs.Refusals.{pass, formed}
use Rattle.scenario_reader.specs.Unknown.{unknown_name}
use Rattle.scenario_reader.specs.Judged.{judged}
use Rattle.scenario_reader.specs.Made.{program_from, made_of, with_room}
use Rattle.scenario_reader.specs.Reading.{data_of, scenario_from, scenario_of, scenario_in}
use Rattle.name_table.specs.Places.{place_in}
use Rattle.scenario_forms.proofs.FreshNames.{Holds, through, holds_ok, item_form}
use Rattle.scenario_writer.specs.Integers.{IsI64, HasConstants, OpHasConstants, ProgramHasIntegers, HasIntegers}
use Rattle.scenario_reader.proofs.Ranges.{needed_holds}
use Rattle.scenario_reader.proofs.Meets.{formed_ok}
use Rattle.law_texts.specs.Texts.{ReadHasIntegers}
use Rattle.law_texts.proofs.Numbers.{IfI64, HasI64, ItemsHaveI64, MembersHaveI64, if_mapped, if_then, read_has}

-- Data that are looked up.

by_order : (o : Ordering) (a b c : Option Data) → IfSome a HasI64 → IfSome b HasI64 → IfSome c HasI64
    → IfSome (match_ordering o a b c) HasI64
by_order Less a b c h k l = h
by_order Equal a b c h k l = k
by_order Greater a b c h k l = l

member_has : (k : List ℕ) (ms : Members) → MembersHaveI64 ms → IfSome (get_member k ms) HasI64
member_has k no_members h = tt
member_has k (member l e ms) h =
    by_order (slice_cmp nat_cmp k l) (get_member k ms) (Some e) (get_member k ms) (member_has k ms h.1) h.0
    (member_has k ms h.1)

get_has : (k : List ℕ) (d : Data) → HasI64 d → IfSome (get k d) HasI64
get_has k null h = tt
get_has k (boolean b) h = tt
get_has k (number n) h = tt
get_has k (string s) h = tt
get_has k (array ds) h = tt
get_has k (object ms) h = member_has k ms h

-- what a form gives of such data
abbrev Forms : {A : Type 0} → (A → Type 0) → (Data → Option A) → Type 0
Forms P form = (d : Data) → HasI64 d → IfSome (form d) P

number_has : Forms IfI64 as_number
number_has null h = tt
number_has (boolean b) h = tt
number_has (number n) h = h
number_has (string s) h = tt
number_has (array ds) h = tt
number_has (object ms) h = tt

items_have : Forms ItemsHaveI64 as_array
items_have null h = tt
items_have (boolean b) h = tt
items_have (number n) h = tt
items_have (string s) h = tt
items_have (array ds) h = h
items_have (object ms) h = tt

integer_has : Forms IsI64 integer
integer_has d h = if_then IfI64 IsI64 as_i64 (as_number d) (number_has d h) (λ n k. k)

-- Members.

optional_holds : {A : Type 0} (P : A → Type 0) (default : A) (place : Place) (form : Data → Option A) (o : Option Data)
    → P default → Forms P form → IfSome o HasI64 → Holds P (optional default place form o)
optional_holds P default place form None here forms h = here
optional_holds P default place form (Some d) here forms h = needed_holds P place (form d) (forms d h)

member_or_holds : {A : Type 0} (P : A → Type 0) (default : A) (place : Place) (form : Data → Option A) (name : List ℕ)
    (d : Data) → P default → Forms P form → HasI64 d → Holds P (member_or default place form name d)
unfolding member_or
member_or_holds P default place form name d here forms h =
    optional_holds P default place form (get name d) here forms (get_has name d h)

array_holds : (place : Place) (name : List ℕ) (d : Data) → HasI64 d → Holds ItemsHaveI64 (array_at place name d)
array_holds place name d h = member_or_holds ItemsHaveI64 no_items place as_array name d tt items_have h

member_array_holds : (place : Place) (name : List ℕ) (d : Data) → HasI64 d
    → Holds ItemsHaveI64 (member_at place as_array name d)
unfolding member_at
member_array_holds place name d h =
    needed_holds ItemsHaveI64 place (option_and_then as_array (get name d))
    (if_then HasI64 ItemsHaveI64 as_array (get name d) (get_has name d h) items_have)

-- Arrays.

folded : {A : Type 0} (P : A → Type 0) (step : A → Data → Result A FormError)
    → ((a : A) (d : Data) → HasI64 d → P a → Holds P (step a d))
    → (ds : Items) (a : A) → ItemsHaveI64 ds → P a → Holds P (fold_at step a ds)
unfolding fold_at
folded P step each no_items a has h = h
folded P step each (item d ds) a has h =
    through P (step a d) (λ b. fold_at step b ds)
    (λ b is. folded P step each ds b has.1 (holds_ok P (step a d) b (each a d has.0 h) is))

all_hold : {A : Type 0} (P : A → Type 0) (place : ℕ → Place) (form : Data → Option A) (values : Items) → Forms P form
    → ItemsHaveI64 values → Holds (All P) (all_at place form values)
all_hold P place form values forms has =
    folded (All P) (form_step place form)
    (λ acc d here so_far. through (All P) (needed (place (length acc)) (form d)) (λ x. Ok (acc ++ x ∷ []))
    (λ x is. All-push P acc x so_far
    (holds_ok P (needed (place (length acc)) (form d)) x (needed_holds P (place (length acc)) (form d) (forms d here))
    is)))
    values [] has (All-nil P)

-- Expressions.

abbrev FormHas : Form → Type 0
FormHas (const n) = IsI64 n
FormHas sample = Unit {0}
FormHas serial = Unit {0}
FormHas (last name) = Unit {0}
FormHas (bin op a b) = HasI64 a × HasI64 b

word_has : (b c : Bool) → IfSome (cond b (Some sample) (cond c (Some serial) None)) FormHas
word_has true c = tt
word_has false true = tt
word_has false false = tt

abbrev BothHave : Data × Data → Type 0
BothHave p = HasI64 p.0 × HasI64 p.1

two_have : (ds : Items) → ItemsHaveI64 ds → IfSome (two_of ds) BothHave
two_have no_items h = tt
two_have (item a no_items) h = tt
two_have (item a (item b no_items)) h = (h.0, h.1.0)
two_have (item a (item b (item c ds))) h = tt

two_items_have : Forms BothHave two_items
two_items_have d h = if_then ItemsHaveI64 BothHave two_of (as_array d) (items_have d h) two_have

last_has : (o : Option (List ℕ)) → IfSome (option_map last o) FormHas
last_has None = tt
last_has (Some name) = tt

bin_has : (o : Option BinOp) (q : Option (Data × Data)) → IfSome q BothHave
    → IfSome (option_and_then (λ op. option_map (λ p. bin op p.0 p.1) q) o) FormHas
bin_has None q h = tt
bin_has (Some op) None h = tt
bin_has (Some op) (Some p) h = h

either : (b : Bool) (o q : Option Form) → IfSome o FormHas → IfSome q FormHas → IfSome (cond b o q) FormHas
either true o q h k = h
either false o q h k = k

named_has : (name : List ℕ) (d : Data) → HasI64 d → IfSome (named_shape name d) FormHas
named_has name d h =
    either (bytes_eq name (codes "last")) (option_map last (as_str d))
    (option_and_then (λ op. option_map (λ p. bin op p.0 p.1) (two_items d)) (op_word name)) (last_has (as_str d))
    (bin_has (op_word name) (two_items d) (two_items_have d h))

member_form_has : (ms : Members) → MembersHaveI64 ms → IfSome (member_shape (one_of ms)) FormHas
member_form_has no_members h = tt
member_form_has (member k d no_members) h = named_has k d h.0
member_form_has (member k d (member l e ms)) h = tt

shape_has : Forms FormHas shape_of
shape_has null h = tt
shape_has (boolean b) h = tt
shape_has (number n) h = if_mapped IsI64 FormHas const (as_i64 n) h (λ z k. k)
shape_has (string s) h = word_has (bytes_eq s (codes "sample")) (bytes_eq s (codes "serial"))
shape_has (array ds) h = tt
shape_has (object ms) h = member_form_has ms h

abbrev KnownHas : Known → Type 0
KnownHas known = HasConstants known.0

last_known : (o : Option ItemId) → KnownHas (last_of o)
last_known None = tt
last_known (Some i) = tt

bin_known : (op : BinOp) (a b : Option Known) → IfSome a KnownHas → IfSome b KnownHas
    → IfSome (option_and_then (λ x. option_and_then (λ y. Some (bin_of op x y)) b) a) KnownHas
bin_known op None b h k = tt
bin_known op (Some x) None h k = tt
bin_known op (Some x) (Some y) h k = (h, k)

form_known : (places : Places) (inner : Data → Option Known) → Forms KnownHas inner → (f : Form) → FormHas f
    → IfSome (expr_in places inner f) KnownHas
form_known places inner ih (const n) h = h
form_known places inner ih sample h = tt
form_known places inner ih serial h = tt
form_known places inner ih (last name) h = last_known (item_in places name)
form_known places inner ih (bin op a b) h = bin_known op (inner a) (inner b) (ih a h.0) (ih b h.1)

expr_has : (places : Places) (most : ℕ) → Forms KnownHas (expr_at places most)
unfolding expr_at
expr_has places zero d h = tt
expr_has places (suc n) d h =
    if_then FormHas KnownHas (expr_in places (expr_at places n)) (shape_of d) (shape_has d h)
    (form_known places (expr_at places n) (expr_has places n))

-- Operations.

abbrev ShapeHas : Shape → Type 0
ShapeHas (reads name) = Unit {0}
ShapeHas (writes name d) = HasI64 d
ShapeHas (computes n) = Unit {0}
ShapeHas commits = Unit {0}
ShapeHas quits = Unit {0}

first_has : (x y : Option Shape) → IfSome x ShapeHas → IfSome y ShapeHas → IfSome (first_of x y) ShapeHas
first_has (Some x) y h k = h
first_has None y h k = k

op_word_has : (b c : Bool) → IfSome (cond b (Some commits) (cond c (Some quits) None)) ShapeHas
op_word_has true c = tt
op_word_has false true = tt
op_word_has false false = tt

text_has : (o : Option (List ℕ)) → IfSome (option_and_then ops.op_word o) ShapeHas
text_has None = tt
text_has (Some text) = op_word_has (bytes_eq text (codes "commit")) (bytes_eq text (codes "quit"))

read_has_none : (b : Bool) (o : Option (List ℕ)) → IfSome (cond b (option_map reads o) None) ShapeHas
read_has_none true None = tt
read_has_none true (Some name) = tt
read_has_none false o = tt

write_has : (b : Bool) (o : Option (List ℕ)) (p : Option Data) → IfSome p HasI64
    → IfSome (cond b (option_and_then (λ name. option_map (writes name) p) o) None) ShapeHas
write_has true None p h = tt
write_has true (Some name) None h = tt
write_has true (Some name) (Some d) h = h
write_has false o p h = tt

compute_has_none : (b : Bool) (o : Option ℕ) → IfSome (cond b (option_map computes o) None) ShapeHas
compute_has_none true None = tt
compute_has_none true (Some n) = tt
compute_has_none false o = tt

op_form_has : Forms ShapeHas op_form
op_form_has d h =
    first_has (text_form d) (first_of (read_form d) (first_of (write_form d) (compute_form d))) (text_has (as_str d))
    (first_has (read_form d) (first_of (write_form d) (compute_form d))
    (read_has_none (sized 1 d) (option_and_then as_str (get (codes "read") d)))
    (first_has (write_form d) (compute_form d)
    (write_has (sized 2 d) (option_and_then as_str (get (codes "write") d)) (get (codes "value") d)
    (get_has (codes "value") d h))
    (compute_has_none (sized 1 d) (option_and_then (whole 1 10000) (get (codes "compute") d)))))

abbrev KnownOpHas : KnownOp → Type 0
KnownOpHas op = OpHasConstants op.0

read_op_has : (o : Option ItemId) → KnownOpHas (read_of o)
read_op_has None = tt
read_op_has (Some i) = tt

write_op_has : (o : Option ItemId) (known : Known) → KnownHas known → KnownOpHas (write_of o known)
write_op_has None known h = h
write_op_has (Some i) known h = h

op_has : (places : Places) (s : Shape) → ShapeHas s → IfSome (op_of places s) KnownOpHas
op_has places (reads name) h = read_op_has (item_in places name)
op_has places (writes name d) h =
    if_mapped KnownHas KnownOpHas (write_of (item_in places name)) (expr_at places 32 d) (expr_has places 32 d h)
    (write_op_has (item_in places name))
op_has places (computes n) h = tt
op_has places commits h = tt
op_has places quits h = tt

op_in_has : (places : Places) → Forms KnownOpHas (op_in places)
op_in_has places d h = if_then ShapeHas KnownOpHas (op_of places) (op_form d) (op_form_has d h) (op_has places)

-- Items.

abbrev DeclHas : ItemDecl → Type 0
DeclHas d = IsI64 d.initial

abbrev NamedHas : List ℕ × ItemDecl → Type 0
NamedHas x = DeclHas x.1

zero_fits : IsI64 (pos 0)
zero_fits = record { sfits = omega arith }

abbrev value_place : ℕ → Place
value_place i = places.ItemMember i item_members.Value

initial_has : (i : ℕ) (d : Data) → HasI64 d → Holds IsI64 (member_or (pos 0) (value_place i) integer (codes "value") d)
initial_has i d h = member_or_holds IsI64 (pos 0) (value_place i) integer (codes "value") d zero_fits integer_has h

item_has : (taken : Places) (i : ℕ) (d : Data) → HasI64 d → Holds NamedHas (item_at taken i d)
unfolding item_at
item_has taken i d h =
    through NamedHas (needed (places.Item i) (item_form d)) _ (λ formed formed_is.
    through NamedHas (member_at (places.ItemMember i item_members.Name) (new_name taken) (codes "name") d) _
    (λ name name_is.
    through NamedHas (member_at (places.ItemMember i item_members.Kind) kind_form (codes "kind") d) _ (λ word word_is.
    through NamedHas (item_kind (places.ItemMember i item_members.Validity) word d) _ (λ kind kind_is.
    through NamedHas (member_or (pos 0) (value_place i) integer (codes "value") d) _ (λ initial is.
    holds_ok IsI64 (member_or (pos 0) (value_place i) integer (codes "value") d) initial (initial_has i d h) is)))))

abbrev DeclsHave : Table → Type 0
DeclsHave t = All DeclHas t.decls

item_steps : (t : Table) (d : Data) → HasI64 d → DeclsHave t → Holds DeclsHave (item_step t d)
unfolding item_step
item_steps t d h so_far =
    through DeclsHave (item_at (place_in t.names) (length t.names) d) _ (λ x is. All-push DeclHas t.decls x.1 so_far
    (holds_ok NamedHas (item_at (place_in t.names) (length t.names) d) x (item_has (place_in t.names) (length t.names) d h) is))

decls_have : (d : Data) → HasI64 d → Holds DeclsHave (items_at d)
unfolding items_at
decls_have d h =
    through DeclsHave (member_at places.Items as_array (codes "items") d) _ (λ values is.
    folded DeclsHave item_step item_steps values no_items_yet
    (holds_ok ItemsHaveI64 (member_at places.Items as_array (codes "items") d) values
    (member_array_holds places.Items (codes "items") d h) is) (All-nil DeclHas))

-- Transactions.

record TxnHas (t : Txn) : Type 0 where
  samples : All IsI64 t.samples
  script : All KnownOpHas t.script

abbrev of_member : ℕ → TxnMember → Place
of_member i which = places.TxnMember i which

abbrev in_member : ℕ → TxnMember → ℕ → Place
in_member i which j = places.Element i which j

samples_have : (i : ℕ) (d : Data) → HasI64 d → Holds (All IsI64) (samples_at i d)
unfolding samples_at
samples_have i d h =
    through (All IsI64) (array_at (of_member i txn_members.Samples) (codes "samples") d) _ (λ values is.
    all_hold IsI64 (in_member i txn_members.Samples) integer values integer_has
    (holds_ok ItemsHaveI64 (array_at (of_member i txn_members.Samples) (codes "samples") d) values
    (array_holds (of_member i txn_members.Samples) (codes "samples") d h) is))

script_has : (items : Places) (i : ℕ) (d : Data) → HasI64 d → Holds (All KnownOpHas) (script_at items i d)
unfolding script_at
script_has items i d h =
    through (All KnownOpHas) (array_at (of_member i txn_members.Script) (codes "script") d) _ (λ values is.
    all_hold KnownOpHas (in_member i txn_members.Script) (op_in items) values (op_in_has items)
    (holds_ok ItemsHaveI64 (array_at (of_member i txn_members.Script) (codes "script") d) values
    (array_holds (of_member i txn_members.Script) (codes "script") d h) is))

txn_has : (items : Places) (i : ℕ) (d : Data) → HasI64 d → Holds TxnHas (txn_at items i d)
unfolding txn_at
txn_has items i d h =
    through TxnHas (times_at i d) _ (λ times times_is.
    through TxnHas (names_at items i txn_members.Reads (codes "reads") d) _ (λ read_names reads_is.
    through TxnHas (names_at items i txn_members.Writes (codes "writes") d) _ (λ write_names writes_is.
    through TxnHas (releases_at i d) _ (λ releases releases_is.
    through TxnHas (samples_at i d) _ (λ samples samples_is.
    through TxnHas (script_at items i d) _ (λ script script_is. record {
      samples = holds_ok (All IsI64) (samples_at i d) samples (samples_have i d h) samples_is;
      script = holds_ok (All KnownOpHas) (script_at items i d) script (script_has items i d h) script_is;
    }))))))

abbrev TxnsHave : Txns → Type 0
TxnsHave t = All TxnHas t.txns

txn_steps : (second : Bool) (items : Places) (t : Txns) (d : Data) → HasI64 d → TxnsHave t
    → Holds TxnsHave (txn_step second items t d)
unfolding txn_step
txn_steps second items t d h so_far =
    through TxnsHave (txn_name second (place_in t.names) (length t.names) d) _ (λ name name_is.
    through TxnsHave (txn_at items (length t.names) d) _ (λ x is. All-push TxnHas t.txns x so_far
    (holds_ok TxnHas (txn_at items (length t.names) d) x (txn_has items (length t.names) d h) is)))

txns_have : (second : Bool) (items : Places) (d : Data) → HasI64 d → Holds TxnsHave (txns_at second items d)
unfolding txns_at
txns_have second items d h =
    through TxnsHave (member_at places.Txns as_array (codes "transactions") d) _ (λ values is.
    folded TxnsHave (txn_step second items) (txn_steps second items) values no_txns_yet
    (holds_ok ItemsHaveI64 (member_at places.Txns as_array (codes "transactions") d) values
    (member_array_holds places.Txns (codes "transactions") d h) is) (All-nil TxnHas))

-- All forms.

record FormedHas (f : Formed) : Type 0 where
  items : DeclsHave f.items
  txns : TxnsHave f.txns

forms_have : (d : Data) → HasI64 d → Holds FormedHas (forms_at d)
unfolding forms_at
forms_have d h =
    through FormedHas (head_at d) _ (λ version version_is. through FormedHas (items_at d) _ (λ items items_is.
    through FormedHas (txns_at (is_second d) (place_in items.names) d) _ (λ txns txns_is.
    through FormedHas (sets_at (place_in items.names) d) _ (λ sets sets_is. record {
      items = holds_ok DeclsHave (items_at d) items (decls_have d h) items_is;
      txns = holds_ok TxnsHave (txns_at (is_second d) (place_in items.names) d) txns (txns_have (is_second d) (place_in items.names) d h)
          txns_is;
    }))))

-- The scenario.

pub thus : {A B : Type 0} (P : B → Type 0) (r : Result A ScenarioError) (f : A → Result B ScenarioError)
    → ((a : A) → r ≡ Ok a → IfOk (f a) P) → IfOk (refusals.◌>>=◌ r f) P
thus P (Ok a) f h = h a refl
thus P (Err e) f h = tt

program_has : (items : ℕ) (t : Txn) → TxnHas t → ProgramHasIntegers (program_from items t)
program_has items t h = record {
  samples = h.samples;
  constants = All-map OpHasConstants (λ (op : KnownOp). op.0) t.script h.script;
}

made_has : (f : Formed) (room : ℕ) → FormedHas f → HasIntegers (with_room room (made_of f))
made_has f room h = record {
  initial = h.items;
  programs = All-map ProgramHasIntegers (program_from (length f.items.decls)) f.txns.txns
      (λ k t lt. program_has (length f.items.decls) (get_or f.txns.txns k t) (h.txns k t lt));
}

from_forms : (f : Formed) → FormedHas f → IfOk (scenario_from f) HasIntegers
unfolding scenario_from
from_forms f h =
    thus HasIntegers (pass (option_map UnknownName (unknown_name f))) _ (λ known known_is.
    thus HasIntegers (judged (made_of f)) (λ room. Ok (with_room room (made_of f))) (λ room is. made_has f room h))

of_data : (d : Data) → HasI64 d → IfOk (scenario_of d) HasIntegers
unfolding scenario_of
of_data d h =
    thus HasIntegers (formed (forms_at d)) scenario_from
    (λ f is. from_forms f (holds_ok FormedHas (forms_at d) f (forms_have d h) (formed_ok (forms_at d) f is)))

in_data : (o : Option Data) → IfSome o HasI64 → IfOk (scenario_in o) HasIntegers
in_data None h = tt
in_data (Some d) h = of_data d h

data_has : (b : Bool) (o : Option Data) → IfSome o HasI64 → IfSome (cond b o None) HasI64
data_has true o h = h
data_has false o h = tt

pub read_has_integers : ReadHasIntegers
read_has_integers bytes s is =
    subst (λ (r : Result Shown ScenarioError). IfOk r HasIntegers) is
    (in_data (data_of bytes) (data_has (is_utf8 bytes) (read bytes) (read_has bytes)))
