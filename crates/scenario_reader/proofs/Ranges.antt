-- The numbers of forms are within the ranges of a text, and their operations are good.
use Rattle.std.proofs.Common.{◌≡◌, ℕ, zero, suc, ◌+◌, ◌^◌, ◌<◌, ◌≤◌, max, Bool, true, false, cond, List, [], ◌∷◌, ◌++◌, length, codes, ℤ, pos, Option, Some, None, Result, Ok, Err, refl, sym, ap, subst, ◌∙◌, arith, length-append}
use Rattle.std.specs.Prelude.{if◌then◌else◌, ◌&&◌, option_and_then, option_map, is_none, nat_le, nat_lt, IfSome}
use Rattle.std.specs.Str.{bytes_eq}
use Rattle.std.specs.List.{All, list_all}
use Rattle.std.proofs.lemmas.Bool.{and_parts, and_from, leb-true, le-leb, lt-ltb}
use Rattle.std.proofs.lemmas.List.Elements.{All-append, All-cons, All-nil, All-push}
use Rattle.rt_base.specs.declared.ids.ItemId.{ItemId}
use Rattle.serde_json.specs.Data.{Data, Items, Members, no_items, item, number, string, object}
use Rattle.serde_json.specs.Find.{get, as_str, as_array, as_number, as_u64, as_object, as_i64}
use Rattle.item_model.specs.declared.decl.ItemDecl.{ItemDecl}
use Rattle.item_model.specs.declared.decl.ItemKind.{ItemKind}
use Rattle.item_model.specs.declared.decl.ItemKind.TheVariants as kinds
use Rattle.step_script.specs.declared.expr.BinOp.{BinOp}
use Rattle.step_script.specs.Values.{Tree, leaf_const, leaf_sample, leaf_serial, leaf_last, node}
use Rattle.step_script.specs.Scripts.{Operation, is_good, depth, reads_below}
use Rattle.step_script.specs.Scripts as scripts
use Rattle.step_script.specs.Scenarios.{HasValidity, HasTextTimes, IsTextOp}
use Rattle.scenario_forms.specs.declared.error.Place.{Place}
use Rattle.scenario_forms.specs.declared.error.FormError.{FormError}
use Rattle.scenario_forms.specs.declared.error.Place.TheVariants as places
use Rattle.scenario_forms.specs.declared.error.ItemMember.TheVariants as members
use Rattle.scenario_forms.specs.declared.error.TxnMember.TheVariants as txn_members
use Rattle.scenario_forms.specs.declared.error.TxnMember.{TxnMember}
use Rattle.scenario_forms.specs.Arrays.{named}
use Rattle.step_script.specs.declared.releases.Releases.{Releases}
use Rattle.scenario_forms.specs.declared.txn.Times.{Times}
use Rattle.scenario_forms.specs.Reading.{◌>>=◌, needed, optional, member_at, member_or, array_at, fold_at, form_step, all_at}
use Rattle.scenario_forms.specs.Fields.{Places, whole, item_in, item_id, new_name, integer, sized, no_others, formed_unit}
use Rattle.scenario_forms.specs.Shapes.{Form, const, sample, serial, last, bin, shape_of}
use Rattle.scenario_forms.specs.Exprs.{Known, last_of, bin_of, expr_in, expr_at}
use Rattle.scenario_forms.specs.Ops.{Shape, reads, writes, computes, commits, quits, op_word, text_form, read_form, write_form, compute_form, op_form, first_of, KnownOp, read_of, write_of, op_of, op_in}
use Rattle.scenario_forms.specs.Items.{Table, with_item, item_at, item_step, item_kind, no_items_yet, kind_form}
use Rattle.scenario_forms.specs.Txns.{Txn, Txns, with_txn, times_at, releases_at, names_at, samples_at, script_at, txn_name, txn_at, txn_step, no_txns_yet}
use Rattle.scenario_forms.specs.Sets.{Together, is_set_member, set_at, set_step}
use Rattle.scenario_forms.specs.Root.{Formed, is_second, head_at, sets_at, forms_at, items_at, txns_at}
use Rattle.name_table.specs.Places.{place_in}
use Rattle.name_table.proofs.Places.{place_is}
use Rattle.scenario_forms.proofs.Validity.{valid_kind}
use Rattle.scenario_forms.proofs.FreshNames.{Holds, through, holds_ok, after_kind, after_name, after_form, item_form, item_at_is}
use Rattle.scenario_reader.specs.Made.{decl_of, IsGoodOp, IsGoodTxn}
use Rattle.scenario_reader.proofs.Tables.{folded, IsItemTable, items_hold, after_txns, after_items, after_version, forms_at_is}

-- Members.

abbrev IfForm : {A : Type 0} → (A → Type 0) → (Data → Option A) → Type 0
IfForm P form = (d : Data) → IfSome (form d) P

pub needed_holds : {A : Type 0} (P : A → Type 0) (place : Place) (o : Option A) → IfSome o P → Holds P (needed place o)
needed_holds P place None h = tt
needed_holds P place (Some x) h = h

formed_holds : {A : Type 0} (P : A → Type 0) (form : Data → Option A) (o : Option Data) → IfForm P form
    → IfSome (option_and_then form o) P
formed_holds P form None h = tt
formed_holds P form (Some d) h = h d

member_holds : {A : Type 0} (P : A → Type 0) (place : Place) (form : Data → Option A) (name : List ℕ) (d : Data)
    → IfForm P form → Holds P (member_at place form name d)
unfolding member_at
member_holds P place form name d h = needed_holds P place (option_and_then form (get name d)) (formed_holds P form
    (get name d) h)

optional_holds : {A : Type 0} (P : A → Type 0) (default : A) (place : Place) (form : Data → Option A) (o : Option Data)
    → P default → IfForm P form → Holds P (optional default place form o)
optional_holds P default place form None here h = here
optional_holds P default place form (Some d) here h = needed_holds P place (form d) (h d)

member_or_holds : {A : Type 0} (P : A → Type 0) (default : A) (place : Place) (form : Data → Option A) (name : List ℕ)
    (d : Data) → P default → IfForm P form → Holds P (member_or default place form name d)
unfolding member_or
member_or_holds P default place form name d here h = optional_holds P default place form (get name d) here h

abbrev IsBetween : ℕ → ℕ → ℕ → Type 0
IsBetween low high n = (low ≤ n) × (n ≤ high)

between_by : (low high n : ℕ) (b : Bool) → (nat_le low n && nat_le n high) ≡ b
    → IfSome (cond b (Some n) None) (IsBetween low high)
between_by low high n false is = tt
between_by low high n true is =
    let parts = and_parts (nat_le low n) (nat_le n high) is in (leb-true low n parts.0, leb-true n high parts.1)

if_then : {A B : Type 0} (P : B → Type 0) (f : A → Option B) (o : Option A) → ((a : A) → IfSome (f a) P)
    → IfSome (option_and_then f o) P
if_then P f None h = tt
if_then P f (Some a) h = h a

whole_between : (low high : ℕ) → IfForm (IsBetween low high) (whole low high)
whole_between low high d =
    if_then (IsBetween low high) (λ n. if nat_le low n && nat_le n high then Some n else None)
    (option_and_then as_u64 (as_number d)) (λ n. between_by low high n (nat_le low n && nat_le n high) refl)

pub number_at : (place : Place) (low high : ℕ) (name : List ℕ) (d : Data) (n : ℕ)
    → member_at place (whole low high) name d ≡ Ok n → IsBetween low high n
number_at place low high name d n is =
    holds_ok (IsBetween low high) (member_at place (whole low high) name d) n
    (member_holds (IsBetween low high) place (whole low high) name d (whole_between low high)) is

pub number_or : (default : ℕ) (place : Place) (high : ℕ) (name : List ℕ) (d : Data) (n : ℕ) → default ≤ high
    → member_or default place (whole 0 high) name d ≡ Ok n → IsBetween 0 high n
number_or default place high name d n le is =
    holds_ok (IsBetween 0 high) (member_or default place (whole 0 high) name d) n
    (member_or_holds (IsBetween 0 high) default place (whole 0 high) name d (omega arith, le) (whole_between 0 high)) is

-- Items.

abbrev IsValid : ItemDecl → Type 0
IsValid d = HasValidity d.kind

abbrev IsValidItem : List ℕ × ItemDecl → Type 0
IsValidItem x = IsValid x.1

valid_item : (taken : Places) (i : ℕ) (d : Data) → Holds IsValidItem (item_at taken i d)
valid_item taken i d =
    subst (λ (r : Result (List ℕ × ItemDecl) FormError). Holds IsValidItem r) (sym (item_at_is taken i d))
    (through IsValidItem (needed (places.Item i) (item_form d)) (after_form taken i d)
    (λ formed formed_is. through IsValidItem (member_at (places.ItemMember i members.Name) (new_name taken)
    (codes "name") d)
    (after_name i d)
    (λ name name_is. through IsValidItem (member_at (places.ItemMember i members.Kind) kind_form (codes "kind") d)
    (λ word. item_kind (places.ItemMember i members.Validity) word d >>= after_kind i d name)
    (λ word word_is. through IsValidItem (item_kind (places.ItemMember i members.Validity) word d) (after_kind i d name)
    (λ kind kind_is. through IsValidItem
    (member_or (pos 0) (places.ItemMember i members.Value) integer (codes "value") d)
    (λ initial. Ok (name, record { kind = kind; initial = initial }))
    (λ initial is. valid_kind (places.ItemMember i members.Validity) word d kind kind_is))))))

-- the places of names are below their number
abbrev pub IsInRange : Places → ℕ → Type 0
IsInRange places n = (name : List ℕ) (k : ℕ) → places name ≡ Some k → k < n

abbrev AreItemsGood : Table → Type 0
AreItemsGood t = All IsValid t.decls

item_steps : (t : Table) (d : Data) → AreItemsGood t → Holds AreItemsGood (item_step t d)
unfolding item_step
item_steps t d h =
    through AreItemsGood (item_at (place_in t.names) (length t.names) d) (λ x. Ok (with_item t x))
    (λ x is. All-push IsValid t.decls x.1 h
    (holds_ok IsValidItem (item_at (place_in t.names) (length t.names) d) x
    (valid_item (place_in t.names) (length t.names) d) is))

items_good : (d : Data) → Holds AreItemsGood (items_at d)
unfolding items_at
items_good d =
    through AreItemsGood _ _ (λ values is. folded AreItemsGood item_step item_steps values no_items_yet
    (All-nil IsValid))

-- Expressions.

-- over so many items where its names are known, and at most so deep
abbrev IsExpr : ℕ → ℕ → Known → Type 0
IsExpr n m x = (x.1 ≡ true → reads_below n x.0 ≡ true) × (depth x.0 ≤ m)

below_of : (n : ℕ) (o : Option ℕ) → ((k : ℕ) → o ≡ Some k → k < n) → IfSome (option_map item_id o) (λ i. i.0 < n)
below_of n None h = tt
below_of n (Some k) h = h k refl

last_good : (n m : ℕ) (o : Option ItemId) → IfSome o (λ i. i.0 < n) → IsExpr n (suc m) (last_of o)
last_good n m (Some i) h = ((λ known. lt-ltb i.0 n h), omega arith)
last_good n m None h = ((λ known. absurd cc), omega arith)

bin_good : (n m : ℕ) (op : BinOp) (a b : Option Known) → IfSome a (IsExpr n m) → IfSome b (IsExpr n m)
    → IfSome (option_and_then (λ x. option_and_then (λ y. Some (bin_of op x y)) b) a) (IsExpr n (suc m))
bin_good n m op None b h k = tt
bin_good n m op (Some x) None h k = tt
bin_good n m op (Some x) (Some y) h k = (
  (λ known.
      let parts = and_parts x.1 y.1 known in
      and_from (reads_below n x.0) (reads_below n y.0) (h.0 parts.0) (k.0 parts.1)),
  omega (arith, h.1, k.1),
)

form_good : (n : ℕ) (places : Places) → IsInRange places n → (m : ℕ) (read : Data → Option Known)
    → ((d : Data) → IfSome (read d) (IsExpr n m)) → (f : Form) → IfSome (expr_in places read f) (IsExpr n (suc m))
form_good n places range m read ih (const c) = ((λ known. refl), omega arith)
form_good n places range m read ih sample = ((λ known. refl), omega arith)
form_good n places range m read ih serial = ((λ known. refl), omega arith)
form_good n places range m read ih (last name) =
    last_good n m (item_in places name) (below_of n (places name) (range name))
form_good n places range m read ih (bin op a b) = bin_good n m op (read a) (read b) (ih a) (ih b)

expr_good : (n : ℕ) (places : Places) → IsInRange places n → (m : ℕ) (d : Data)
    → IfSome (expr_at places m d) (IsExpr n m)
unfolding expr_at
expr_good n places range zero d = tt
expr_good n places range (suc m) d =
    if_then (IsExpr n (suc m)) (expr_in places (expr_at places m)) (shape_of d)
    (form_good n places range m (expr_at places m) (λ e. expr_good n places range m e))

-- Operations.

abbrev IsShape : Shape → Type 0
IsShape (reads name) = Unit {0}
IsShape (writes name d) = Unit {0}
IsShape (computes n) = IsBetween 1 10000 n
IsShape commits = Unit {0}
IsShape quits = Unit {0}

first_good : (x y : Option Shape) → IfSome x IsShape → IfSome y IsShape → IfSome (first_of x y) IsShape
first_good (Some x) y h k = h
first_good None y h k = k

words_good : (b c : Bool) → IfSome (cond b (Some commits) (cond c (Some quits) None)) IsShape
words_good true c = tt
words_good false true = tt
words_good false false = tt

read_good : (b : Bool) (o : Option (List ℕ)) → IfSome (cond b (option_map reads o) None) IsShape
read_good true None = tt
read_good true (Some name) = tt
read_good false o = tt

write_good : (b : Bool) (o : Option (List ℕ)) (p : Option Data)
    → IfSome (cond b (option_and_then (λ name. option_map (writes name) p) o) None) IsShape
write_good true None p = tt
write_good true (Some name) None = tt
write_good true (Some name) (Some d) = tt
write_good false o p = tt

compute_good : (b : Bool) (o : Option ℕ) → IfSome o (IsBetween 1 10000)
    → IfSome (cond b (option_map computes o) None) IsShape
compute_good true None h = tt
compute_good true (Some n) h = h
compute_good false o h = tt

op_form_good : (d : Data) → IfSome (op_form d) IsShape
op_form_good d =
    first_good (text_form d) _
    (if_then IsShape op_word (as_str d) (λ text. words_good (bytes_eq text (codes "commit")) (bytes_eq text
    (codes "quit"))))
    (first_good (read_form d) _ (read_good (sized 1 d) (option_and_then as_str (get (codes "read") d)))
    (first_good (write_form d) _
    (write_good (sized 2 d) (option_and_then as_str (get (codes "write") d)) (get (codes "value") d))
    (compute_good (sized 1 d) (option_and_then (whole 1 10000) (get (codes "compute") d))
    (formed_holds (IsBetween 1 10000) (whole 1 10000) (get (codes "compute") d) (whole_between 1 10000)))))

read_op_good : (n : ℕ) (o : Option ItemId) → IfSome o (λ i. i.0 < n) → IsGoodOp n (read_of o)
read_op_good n (Some i) h = record { good = λ known. lt-ltb i.0 n h; text = tt }
read_op_good n None h = record { good = λ known. absurd cc; text = tt }

write_op_good : (n : ℕ) (o : Option ItemId) (e : Option Known) → IfSome o (λ i. i.0 < n) → IfSome e (IsExpr n 32)
    → IfSome (option_map (write_of o) e) (IsGoodOp n)
write_op_good n o None h k = tt
write_op_good n None (Some x) h k = record { good = λ known. absurd cc; text = tt }
write_op_good n (Some i) (Some x) h k = record {
  good = λ known. and_from (nat_lt i.0 n && reads_below n x.0) (nat_le (depth x.0) 32)
      (and_from (nat_lt i.0 n) (reads_below n x.0) (lt-ltb i.0 n h) (k.0 known)) (le-leb (depth x.0) 32 k.1);
  text = tt;
}

op_good : (n : ℕ) (places : Places) → IsInRange places n → (s : Shape) → IsShape s
    → IfSome (op_of places s) (IsGoodOp n)
op_good n places range (reads name) h = read_op_good n (item_in places name) (below_of n (places name) (range name))
op_good n places range (writes name d) h =
    write_op_good n (item_in places name) (expr_at places 32 d) (below_of n (places name) (range name))
    (expr_good n places range 32 d)
op_good n places range (computes c) h = record { good = λ known. le-leb 1 c h.0; text = h }
op_good n places range commits h = record { good = λ known. refl; text = tt }
op_good n places range quits h = record { good = λ known. refl; text = tt }

shaped : (n : ℕ) (places : Places) → IsInRange places n → (o : Option Shape) → IfSome o IsShape
    → IfSome (option_and_then (op_of places) o) (IsGoodOp n)
shaped n places range None h = tt
shaped n places range (Some s) h = op_good n places range s h

op_in_good : (n : ℕ) (places : Places) → IsInRange places n → IfForm (IsGoodOp n) (op_in places)
op_in_good n places range d = shaped n places range (op_form d) (op_form_good d)

-- Arrays.

all_hold : {A : Type 0} (P : A → Type 0) (place : ℕ → Place) (form : Data → Option A) (values : Items) → IfForm P form
    → Holds (All P) (all_at place form values)
all_hold P place form values h =
    folded (All P) (form_step place form)
    (λ acc d so_far. through (All P) (needed (place (length acc)) (form d)) (λ x. Ok (acc ++ x ∷ []))
    (λ x is. All-push P acc x so_far
    (holds_ok P (needed (place (length acc)) (form d)) x (needed_holds P (place (length acc)) (form d) (h d)) is)))
    values [] (All-nil P)

abbrev script_place : ℕ → ℕ → Place
script_place i j = places.Element i txn_members.Script j

abbrev set_place : ℕ → ℕ → Place
set_place i j = places.SetElement i j

abbrev of_member : ℕ → TxnMember → Place
of_member i member = places.TxnMember i member

script_good : (n : ℕ) (places : Places) → IsInRange places n → (i : ℕ) (d : Data)
    → Holds (All (IsGoodOp n)) (script_at places i d)
unfolding script_at
script_good n places range i d =
    through (All (IsGoodOp n)) (array_at (of_member i txn_members.Script) (codes "script") d)
    (all_at (script_place i) (op_in places))
    (λ values is. all_hold (IsGoodOp n) (script_place i) (op_in places) values
    (op_in_good n places range))

-- Transactions.

record AreTextTimes (t : Times) : Type 0 where
  prio : t.prio ≤ 2 ^ 31
  period : t.period ≤ 2 ^ 40
  offset : t.offset ≤ 2 ^ 40
  deadline : t.deadline ≤ 2 ^ 40
  steps : t.steps ≤ 2 ^ 40
  quiet : t.quiet ≤ 2 ^ 40

abbrev after_steps : ℕ → Data → ℕ → ℕ → ℕ → ℕ → ℕ → Result Times FormError
after_steps i d prio period offset deadline steps =
    member_or 0 (of_member i txn_members.Quiet) (whole 0 (2 ^ 40)) (codes "quiet") d >>= λ quiet. Ok
    (record { prio = prio; period = period; offset = offset; deadline = deadline; steps = steps; quiet = quiet })

abbrev after_deadline : ℕ → Data → ℕ → ℕ → ℕ → ℕ → Result Times FormError
after_deadline i d prio period offset deadline =
    member_at (of_member i txn_members.Steps) (whole 0 (2 ^ 40)) (codes "steps") d
    >>= after_steps i d prio period offset deadline

abbrev after_offset : ℕ → Data → ℕ → ℕ → ℕ → Result Times FormError
after_offset i d prio period offset =
    member_or period (of_member i txn_members.Deadline) (whole 0 (2 ^ 40)) (codes "deadline") d
    >>= after_deadline i d prio period offset

abbrev after_period : ℕ → Data → ℕ → ℕ → Result Times FormError
after_period i d prio period =
    member_or 0 (of_member i txn_members.Offset) (whole 0 (2 ^ 40)) (codes "offset") d >>= after_offset i d prio period

abbrev after_prio : ℕ → Data → ℕ → Result Times FormError
after_prio i d prio =
    member_at (of_member i txn_members.Period) (whole 0 (2 ^ 40)) (codes "period") d >>= after_period i d prio

times_good : (i : ℕ) (d : Data) → Holds AreTextTimes (times_at i d)
unfolding times_at
times_good i d =
    through AreTextTimes (member_at (of_member i txn_members.Priority) (whole 0 (2 ^ 31)) (codes "priority") d)
    (after_prio i d)
    (λ prio prio_is. through AreTextTimes (member_at (of_member i txn_members.Period) (whole 0 (2 ^ 40))
    (codes "period") d)
    (after_period i d prio)
    (λ period period_is. through AreTextTimes
    (member_or 0 (of_member i txn_members.Offset) (whole 0 (2 ^ 40)) (codes "offset") d) (after_offset i d prio period)
    (λ offset offset_is. through AreTextTimes
    (member_or period (of_member i txn_members.Deadline) (whole 0 (2 ^ 40)) (codes "deadline") d)
    (after_deadline i d prio period offset)
    (λ deadline deadline_is. through AreTextTimes
    (member_at (of_member i txn_members.Steps) (whole 0 (2 ^ 40)) (codes "steps") d)
    (after_steps i d prio period offset deadline)
    (λ steps steps_is. through AreTextTimes
    (member_or 0 (of_member i txn_members.Quiet) (whole 0 (2 ^ 40)) (codes "quiet") d)
    (λ quiet. Ok
    (record { prio = prio; period = period; offset = offset; deadline = deadline; steps = steps; quiet = quiet }))
    (λ quiet quiet_is. record {
      prio = (number_at (of_member i txn_members.Priority) 0 (2 ^ 31) (codes "priority") d prio prio_is).1;
      period = (number_at (of_member i txn_members.Period) 0 (2 ^ 40) (codes "period") d period period_is).1;
      offset = (number_or 0 (of_member i txn_members.Offset) (2 ^ 40) (codes "offset") d offset
          (omega arith) offset_is).1;
      deadline = (number_or period (of_member i txn_members.Deadline) (2 ^ 40) (codes "deadline") d deadline
          (number_at (of_member i txn_members.Period) 0 (2 ^ 40) (codes "period") d period period_is).1 deadline_is).1;
      steps = (number_at (of_member i txn_members.Steps) 0 (2 ^ 40) (codes "steps") d steps steps_is).1;
      quiet = (number_or 0 (of_member i txn_members.Quiet) (2 ^ 40) (codes "quiet") d quiet (omega arith) quiet_is).1;
    }))))))

text_times : (n : ℕ) (t : Txn) → AreTextTimes t.times → HasTextTimes (decl_of n t)
text_times n t h = record {
  prio = h.prio;
  period = h.period;
  offset = h.offset;
  deadline = h.deadline;
  steps = h.steps;
  quiet = h.quiet;
}

abbrev pub Names : Type 0
Names = List (Option ItemId)

abbrev pub after_samples : Places → ℕ → Data → Times → Names → Names → Releases → List ℤ → Result Txn FormError
after_samples items i d times read_names write_names releases samples =
    script_at items i d >>= λ script. Ok
    (record {
      times = times;
      reads = read_names;
      writes = write_names;
      releases = releases;
      samples = samples;
      script = script;
    })

abbrev pub after_releases : Places → ℕ → Data → Times → Names → Names → Releases → Result Txn FormError
after_releases items i d times read_names write_names releases =
    samples_at i d >>= after_samples items i d times read_names write_names releases

abbrev pub after_writes : Places → ℕ → Data → Times → Names → Names → Result Txn FormError
after_writes items i d times read_names write_names = releases_at i d >>= after_releases items i d times read_names
    write_names

abbrev pub after_reads : Places → ℕ → Data → Times → Names → Result Txn FormError
after_reads items i d times read_names =
    names_at items i txn_members.Writes (codes "writes") d >>= after_writes items i d times read_names

abbrev pub after_times : Places → ℕ → Data → Times → Result Txn FormError
after_times items i d times =
    names_at items i txn_members.Reads (codes "reads") d >>= after_reads items i d times

txn_good : (n : ℕ) (places : Places) → IsInRange places n → (i : ℕ) (d : Data)
    → Holds (IsGoodTxn n) (txn_at places i d)
unfolding txn_at
txn_good n places range i d =
    through (IsGoodTxn n) (times_at i d) (after_times places i d)
    (λ times times_is. through (IsGoodTxn n) (names_at places i txn_members.Reads (codes "reads") d)
    (after_reads places i d times)
    (λ read_names reads_is. through (IsGoodTxn n) (names_at places i txn_members.Writes (codes "writes") d)
    (after_writes places i d times read_names)
    (λ write_names writes_is. through (IsGoodTxn n) (releases_at i d)
    (after_releases places i d times read_names write_names)
    (λ releases releases_is. through (IsGoodTxn n) (samples_at i d)
    (after_samples places i d times read_names write_names releases)
    (λ samples samples_is. through (IsGoodTxn n) (script_at places i d)
    (λ script. Ok
    (record {
      times = times;
      reads = read_names;
      writes = write_names;
      releases = releases;
      samples = samples;
      script = script;
    }))
    (λ script script_is. record {
      times = text_times n
          (record { times = times; reads = read_names; writes = write_names; releases = releases; samples = samples; script = script })
          (holds_ok AreTextTimes (times_at i d) times (times_good i d) times_is);
      script = holds_ok (All (IsGoodOp n)) (script_at places i d) script (script_good n places range i d) script_is;
    }))))))

abbrev AreTxnsGood : ℕ → Txns → Type 0
AreTxnsGood n t = All (IsGoodTxn n) t.txns

txn_steps : (n : ℕ) (places : Places) → IsInRange places n → (second : Bool) (t : Txns) (d : Data) → AreTxnsGood n t
    → Holds (AreTxnsGood n) (txn_step second places t d)
unfolding txn_step
txn_steps n places range second t d h =
    through (AreTxnsGood n) (txn_name second (place_in t.names) (length t.names) d) _
    (λ name name_is. through (AreTxnsGood n) (txn_at places (length t.names) d) _
    (λ x is. All-push (IsGoodTxn n) t.txns x h
    (holds_ok (IsGoodTxn n) (txn_at places (length t.names) d) x (txn_good n places range (length t.names) d) is)))

txns_good : (n : ℕ) (places : Places) → IsInRange places n → (second : Bool) (d : Data)
    → Holds (AreTxnsGood n) (txns_at second places d)
unfolding txns_at
txns_good n places range second d =
    through (AreTxnsGood n) _ _ (λ values is. folded (AreTxnsGood n) (txn_step second places)
    (txn_steps n places range second) values no_txns_yet (All-nil (IsGoodTxn n)))

-- Relative sets.

abbrev IsNear : Together → Type 0
IsNear g = g.within ≤ 2 ^ 40

abbrev after_named : ℕ → Data → Names → Result Together FormError
after_named i d named =
    member_at (places.SetWithin i) (whole 0 (2 ^ 40)) (codes "within") d
    >>= λ within. Ok (record { items = named; within = within })

abbrev after_values : Places → ℕ → Data → Items → Result Together FormError
after_values items i d values =
    all_at (set_place i) (named items) values >>= after_named i d

abbrev after_set : Places → ℕ → Data → Unit {0} → Result Together FormError
after_set items i d formed = member_at (places.SetItems i) as_array (codes "items") d >>= after_values items i d

abbrev set_form : Data → Option (Unit {0})
set_form d = if no_others is_set_member d then Some formed_unit else None

set_good : (items : Places) (i : ℕ) (d : Data) → Holds IsNear (set_at items i d)
unfolding set_at
set_good items i d =
    through IsNear (needed (places.Set i) (set_form d)) (after_set items i d)
    (λ formed formed_is. through IsNear (member_at (places.SetItems i) as_array (codes "items") d)
    (after_values items i d)
    (λ values values_is. through IsNear (all_at (set_place i) (named items) values) (after_named i d)
    (λ found found_is. through IsNear (member_at (places.SetWithin i) (whole 0 (2 ^ 40)) (codes "within") d)
    (λ within. Ok (record { items = found; within = within }))
    (λ within within_is. (number_at (places.SetWithin i) 0 (2 ^ 40) (codes "within") d within within_is).1))))

set_steps : (places : Places) (acc : List Together) (d : Data) → All IsNear acc
    → Holds (All IsNear) (set_step places acc d)
unfolding set_step
set_steps places acc d h =
    through (All IsNear) (set_at places (length acc) d) (λ x. Ok (acc ++ x ∷ []))
    (λ x is. All-push IsNear acc x h (holds_ok IsNear (set_at places (length acc) d) x (set_good places
    (length acc) d) is))

sets_good : (places : Places) (d : Data) → Holds (All IsNear) (sets_at places d)
unfolding sets_at
sets_good places d =
    through (All IsNear) _ _ (λ values is. folded (All IsNear) (set_step places) (set_steps places) values []
    (All-nil IsNear))

-- All forms.

pub record AreGood (f : Formed) : Type 0 where
  pub validities : All (λ d. HasValidity d.kind) f.items.decls
  pub txns : All (IsGoodTxn (length f.items.decls)) f.txns.txns
  pub within : All (λ g. g.within ≤ 2 ^ 40) f.sets

items_keep : (d : Data) (version : ℕ) (items : Table) → IsItemTable items → AreItemsGood items
    → Holds AreGood (after_items d version items)
items_keep d version items table good =
    let range : IsInRange (place_in items.names) (length items.decls) =
    (λ name k at. subst (λ (n : ℕ). k < n) table.all (place_is items.names name k at).0) in
    through AreGood (txns_at (is_second d) (place_in items.names) d) (after_txns d version items)
    (λ txns txns_is. through AreGood (sets_at (place_in items.names) d)
    (λ sets. Ok (record { version = version; items = items; txns = txns; sets = sets }))
    (λ sets sets_is. record {
      validities = good;
      txns = holds_ok (AreTxnsGood (length items.decls)) (txns_at (is_second d) (place_in items.names) d) txns
          (txns_good (length items.decls) (place_in items.names) range (is_second d) d) txns_is;
      within = holds_ok (All IsNear) (sets_at (place_in items.names) d) sets (sets_good (place_in items.names) d) sets_is;
    }))

forms_good : (d : Data) → Holds AreGood (forms_at d)
forms_good d =
    subst (λ (r : Result Formed FormError). Holds AreGood r) (sym (forms_at_is d))
    (through AreGood (head_at d) (after_version d)
    (λ version version_is. through AreGood (items_at d) (after_items d version)
    (λ items is. items_keep d version items (holds_ok IsItemTable (items_at d) items (items_hold d) is)
    (holds_ok AreItemsGood (items_at d) items (items_good d) is))))

pub forms_are_good : (d : Data) (f : Formed) → forms_at d ≡ Ok f → AreGood f
forms_are_good d f is = holds_ok AreGood (forms_at d) f (forms_good d) is
