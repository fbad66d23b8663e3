-- The marks of a walk over a script stand for the reads of the operations before.
use Rattle.std.proofs.Common.{◌≡◌, ℕ, ◌+◌, ◌<◌, Bool, true, false, List, [], ◌∷◌, ◌++◌, length, map, take, get_or, set, replicate, Option, Some, None, refl, sym, ap, ◌∙◌, inl, inr, arith, length-set}
use Rattle.std.specs.Prelude.{◌||◌, ◌==◌, slice_get, if◌then◌else◌}
use Rattle.std.specs.Option.{option_or, option_map, option_and_then, option_to_list}
use Rattle.std.specs.List.{list_any, list_all, All}
use Rattle.std.proofs.lemmas.Bool.{ltb-true, cases_eq, ne_eqb, eq-eqb}
use Rattle.std.proofs.lemmas.Option.{slice_get-map, slice_get_read}
use Rattle.std.proofs.lemmas.List.{take_more, get_or-map, get_or-set_same, get_or-set_other, length-map}
use Rattle.std.proofs.lemmas.List.Sums.{AllPass-from_list_all}
use Rattle.rt_base.specs.declared.ids.ItemId.{ItemId}
use Rattle.rt_base.specs.declared.ids.TxId.{TxId}
use Rattle.step_script.specs.Values.{Tree, leaf_const, leaf_sample, leaf_serial, leaf_last, node}
use Rattle.step_script.specs.declared.script.ScriptOp.{ScriptOp}
use Rattle.step_script.specs.Scripts.{Operation, Program, read, write, compute, commit, quit, operation, program_of, is_good}
use Rattle.step_script.specs.declared.script.Script.{Script}
use Rattle.step_script.specs.Scenarios.{IsProgramOver}
use Rattle.scenario_reader.proofs.Standing.{or_false, get_or_false, any_push}
use Rattle.scenario_check.specs.declared.kinds.Warning.TheVariants.{UnreadLast}
use Rattle.scenario_check.specs.Scripts.{is_read_of, unread_in, unread_by, unread_at, mark_of}
use Rattle.scenario_check.specs.Warnings.{of_last}

pub record Stand (marks : List Bool) (before : List Operation) : Type 0 where
  pub same : (i : ℕ) → get_or marks i false ≡ list_any (is_read_of i) before

or_swap : (x y : Bool) → (x || y) ≡ (y || x)
or_swap true true = refl
or_swap true false = refl
or_swap false true = refl
or_swap false false = refl

pub none_stand : (n : ℕ) (marks : List Bool) (ops : List Operation) → marks ≡ replicate n false
    → Stand marks (take 0 ops)
none_stand n marks ops is = record {
  same = λ i. ap (λ (m : List Bool). get_or m i false) is ∙ get_or_false n i;
}

marked_once : (marks : List Bool) (x i : ℕ) → x < length marks
    → get_or (set marks x true) i false ≡ ((x == i) || get_or marks i false)
marked_once marks x i lt = elim (cases_eq x i) [
  | inl same ↦
      let here : get_or (set marks x true) x false ≡ true = get_or-set_same marks x true false lt in
      let yes : (x == i) ≡ true = eq-eqb x i same in
      ap (λ (k : ℕ). get_or (set marks x true) k false) (sym same) ∙ here
      ∙ sym (ap (λ (b : Bool). b || get_or marks i false) yes)
  | inr other ↦
      let no : (x == i) ≡ false = ne_eqb x i other in
      get_or-set_other marks x i true false (λ e. other (sym e)) ∙ sym (ap (λ (b : Bool). b || get_or marks i false) no)
]

after_one : (marks : List Bool) (op : Operation) (i : ℕ) → is_good (length marks) op ≡ true
    → get_or (mark_of marks op) i false ≡ (get_or marks i false || is_read_of i op)
after_one marks (read item) i good =
    marked_once marks item.0 i (ltb-true _ _ good) ∙ or_swap (item.0 == i) (get_or marks i false)
after_one marks (write item value) i good = sym (or_false _)
after_one marks (compute n) i good = sym (or_false _)
after_one marks commit i good = sym (or_false _)
after_one marks quit i good = sym (or_false _)

op_there : (ops : List ScriptOp) (k : ℕ) (op : ScriptOp) → k < length ops → op ≡ get_or ops k op
    → get_or (map operation ops) k (operation op) ≡ operation op
op_there ops k op lt is = get_or-map operation ops k op (operation op) lt ∙ ap operation (sym is)

pub good_at : (n : ℕ) (ops : List ScriptOp) (k : ℕ) (op : ScriptOp) → k < length ops → op ≡ get_or ops k op
    → list_all (is_good n) (map operation ops) ≡ true → is_good n (operation op) ≡ true
good_at n ops k op lt is good =
    ap (is_good n) (sym (op_there ops k op lt is))
    ∙ AllPass-from_list_all (is_good n) (map operation ops) good k (operation op)
    (omega (arith, length-map ops operation))

pub good_marks : (n : ℕ) (marks : List Bool) (ops : List ScriptOp) (k : ℕ) (op : ScriptOp) → length marks ≡ n
    → k < length ops → op ≡ get_or ops k op → list_all (is_good n) (map operation ops) ≡ true
    → is_good (length marks) (operation op) ≡ true
good_marks n marks ops k op size lt is good =
    ap (λ (m : ℕ). is_good m (operation op)) size ∙ good_at n ops k op lt is good

front : (ops : List ScriptOp) (k : ℕ) (op : ScriptOp) → k < length ops → op ≡ get_or ops k op
    → take (k + 1) (map operation ops) ≡ take k (map operation ops) ++ operation op ∷ []
front ops k op lt is =
    take_more (map operation ops) k (operation op) (omega (arith, length-map ops operation))
    ∙ ap (λ (o : Operation). take k (map operation ops) ++ o ∷ []) (op_there ops k op lt is)

pub stand_on : (ops : List ScriptOp) (k : ℕ) (op : ScriptOp) (marks later : List Bool) → k < length ops
    → op ≡ get_or ops k op
    → is_good (length marks) (operation op) ≡ true → later ≡ mark_of marks (operation op)
    → Stand marks (take k (map operation ops)) → Stand later (take (k + 1) (map operation ops))
stand_on ops k op marks later lt is good next h = record {
  same = λ i. ap (λ (m : List Bool). get_or m i false) next ∙ after_one marks (operation op) i good
      ∙ ap (λ (b : Bool). b || is_read_of i (operation op)) (h.same i)
      ∙ sym (any_push (is_read_of i) (take k (map operation ops)) (operation op))
      ∙ sym (ap (list_any (is_read_of i)) (front ops k op lt is));
}

length_mark : (marks : List Bool) (op : Operation) → length (mark_of marks op) ≡ length marks
length_mark marks (read item) = length-set marks item.0 true
length_mark marks (write item value) = refl
length_mark marks (compute n) = refl
length_mark marks commit = refl
length_mark marks quit = refl

pub sized_on : (n : ℕ) (marks later : List Bool) (op : Operation) → length marks ≡ n → later ≡ mark_of marks op
    → length later ≡ n
sized_on n marks later op size next = ap length next ∙ length_mark marks op ∙ size

in_same : (p q : ℕ → Bool) → ((i : ℕ) → p i ≡ q i) → (t : Tree) → unread_in p t ≡ unread_in q t
in_same p q same (leaf_const n) = refl
in_same p q same leaf_sample = refl
in_same p q same leaf_serial = refl
in_same p q same (leaf_last item) =
    ap (λ (b : Bool). if◌then◌else◌ {A = Option ItemId} b None (Some item)) (same item.0)
in_same p q same (node op a b) =
    ap (λ (o : Option ItemId). option_or o (unread_in p b)) (in_same p q same a)
    ∙ ap (λ (o : Option ItemId). option_or (unread_in q a) o) (in_same p q same b)

by_same : (p q : ℕ → Bool) → ((i : ℕ) → p i ≡ q i) → (op : Operation) → unread_by p op ≡ unread_by q op
by_same p q same (read item) = refl
by_same p q same (write item value) = in_same p q same value
by_same p q same (compute n) = refl
by_same p q same commit = refl
by_same p q same quit = refl

pub last_of : (tx : TxId) (ops : List ScriptOp) (k : ℕ) (op : ScriptOp) (marks : List Bool) (found : Option ItemId)
    → k < length ops → op ≡ get_or ops k op → Stand marks (take k (map operation ops))
    → found ≡ unread_by (λ i. get_or marks i false) (operation op)
    → option_to_list (option_map (UnreadLast tx k) found) ≡ of_last tx (map operation ops) k
last_of tx ops k op marks found lt is h said =
    let before : List Operation = take k (map operation ops) in
    let there : slice_get (map operation ops) k ≡ Some (operation op) =
    slice_get-map operation ops k ∙ ap (option_map operation) (slice_get_read ops (length ops) k op refl lt is) in
    let same : found ≡ unread_at (map operation ops) k =
    said ∙ by_same (λ i. get_or marks i false) (λ i. list_any (is_read_of i) before) h.same (operation op)
    ∙ sym (ap (option_and_then (unread_by (λ i. list_any (is_read_of i) before))) there) in
    ap (λ (o : Option ItemId). option_to_list (option_map (UnreadLast tx k) o)) same

pub good_ops : (n m : ℕ) (os : List Operation) (xs scripts : List Script) (tx : ℕ) (s : Script) → n ≡ m
    → os ≡ (program_of s).ops → xs ≡ scripts → tx < length scripts → s ≡ get_or xs tx s
    → All (IsProgramOver m) (map program_of scripts) → list_all (is_good n) os ≡ true
good_ops n m os xs scripts tx s size ops same lt is good =
    let there : IsProgramOver m (get_or (map program_of scripts) tx (program_of s)) =
    good tx (program_of s) (omega (arith, length-map scripts program_of)) in
    let at : get_or (map program_of scripts) tx (program_of s) ≡ program_of s =
    get_or-map program_of scripts tx s (program_of s) lt
    ∙ ap program_of (sym (is ∙ ap (λ (l : List Script). get_or l tx s) same)) in
    ap (λ (k : ℕ). list_all (is_good k) os) size ∙ ap (list_all (is_good m)) ops
    ∙ ap (λ (p : Program). list_all (is_good m) p.ops) (sym at) ∙ there.good
