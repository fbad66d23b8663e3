-- What a walk keeps stands for the operations before it.
use Rattle.std.proofs.Common.{◌≡◌, ℕ, suc, zero, ◌+◌, ◌-◌, ◌<◌, ◌≤◌, Bool, true, false, not, cond, List, [], ◌∷◌, ◌++◌, length, map, get_or, set, replicate, Option, Some, None, refl, sym, ap, ◌∙◌, inl, inr, arith, ◌⊎◌, length-set}
use Rattle.std.specs.Prelude.{◌&&◌, ◌||◌, ◌==◌, nat_le, nat_lt, slice_index_or}
use Rattle.std.specs.List.{list_any, list_all}
use Rattle.std.proofs.lemmas.Bool.{and_parts, ltb-true, cases_eq, cases_lt, ne_eqb, eq-eqb, lt-leb, le-leb}
use Rattle.std.proofs.lemmas.List.{get_or-set_same, get_or-set_other, length-replicate}
use Rattle.rt_base.specs.declared.ids.ItemId.{ItemId}
use Rattle.item_model.specs.declared.decl.ItemDecl.{ItemDecl}
use Rattle.item_model.specs.Kinds.{is_dated}
use Rattle.txn_set.specs.declared.decl.TxnDecl.{TxnDecl}
use Rattle.txn_set.specs.Set.{names_item, may_read, may_write}
use Rattle.step_script.specs.Scripts.{Operation, read, write, compute, commit, quit, width, is_good}
use Rattle.step_script.specs.Bodies as scripts
use Rattle.step_script.specs.Bodies.{steps_of, closes, is_write_of, bad_op_after}
use Rattle.scenario_reader.specs.declared.walk.Walk.{Walk}
use Rattle.scenario_reader.specs.Walks.{marked, none_of, begun, has, may_ask, may_stand, after, IsSized}

pub record StandsFor (items : ℕ) (t : TxnDecl) (before : List Operation) (w : Walk) : Type 0 where
  pub reads : (i : ℕ) → i < items → get_or w.reads i false ≡ may_read t i
  pub writes : (i : ℕ) → i < items → get_or w.writes i false ≡ may_write t i
  pub written : (i : ℕ) → i < items → get_or w.written i false ≡ list_any (is_write_of i) before
  pub left : w.left ≡ t.quiet - steps_of before
  pub closed : w.closed ≡ list_any closes before

-- marks and names

or_assoc : (a b c : Bool) → ((a || b) || c) ≡ (b || (a || c))
or_assoc true true c = refl
or_assoc true false c = refl
or_assoc false b c = refl

pub or_false : (b : Bool) → (b || false) ≡ b
or_false true = refl
or_false false = refl

or_true : (b : Bool) → (b || true) ≡ true
or_true true = refl
or_true false = refl

pub length_marked : (xs : List ItemId) (marks : List Bool) → length (marked marks xs) ≡ length marks
length_marked [] marks = refl
length_marked (x ∷ xs) marks = length_marked xs (set marks x.0 true) ∙ length-set marks x.0 true

marked_once : (marks : List Bool) (x i : ℕ) → i < length marks
    → get_or (set marks x true) i false ≡ ((x == i) || get_or marks i false)
marked_once marks x i lt = elim (cases_eq x i) [
  | inl same ↦
      let here : get_or (set marks i true) i false ≡ true = get_or-set_same marks i true false lt in
      let yes : (x == i) ≡ true = eq-eqb x i same in
      ap (λ (k : ℕ). get_or (set marks k true) i false) same ∙ here
      ∙ sym (ap (λ (b : Bool). b || get_or marks i false) yes)
  | inr other ↦
      let no : (x == i) ≡ false = ne_eqb x i other in
      get_or-set_other marks x i true false (λ e. other (sym e)) ∙ sym (ap (λ (b : Bool). b || get_or marks i false) no)
]

marks_name : (xs : List ItemId) (marks : List Bool) (i : ℕ) → i < length marks
    → get_or (marked marks xs) i false ≡ (names_item xs i || get_or marks i false)
marks_name [] marks i lt = refl
marks_name (x ∷ xs) marks i lt =
    marks_name xs (set marks x.0 true) i (omega (arith, length-set marks x.0 true))
    ∙ ap (λ (b : Bool). names_item xs i || b) (marked_once marks x.0 i lt)
    ∙ sym (or_assoc (x.0 == i) (names_item xs i) (get_or marks i false))

pub get_or_false : (n i : ℕ) → get_or (replicate n false) i false ≡ false
get_or_false zero i = refl
get_or_false (suc n) zero = refl
get_or_false (suc n) (suc i) = get_or_false n i

named_at : (n : ℕ) (xs : List ItemId) (marks : List Bool) (i : ℕ) → length marks ≡ n → i < n
    → get_or (marked (none_of marks) xs) i false ≡ names_item xs i
named_at n xs marks i size lt =
    marks_name xs (none_of marks) i (omega (arith, size, length-replicate (length marks) false))
    ∙ ap (λ (b : Bool). names_item xs i || b) (get_or_false (length marks) i) ∙ or_false (names_item xs i)

sized_none : (marks : List Bool) → length (none_of marks) ≡ length marks
sized_none marks = length-replicate (length marks) false

-- the begin
pub begins : (n : ℕ) (t : TxnDecl) (w : Walk) → IsSized n w → StandsFor n t [] (begun w t)
begins n t w sized = record {
  reads = λ i lt. named_at n t.reads w.reads i sized.reads lt;
  writes = λ i lt. named_at n t.writes w.writes i sized.writes lt;
  written = λ i lt. get_or_false (length w.written) i;
  left = omega arith;
  closed = refl;
}

pub sized_begun : (n : ℕ) (t : TxnDecl) (w : Walk) → IsSized n w → IsSized n (begun w t)
sized_begun n t w sized = record {
  reads = length_marked t.reads (none_of w.reads) ∙ sized_none w.reads ∙ sized.reads;
  writes = length_marked t.writes (none_of w.writes) ∙ sized_none w.writes ∙ sized.writes;
  written = sized_none w.written ∙ sized.written;
}

-- one operation more

steps_push : (before : List Operation) (op : Operation) → steps_of (before ++ op ∷ []) ≡ steps_of before + width op
steps_push [] op = omega arith
steps_push (b ∷ before) op = omega (arith, steps_push before op)

pub any_push : (p : Operation → Bool) (before : List Operation) (op : Operation)
    → list_any p (before ++ op ∷ []) ≡ (list_any p before || p op)
any_push p [] op = or_false (p op)
any_push p (b ∷ before) op =
    ap (λ (x : Bool). p b || x) (any_push p before op) ∙ regroup (p b) (list_any p before) (p op)
  where
    regroup : (x y z : Bool) → (x || (y || z)) ≡ ((x || y) || z)
    regroup true y z = refl
    regroup false y z = refl

written_after : (n : ℕ) (w : Walk) (op : Operation) (k : ℕ) → k < length w.written
    → get_or (after w op).written k false ≡ (get_or w.written k false || is_write_of k op)
written_after n w (read i) k lt = sym (or_false _)
written_after n w (write i value) k lt =
    marked_once w.written i.0 k lt ∙ or_swap (i.0 == k) (get_or w.written k false)
  where
    or_swap : (x y : Bool) → (x || y) ≡ (y || x)
    or_swap true y = sym (or_true y)
    or_swap false y = sym (or_false y)
written_after n w (compute m) k lt = sym (or_false _)
written_after n w commit k lt = sym (or_false _)
written_after n w quit k lt = sym (or_false _)

left_after : (w : Walk) (op : Operation) → (after w op).left ≡ w.left - width op
left_after w (read i) = refl
left_after w (write i value) = refl
left_after w (compute m) = refl
left_after w commit = refl
left_after w quit = refl

closed_after : (w : Walk) (op : Operation) → (after w op).closed ≡ (w.closed || closes op)
closed_after w (read i) = sym (or_false w.closed)
closed_after w (write i value) = sym (or_false w.closed)
closed_after w (compute m) = sym (or_false w.closed)
closed_after w commit = sym (or_true w.closed)
closed_after w quit = sym (or_true w.closed)

reads_after : (w : Walk) (op : Operation) → (after w op).reads ≡ w.reads
reads_after w (read i) = refl
reads_after w (write i value) = refl
reads_after w (compute m) = refl
reads_after w commit = refl
reads_after w quit = refl

writes_after : (w : Walk) (op : Operation) → (after w op).writes ≡ w.writes
writes_after w (read i) = refl
writes_after w (write i value) = refl
writes_after w (compute m) = refl
writes_after w commit = refl
writes_after w quit = refl

length_after : (w : Walk) (op : Operation) → length (after w op).written ≡ length w.written
length_after w (read i) = refl
length_after w (write i value) = length-set w.written i.0 true
length_after w (compute m) = refl
length_after w commit = refl
length_after w quit = refl

pub sized_after : (n : ℕ) (w : Walk) (op : Operation) → IsSized n w → IsSized n (after w op)
sized_after n w op sized = record {
  reads = ap length (reads_after w op) ∙ sized.reads;
  writes = ap length (writes_after w op) ∙ sized.writes;
  written = length_after w op ∙ sized.written;
}

less_again : (q a b left : ℕ) → left ≡ q - a → left - b ≡ q - (a + b)
less_again q a b left is = omega (arith, is)

pub goes_on : (n : ℕ) (t : TxnDecl) (before : List Operation) (op : Operation) (w : Walk) → IsSized n w
    → StandsFor n t before w → StandsFor n t (before ++ op ∷ []) (after w op)
goes_on n t before op w sized s = record {
  reads = λ i lt. ap (λ (m : List Bool). get_or m i false) (reads_after w op) ∙ s.reads i lt;
  writes = λ i lt. ap (λ (m : List Bool). get_or m i false) (writes_after w op) ∙ s.writes i lt;
  written = λ i lt. written_after n w op i (omega (arith, sized.written))
      ∙ ap (λ (b : Bool). b || is_write_of i op) (s.written i lt) ∙ sym (any_push (is_write_of i) before op);
  left = left_after w op ∙ less_again t.quiet (steps_of before) (width op) w.left s.left
      ∙ ap (λ (k : ℕ). t.quiet - k) (sym (steps_push before op));
  closed = closed_after w op ∙ ap (λ (b : Bool). b || closes op) s.closed ∙ sym (any_push closes before op);
}

-- the tests agree

none_left : (q s left : ℕ) → left ≡ q - s → (left == 0) ≡ nat_le q s
none_left q s left is = by_order (cases_lt s q)
  where
    by_order : (s < q) ⊎ (q ≤ s) → (left == 0) ≡ nat_le q s
    by_order (inl lt) = ne_eqb left 0 (λ e. absurd (omega (arith, is, e))) ∙ sym (lt-leb q s lt)
    by_order (inr le) = eq-eqb left 0 (omega (arith, is)) ∙ sym (le-leb q s le)

undated_past : (decls : List ItemDecl) (i : ℕ) → length decls ≤ i → is_dated decls i ≡ false
undated_past [] i le = refl
undated_past (d ∷ decls) zero le = absurd (omega arith)
undated_past (d ∷ decls) (suc i) le = undated_past decls i (omega arith)

writes_agree : (decls : List ItemDecl) (t : TxnDecl) (before : List Operation) (w : Walk)
    → StandsFor (length decls) t before w → (i : ℕ)
    → (not (is_dated decls i) || get_or w.written i false) ≡ (not (is_dated decls i) || list_any (is_write_of i) before)
writes_agree decls t before w s i = elim (cases_lt i (length decls)) [
  | inl lt ↦ ap (λ (b : Bool). not (is_dated decls i) || b) (s.written i lt)
  | inr le ↦
      ap (λ (b : Bool). not b || get_or w.written i false) (undated_past decls i le)
      ∙ sym (ap (λ (b : Bool). not b || list_any (is_write_of i) before) (undated_past decls i le))
]

all_agree : (p q : ItemId → Bool) → ((i : ItemId) → p i ≡ q i) → (xs : List ItemId) → list_all p xs ≡ list_all q xs
all_agree p q same [] = refl
all_agree p q same (x ∷ xs) =
    ap (λ (b : Bool). b && list_all p xs) (same x) ∙ ap (λ (b : Bool). q x && b) (all_agree p q same xs)

both_agree : (a b c d : Bool) → a ≡ c → b ≡ d → (a && b) ≡ (c && d)
both_agree a b c d first second = ap (λ (x : Bool). x && b) first ∙ ap (λ (x : Bool). c && x) second

asks_same : (decls : List ItemDecl) (t : TxnDecl) (before : List Operation) (w : Walk) (op : Operation)
    → StandsFor (length decls) t before w → is_good (length decls) op ≡ true
    → may_ask decls t w op ≡ scripts.may_ask decls t before op
asks_same decls t before w (read i) s good =
    both_agree _ _ _ _ (s.reads i.0 (ltb-true _ _ good)) (none_left t.quiet (steps_of before) w.left s.left)
asks_same decls t before w (write i value) s good =
    both_agree _ _ _ _ (s.writes i.0 (ltb-true _ _ (and_parts _ _ (and_parts _ _ good).0).0))
    (none_left t.quiet (steps_of before) w.left s.left)
asks_same decls t before w (compute n) s good = refl
asks_same decls t before w commit s good =
    all_agree (λ i. not (is_dated decls i.0) || get_or w.written i.0 false)
    (λ i. not (is_dated decls i.0) || list_any (is_write_of i.0) before)
    (λ i. writes_agree decls t before w s i.0) t.writes
asks_same decls t before w quit s good = refl

pub stands_same : (decls : List ItemDecl) (t : TxnDecl) (before : List Operation) (w : Walk) (op : Operation)
    → StandsFor (length decls) t before w → is_good (length decls) op ≡ true
    → may_stand decls t w op ≡ scripts.may_stand decls t before op
stands_same decls t before w op s good =
    both_agree _ _ _ _ (ap not s.closed) (asks_same decls t before w op s good)

-- the first operation that may not stand

pub passes_on : (decls : List ItemDecl) (t : TxnDecl) (before rest : List Operation) (op : Operation) (r : Option ℕ)
    → scripts.may_stand decls t before op ≡ true → bad_op_after decls t before (op ∷ rest) ≡ r
    → bad_op_after decls t (before ++ op ∷ []) rest ≡ r
passes_on decls t before rest op r may so_far =
    sym (ap (λ (b : Bool). cond b (bad_op_after decls t (before ++ op ∷ []) rest) (Some (length before))) may) ∙ so_far

pub stops_at : (decls : List ItemDecl) (t : TxnDecl) (before rest : List Operation) (op : Operation) (r : Option ℕ)
    → scripts.may_stand decls t before op ≡ false → bad_op_after decls t before (op ∷ rest) ≡ r
    → Some (length before) ≡ r
stops_at decls t before rest op r may so_far =
    sym (ap (λ (b : Bool). cond b (bad_op_after decls t (before ++ op ∷ []) rest) (Some (length before))) may) ∙ so_far
