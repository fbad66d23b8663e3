-- The declarations and scripts of a generated scenario.
use Rattle.std.proofs.Common.{◌≡◌, ℕ, zero, suc, ◌+◌, ◌-◌, ◌<◌, ◌≤◌, List, [], ◌∷◌, ◌++◌, length, get_or, map, pos, Bool, true, false, not, ◌&&◌, ◌||◌, cond, Option, Some, None, option_map, refl, ap, ◌∙◌, arith}
use Rattle.std.specs.Prelude.{◌==◌}
use Rattle.std.specs.List.{All, AllPairs, list_all, range_with_len, position, position_or_len, prefix_len}
use Rattle.std.specs.Option.{option_or}
use Rattle.std.proofs.lemmas.Bool.{and_from, eq-eqb, lt-ltb, le-ltb}
use Rattle.rt_base.specs.declared.ids.ItemId.{ItemId}
use Rattle.item_model.specs.declared.decl.ItemDecl.{ItemDecl}
use Rattle.item_model.specs.Kinds.{is_dated}
use Rattle.txn_set.specs.declared.decl.TxnDecl.{TxnDecl}
use Rattle.step_script.specs.declared.expr.BinOp.TheVariants.{Add}
use Rattle.step_script.specs.Values.{leaf_const, leaf_serial, leaf_last, node}
use Rattle.step_script.specs.Scripts.{Operation, read, write, compute, commit, Program, is_good}
use Rattle.step_script.specs.Bodies.{steps_of, may_stand, bad_op_after, bad_op, bad_script_from, is_long}
use Rattle.step_script.specs.Scenarios.{IsTextOp, IsProgramOver}
use Rattle.scenario_writer.specs.Generated.{each, item_id, is_even, txn_decl, even_ops, odd_ops, program}

abbrev reads_if : Bool → ℕ → List ItemId
reads_if b i = cond b [] (item_id (i - 1) ∷ [])

abbrev writes_if : Bool → ℕ → ℕ → List ItemId
writes_if b n i = cond b (item_id i ∷ []) (item_id i ∷ item_id n ∷ [])

abbrev ops_if : Bool → ℕ → ℕ → List Operation
ops_if b n i = cond b (even_ops i) (odd_ops n i)

abbrev Below : ℕ → List ItemId → Type 0
Below n ids = AllPairs (λ a b. a.0 < b.0) ids × All (λ i. i.0 < n) ids

reads_below_if : (b : Bool) (n i : ℕ) → i < n → Below (n + 1) (reads_if b i)
reads_below_if true n i lt = (λ j k d a l. absurd (omega arith), λ k d l. absurd (omega arith))
reads_below_if false n i lt = (λ j k d a l. absurd (omega arith), one)
  where
    one : All (λ j. j.0 < n + 1) (item_id (i - 1) ∷ [])
    one zero d l = omega arith
    one (suc k) d l = absurd (omega arith)

pair_rising : (i n : ℕ) → i < n → AllPairs (λ a b. a.0 < b.0) (item_id i ∷ item_id n ∷ [])
pair_rising i n lt zero zero d a l = absurd (omega arith)
pair_rising i n lt zero (suc zero) d a l = lt
pair_rising i n lt zero (suc (suc k)) d a l = absurd (omega arith)
pair_rising i n lt (suc j) zero d a l = absurd (omega arith)
pair_rising i n lt (suc j) (suc zero) d a l = absurd (omega arith)
pair_rising i n lt (suc j) (suc (suc k)) d a l = absurd (omega arith)

one_below : (i n : ℕ) → i < n → All (λ j. j.0 < n) (item_id i ∷ [])
one_below i n lt zero d l = lt
one_below i n lt (suc k) d l = absurd (omega arith)

two_below : (i j n : ℕ) → i < n → j < n → All (λ k. k.0 < n) (item_id i ∷ item_id j ∷ [])
two_below i j n a b zero d l = a
two_below i j n a b (suc zero) d l = b
two_below i j n a b (suc (suc k)) d l = absurd (omega arith)

writes_below_if : (b : Bool) (n i : ℕ) → i < n → Below (n + 1) (writes_if b n i)
writes_below_if true n i lt = (λ j k d a l. absurd (omega arith), one_below i (n + 1) (omega arith))
writes_below_if false n i lt = (pair_rising i n lt, two_below i n (n + 1) (omega arith) (omega arith))

pub reads_below : (n i : ℕ) → i < n → Below (n + 1) (txn_decl n i).reads
reads_below n i lt = reads_below_if (is_even i) n i lt

pub writes_below : (n i : ℕ) → i < n → Below (n + 1) (txn_decl n i).writes
writes_below n i lt = writes_below_if (is_even i) n i lt

-- An operation of a script may stand where it does.

same_item : (i : ℕ) → (i == i) ≡ true
same_item i = eq-eqb i i refl

abbrev decl_if : Bool → ℕ → ℕ → TxnDecl
decl_if b n i = record (txn_decl n i) { reads = reads_if b i; writes = writes_if b n i }

stands : (decls : List ItemDecl) (t : TxnDecl) (before : List Operation) (op : Operation) (ops : List Operation)
    → may_stand decls t before op ≡ true → bad_op_after decls t (before ++ op ∷ []) ops ≡ None
    → bad_op_after decls t before (op ∷ ops) ≡ None
stands decls t before op ops may rest =
    ap (λ (b : Bool). cond b (bad_op_after decls t (before ++ op ∷ []) ops) (Some (length before))) may ∙ rest

or_true : (b : Bool) → (b || true) ≡ true
or_true true = refl
or_true false = refl

-- it stands in the list that may be written
first_of_two : (i n : ℕ) → (((i == i) || ((n == i) || false)) && true) ≡ true
first_of_two i n = ap (λ (b : Bool). (b || ((n == i) || false)) && true) (same_item i)

second_of_two : (i n : ℕ) → (((i == n) || ((n == n) || false)) && true) ≡ true
second_of_two i n = ap (λ (b : Bool). ((i == n) || (b || false)) && true) (same_item n)
    ∙ ap (λ (b : Bool). b && true) (or_true (i == n))

only_one : (i : ℕ) → (((i == i) || false) && true) ≡ true
only_one i = ap (λ (b : Bool). (b || false) && true) (same_item i)

done_one : (i : ℕ) (dated : Bool) → ((dated || ((i == i) || false)) && true) ≡ true
done_one i dated = ap (λ (b : Bool). (dated || (b || false)) && true) (same_item i) ∙ ap (λ (b : Bool). b && true)
    (or_true dated)

done_two : (i n : ℕ) (d e : Bool)
    → ((d || ((i == i) || ((n == i) || false))) && ((e || ((i == n) || ((n == n) || false))) && true)) ≡ true
done_two i n d e =
    ap (λ (b : Bool). (d || (b || ((n == i) || false))) && ((e || ((i == n) || ((n == n) || false))) && true))
    (same_item i)
    ∙ ap (λ (b : Bool). b && ((e || ((i == n) || ((n == n) || false))) && true)) (or_true d)
    ∙ ap (λ (b : Bool). (e || ((i == n) || (b || false))) && true) (same_item n)
    ∙ ap (λ (b : Bool). (e || b) && true) (or_true (i == n))
    ∙ ap (λ (b : Bool). b && true) (or_true e)

good_even : (n i : ℕ) (decls : List ItemDecl) → bad_op decls (decl_if true n i) (even_ops i) ≡ None
good_even n i decls =
    stands decls (decl_if true n i) [] (write (item_id i) leaf_serial) (compute 2 ∷ commit ∷ []) (only_one i)
    (stands decls (decl_if true n i) (write (item_id i) leaf_serial ∷ []) (compute 2) (commit ∷ []) refl
    (stands decls (decl_if true n i) (write (item_id i) leaf_serial ∷ compute 2 ∷ []) commit []
    (done_one i (not (is_dated decls i))) refl))

abbrev copy_of : ℕ → Operation
copy_of i = write (item_id i) (leaf_last (item_id (i - 1)))

abbrev sum_of : ℕ → ℕ → Operation
sum_of n i = write (item_id n) (node Add (leaf_last (item_id (i - 1))) (leaf_const (pos i)))

good_odd : (n i : ℕ) (decls : List ItemDecl) → bad_op decls (decl_if false n i) (odd_ops n i) ≡ None
good_odd n i decls =
    stands decls (decl_if false n i) [] (read (item_id (i - 1))) (copy_of i ∷ sum_of n i ∷ commit ∷ []) (only_one
    (i - 1))
    (stands decls (decl_if false n i) (read (item_id (i - 1)) ∷ []) (copy_of i) (sum_of n i ∷ commit ∷ [])
    (first_of_two i n)
    (stands decls (decl_if false n i) (read (item_id (i - 1)) ∷ copy_of i ∷ []) (sum_of n i) (commit ∷ [])
    (second_of_two i n)
    (stands decls (decl_if false n i) (read (item_id (i - 1)) ∷ copy_of i ∷ sum_of n i ∷ []) commit []
    (done_two i n (not (is_dated decls i)) (not (is_dated decls n))) refl)))

good_if : (b : Bool) (n i : ℕ) (decls : List ItemDecl) → bad_op decls (decl_if b n i) (ops_if b n i) ≡ None
good_if true n i decls = good_even n i decls
good_if false n i decls = good_odd n i decls

one_good : (n i : ℕ) (decls : List ItemDecl) → i < n → bad_op decls (txn_decl n i) (program n i).ops ≡ None
one_good n i decls lt = good_if (is_even i) n i decls

no_bad : (tx : ℕ) (o : Option ℕ) (rest : Option (ℕ × ℕ)) → o ≡ None → rest ≡ None
    → option_or (option_map (λ op. (tx, op)) o) rest ≡ None
no_bad tx o rest e f = ap (λ (q : Option ℕ). option_or (option_map (λ op. (tx, op)) q) rest) e ∙ f

good_from : (n a m tx : ℕ) (decls : List ItemDecl) → a + m ≤ n
    → bad_script_from decls tx (map (txn_decl n) (range_with_len a m)) (map (program n) (range_with_len a m)) ≡ None
good_from n a zero tx decls le = refl
good_from n a (suc m) tx decls le = no_bad tx _ _ (one_good n a decls (omega arith)) (good_from n (a + 1) m
    (tx + 1) decls (omega arith))

pub good_scripts : (n : ℕ) (decls : List ItemDecl) → bad_script_from decls 0 (each (txn_decl n) n) (each
    (program n) n) ≡ None
good_scripts n decls = good_from n 0 n 0 decls (omega arith)

-- each script has four steps
steps_if : (b : Bool) (n i : ℕ) → steps_of (ops_if b n i) ≡ 4
steps_if true n i = refl
steps_if false n i = refl

pub steps : (n i : ℕ) → steps_of (program n i).ops ≡ 4
steps n i = steps_if (is_even i) n i

passes_all : (q : Program → Bool) (ps : List Program) → ((k : ℕ) (d : Program) → k < length ps
    → q (get_or ps k d) ≡ true)
    → prefix_len q ps ≡ length ps
passes_all q [] h = refl
passes_all q (p ∷ ps) h = ap (λ (b : Bool). cond b (1 + prefix_len q ps) 0) (h 0 p (omega arith))
    ∙ (let e : prefix_len q ps ≡ length ps = passes_all q ps (λ k d l. h (suc k) d (omega arith)) in omega arith)

pub none_long : (ps : List Program) → ((k : ℕ) (d : Program) → k < length ps → steps_of (get_or ps k d).ops ≤ 10000)
    → position is_long ps ≡ None
none_long ps h = ap (λ (b : Bool). cond b (Some (position_or_len is_long ps)) None)
    (le-ltb (position_or_len is_long ps) (length ps) (let e : position_or_len is_long ps ≡ length ps =
    passes_all (λ p. not (is_long p)) ps (λ k d l. ap not (le-ltb 10000 (steps_of (get_or ps k d).ops)
    (h k d l))) in omega arith))

-- the operations are good, and of a text's form
good_ops_if : (b : Bool) (n i : ℕ) → i < n → list_all (is_good (n + 1)) (ops_if b n i) ≡ true
good_ops_if true n i lt = and_from _ _ (and_from _ _ (and_from _ _ (lt-ltb i (n + 1) (omega arith)) refl) refl) refl
good_ops_if false n i lt =
    and_from _ _ (lt-ltb (i - 1) (n + 1) (omega arith))
    (and_from _ _ (and_from _ _ (and_from _ _ (lt-ltb i (n + 1) (omega arith)) (lt-ltb (i - 1) (n + 1)
    (omega arith))) refl)
    (and_from _ _ (and_from _ _ (and_from _ _ (lt-ltb n (n + 1) (omega arith))
    (and_from _ _ (lt-ltb (i - 1) (n + 1) (omega arith)) refl)) refl) refl))

text_ops_if : (b : Bool) (n i : ℕ) → All IsTextOp (ops_if b n i)
text_ops_if true n i zero d l = tt
text_ops_if true n i (suc zero) d l = (omega arith, omega arith)
text_ops_if true n i (suc (suc zero)) d l = tt
text_ops_if true n i (suc (suc (suc k))) d l = absurd (omega arith)
text_ops_if false n i zero d l = tt
text_ops_if false n i (suc zero) d l = tt
text_ops_if false n i (suc (suc zero)) d l = tt
text_ops_if false n i (suc (suc (suc zero))) d l = tt
text_ops_if false n i (suc (suc (suc (suc k)))) d l = absurd (omega arith)

pub is_program : (n i : ℕ) → i < n → IsProgramOver (n + 1) (program n i)
is_program n i lt = record {
  over = refl;
  good = good_ops_if (is_even i) n i lt;
  computes = text_ops_if
      (is_even i) n i;
}
