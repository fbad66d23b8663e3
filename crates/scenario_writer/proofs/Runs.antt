-- Runs of computes.
use Rattle.std.proofs.Common.{◌≡◌, ℕ, zero, suc, ◌+◌, ◌<◌, ◌≤◌, List, [], ◌∷◌, ◌++◌, length, get_or, drop, take, map, subst, true, Some, None, refl, sym, ap, ◌∙◌, add_assoc, zero-add, arith}
use Rattle.std.proofs.lemmas.List.{append_assoc, append-nil, map-append, at_drop_more, at_drop_all, take_more, take_all}
use Rattle.std.proofs.lemmas.List.Elements.{All-append}
use Rattle.scenario_writer.specs.Integers.{OpHasConstants}
use Rattle.std.proofs.lemmas.Bool.{and_parts}
use Rattle.std.proofs.lemmas.Bool.Decides.{nat_tests}
use Rattle.std.specs.List.{All, list_all}
use Rattle.step_script.specs.declared.script.ScriptOp.{ScriptOp}
use Rattle.step_script.specs.Bodies.{steps_of}
use Rattle.step_script.specs.Scripts.{Operation, operation, read, write, compute, commit, quit, is_good, width}
use Rattle.serde_json.specs.Data.{Data}
use Rattle.json.specs.Token.{begin_array, end_array}
use Rattle.json.specs.Written.{Written}
use Rattle.scenario_writer.specs.Canonical.{op_data, joined, merged_ops, script_data}
use Rattle.scenario_writer.specs.Runs.{computes_of, with_run, run_before, run_data}
use Rattle.scenario_writer.specs.Sent.{Adds, Sends, SendsItems}
use Rattle.scenario_writer.proofs.Loops.{Begun, begun, more, done}

-- three runs in a row are joined in either order
joined_twice : (m n : ℕ) (ops : List Operation) → joined (compute m) (joined (compute n) ops) ≡ joined (compute
    (m + n)) ops
joined_twice m n [] = refl
joined_twice m n (read i ∷ ops) = refl
joined_twice m n (write i value ∷ ops) = refl
joined_twice m n (compute k ∷ ops) = ap (λ (j : ℕ). compute j ∷ ops) (sym (add_assoc m n k))
joined_twice m n (commit ∷ ops) = refl
joined_twice m n (quit ∷ ops) = refl

with_some : (n : ℕ) (ops : List Operation) → 0 < n → with_run n ops ≡ compute n ∷ ops
with_some zero ops h = absurd (omega arith)
with_some (suc n) ops h = refl

runs_on : (m n : ℕ) (ops : List Operation) → 0 < n → merged_ops (with_run m (compute n ∷ ops)) ≡ merged_ops (with_run
    (m + n) ops)
runs_on zero n ops h = ap merged_ops (sym (ap (λ (k : ℕ). with_run k ops) (zero-add n) ∙ with_some n ops h))
runs_on (suc m) n ops h = joined_twice (suc m) n (merged_ops ops)
    ∙ ap merged_ops (sym (with_some (suc m + n) ops (omega arith)))

computes_is : (op : Operation) (n : ℕ) → Some n ≡ computes_of op → op ≡ compute n
computes_is (read i) n h = cc
computes_is (write i value) n h = cc
computes_is (compute m) n h = cc
computes_is commit n h = cc
computes_is quit n h = cc

-- a good one stands for some
pub more_computes : (items : ℕ) (op : Operation) (n : ℕ) → Some n ≡ computes_of op → is_good items op ≡ true → 0 < n
more_computes items (read i) n h good = cc
more_computes items (write i value) n h good = cc
more_computes items (compute m) n h good = grind (arith, nat_tests)
more_computes items commit n h good = cc
more_computes items quit n h good = cc

-- the operations of a step, before those that follow
pub run_goes_on : (names : List (List ℕ)) (run n : ℕ) (op : Operation) (ops : List Operation)
    → Some n ≡ computes_of op → 0 < n
    → run_before names (run + n) ops ≡ run_before names run (op ∷ ops)
run_goes_on names run n op ops is more = rw (computes_is op n is)
    (ap (map (op_data names)) (sym (runs_on run n ops more)))

written : (names : List (List ℕ)) (run : ℕ) (op : Operation) (ops : List Operation) → None ≡ computes_of op
    → run_before names run (op ∷ ops) ≡ run_data run ++ (op_data names op ∷ run_before names 0 ops)
written names zero (read i) ops is = refl
written names zero (write i value) ops is = refl
written names zero (compute n) ops is = cc
written names zero commit ops is = refl
written names zero quit ops is = refl
written names (suc run) (read i) ops is = refl
written names (suc run) (write i value) ops is = refl
written names (suc run) (compute n) ops is = cc
written names (suc run) commit ops is = refl
written names (suc run) quit ops is = refl

-- an operation that ends the run before it
pub run_ends : (names : List (List ℕ)) (run : ℕ) (op : Operation) (ops : List Operation) → None ≡ computes_of op
    → run_before names run (op ∷ ops) ≡ (run_data run ++ op_data names op ∷ []) ++ run_before names 0 ops
run_ends names run op ops is = written names run op ops is
    ∙ sym (append_assoc (run_data run) (op_data names op ∷ []) (run_before names 0 ops))

-- the last run
pub last_run : (names : List (List ℕ)) (run : ℕ) → run_before names run [] ≡ run_data run
last_run names zero = refl
last_run names (suc run) = refl

-- what was sent since `old`, and the run, before the operations that are left
pub record IsLeft (names : List (List ℕ)) (ops : List ScriptOp) (old now : Written) (run i : ℕ) : Type 0 where
  pub begun : Begun (run_before names 0 (map operation ops)) (run_before names run (map operation (drop i ops))) old now
  pub good : list_all (is_good (length names)) (map operation (drop i ops)) ≡ true
  pub short : run + steps_of (map operation (drop i ops)) ≤ 10000
  pub fits : All OpHasConstants (map operation (take i ops))

next_op : (ops : List ScriptOp) (i : ℕ) (op : ScriptOp) → i < length ops → op ≡ get_or ops i op
    → map operation (drop i ops) ≡ operation op ∷ map operation (drop (i + 1) ops)
next_op ops i op lt is = at_drop_more (map operation) ops i op lt
    ∙ ap (λ (o : ScriptOp). operation o ∷ map operation (drop (i + 1) ops)) (sym is)

-- the next operation is good and fits
pub next_good : (names : List (List ℕ)) (ops : List ScriptOp) (old now : Written) (run i : ℕ) (op : ScriptOp)
    → i < length ops
    → op ≡ get_or ops i op → IsLeft names ops old now run i → is_good (length names) (operation op) ≡ true
next_good names ops old now run i op lt is h = (and_parts _ _ (ap (list_all (is_good (length names)))
    (sym (next_op ops i op lt is)) ∙ h.good)).0

pub next_fits : (names : List (List ℕ)) (ops : List ScriptOp) (old now : Written) (run i : ℕ) (op : ScriptOp)
    → i < length ops
    → op ≡ get_or ops i op → IsLeft names ops old now run i → run + width (operation op) ≤ 10000
next_fits names ops old now run i op lt is h =
    let e : steps_of (map operation (drop i ops)) ≡ width (operation op) + steps_of (map operation (drop (i + 1) ops)) =
    ap steps_of (next_op ops i op lt is) in
    let s : run + steps_of (map operation (drop i ops)) ≤ 10000 = h.short in
    omega arith

only_one : (op : Operation) → OpHasConstants op → All OpHasConstants (op ∷ [])
only_one op h zero d lt = h
only_one op h (suc k) d lt = absurd (omega arith)

one_more_fits : (ops : List ScriptOp) (i : ℕ) (op : ScriptOp) → i < length ops → op ≡ get_or ops i op
    → All OpHasConstants (map operation (take i ops)) → OpHasConstants (operation op)
    → All OpHasConstants (map operation (take (i + 1) ops))
one_more_fits ops i op lt is so_far fits =
    let e : map operation (take (i + 1) ops) ≡ map operation (take i ops) ++ operation op ∷ [] =
    ap (map operation) (take_more ops i op lt ∙ ap (λ (o : ScriptOp). take i ops ++ o ∷ []) (sym is))
    ∙ map-append operation (take i ops) (op ∷ []) in
    subst (λ (os : List Operation). All OpHasConstants os) (sym e)
    (All-append OpHasConstants (map operation (take i ops)) (operation op ∷ []) so_far (only_one (operation op) fits))

pub next_left : (names : List (List ℕ)) (ops : List ScriptOp) (old now new : Written) (run r i : ℕ) (op : ScriptOp)
    (ds : List Data) → i < length ops → op ≡ get_or ops i op → IsLeft names ops old now run i → SendsItems ds now new
    → ((rest : List Operation) → run_before names run (operation op ∷ rest) ≡ ds ++ run_before names r rest)
    → r ≤ run + width (operation op) → OpHasConstants (operation op) → IsLeft names ops old new r (i + 1)
next_left names ops old now new run r i op ds lt is h sends goes_on less fits =
    let e : steps_of (map operation (drop i ops)) ≡ width (operation op) + steps_of (map operation (drop (i + 1) ops)) =
    ap steps_of (next_op ops i op lt is) in
    let s : run + steps_of (map operation (drop i ops)) ≤ 10000 = h.short in
    record {
      begun = more ds _ _ _ old now new (ap (run_before names run) (next_op ops i op lt is)
          ∙ goes_on (map operation (drop (i + 1) ops))) h.begun sends;
      good = (and_parts _ _ (ap (list_all (is_good (length names))) (sym (next_op ops i op lt is)) ∙ h.good)).1;
      short = omega arith;
      fits = one_more_fits ops i op lt is h.fits fits;
    }

pub first_left : (names : List (List ℕ)) (ops : List ScriptOp) (a b : Written)
    → list_all (is_good (length names)) (map operation ops) ≡ true
    → steps_of (map operation ops) ≤ 10000 → Adds (begin_array ∷ []) a b → IsLeft names ops a b 0 0
first_left names ops a b good short begins = record {
  begun = begun _ a b begins;
  good = good;
  short = omega arith;
  fits = λ k d lt. absurd
      (omega arith);
}

pub none_left : (names : List (List ℕ)) (ops : List ScriptOp) (old now ended closed : Written) (run i : ℕ)
    → length ops ≤ i → IsLeft names ops old now run i → SendsItems (run_data run) now ended
    → Adds (end_array ∷ []) ended closed → Sends (script_data names (map operation ops)) old closed
none_left names ops old now ended closed run i le h sends closes =
    let left : run_before names run (map operation (drop i ops)) ≡ run_data run ++ [] =
    ap (run_before names run) (at_drop_all (map operation) ops i le) ∙ last_run names run
    ∙ sym (append-nil (run_data run)) in
    done [] _ old ended closed refl (more (run_data run) [] _ _ old now ended left h.begun sends) closes

pub all_fit : (names : List (List ℕ)) (ops : List ScriptOp) (old now : Written) (run i : ℕ) → length ops ≤ i
    → IsLeft names ops old now run i → All OpHasConstants (map operation ops)
all_fit names ops old now run i le h = subst (λ (os : List ScriptOp). All OpHasConstants (map operation os))
    (take_all i ops le) h.fits
