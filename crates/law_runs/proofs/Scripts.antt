-- The operation at a place of a good script may stand after those before it.
use Rattle.std.proofs.Common.{◌≡◌, ℕ, zero, suc, ◌+◌, ◌-◌, ◌<◌, ◌≤◌, ◌==◌, Bool, true, false, ◌&&◌, ◌||◌, not, cond, List, [], ◌∷◌, ◌++◌, Option, None, Some, refl, ap, sym, subst, ◌∙◌, length, arith}
use Rattle.std.specs.Prelude.{nat_lt, nat_le}
use Rattle.std.specs.List.{list_any}
use Rattle.std.proofs.lemmas.Bool.{eqb-true, ltb-true, ltb-false}
use Rattle.rt_base.specs.declared.ids.ItemId.{ItemId}
use Rattle.item_model.specs.declared.decl.ItemDecl.{ItemDecl}
use Rattle.txn_set.specs.declared.decl.TxnDecl.{TxnDecl}
use Rattle.step_script.specs.Values.{Tree}
use Rattle.step_script.specs.Scripts.{Operation, read, write, compute, commit, quit, width, op_at}
use Rattle.step_script.specs.Bodies.{steps_of, is_write_of, may_stand, bad_op_after, bad_op}

-- an operation of a script at a place, with those before it
pub record StandsAt (decls : List ItemDecl) (t : TxnDecl) (pre ops : List Operation) (n : ℕ) (op : Operation) : Type 0 where
  pub before : List Operation
  pub after : List Operation
  pub split : ops ≡ before ++ op ∷ after
  pub start : steps_of before ≤ n
  pub stop : n < steps_of before + width op
  pub may : may_stand decls t (pre ++ before) op ≡ true

append_none : {A : Type 0} (xs : List A) → xs ++ [] ≡ xs
append_none [] = refl
append_none (x ∷ xs) = ap (λ (l : List _). x ∷ l) (append_none xs)

append_one : {A : Type 0} (xs : List A) (y : A) (ys : List A) → (xs ++ y ∷ []) ++ ys ≡ xs ++ y ∷ ys
append_one [] y ys = refl
append_one (x ∷ xs) y ys = ap (λ (l : List _). x ∷ l) (append_one xs y ys)

abbrev ScriptAt : List ItemDecl → TxnDecl → List Operation → List Operation → ℕ → Operation → Type 0
ScriptAt decls t pre ops n op = op_at ops n ≡ Some op → bad_op_after decls t pre ops ≡ None → StandsAt decls t pre ops n op

first_or_later : (decls : List ItemDecl) (t : TxnDecl) (pre xs : List Operation) (x : Operation) (n : ℕ) (op : Operation) (b : Bool) → nat_lt n (width x) ≡ b
    → cond b (Some x) (op_at xs (n - width x)) ≡ Some op → may_stand decls t pre x ≡ true → (op_at xs (n - width x) ≡ Some op → StandsAt decls t (pre ++ x ∷ []) xs (n - width x) op)
    → StandsAt decls t pre (x ∷ xs) n op
first_or_later decls t pre xs x n op true lt is may rest =
    let same : x ≡ op = cc in
    let below = ltb-true n (width x) lt in
    record {
      before = [];
      after = xs;
      split = ap (λ (o : Operation). o ∷ xs) same;
      start = omega arith;
      stop = omega (arith, below, ap width same);
      may = ap (λ (l : List Operation). may_stand decls t l op) (append_none pre) ∙ (ap (may_stand decls t pre) (sym same) ∙ may);
    }
first_or_later decls t pre xs x n op false lt is may rest =
    let later = rest is in
    let above = ltb-false n (width x) lt in
    record {
      before = x ∷ later.before;
      after = later.after;
      split = ap (λ (l : List Operation). x ∷ l) later.split;
      start = omega (arith, above, later.start);
      stop = omega (arith, above, later.start, later.stop);
      may = ap (λ (l : List Operation). may_stand decls t l op) (sym (append_one pre x later.before)) ∙ later.may;
    }

may_here : (decls : List ItemDecl) (t : TxnDecl) (pre xs : List Operation) (x : Operation) (b : Bool) → may_stand decls t pre x ≡ b → cond b (bad_op_after decls t (pre ++ x ∷ []) xs) (Some (length pre)) ≡ None
    → (may_stand decls t pre x ≡ true) × (bad_op_after decls t (pre ++ x ∷ []) xs ≡ None)
may_here decls t pre xs x true may rest = (may, rest)
may_here decls t pre xs x false may rest = absurd cc

pub stands_at : (decls : List ItemDecl) (t : TxnDecl) (pre ops : List Operation) (n : ℕ) (op : Operation) → ScriptAt decls t pre ops n op
stands_at decls t pre [] n op e h = absurd cc
stands_at decls t pre (x ∷ xs) n op e h =
    let here = may_here decls t pre xs x (may_stand decls t pre x) refl h in
    first_or_later decls t pre xs x n op (nat_lt n (width x)) refl e here.0 (λ later. stands_at decls t (pre ++ x ∷ []) xs (n - width x) op later here.1)

-- the place of a write of an item among some operations
pub record WritesAt (before : List Operation) (i : ℕ) : Type 0 where
  pub place : ℕ
  pub item : ItemId
  pub value : Tree
  pub is : item.0 ≡ i
  pub early : place < steps_of before
  pub at : (after : List Operation) → op_at (before ++ after) place ≡ Some (write item value)

later_place_at : (x : Operation) (ops : List Operation) (m : ℕ) (b : Bool) → nat_lt (width x + m) (width x) ≡ b → cond b (Some x) (op_at ops ((width x + m) - width x)) ≡ op_at ops m
later_place_at x ops m true lt = let below = ltb-true (width x + m) (width x) lt in absurd (omega (arith, below))
later_place_at x ops m false lt = ap (op_at ops) (omega arith)

later_place : (x : Operation) (ops : List Operation) (m : ℕ) → op_at (x ∷ ops) (width x + m) ≡ op_at ops m
later_place x ops m = later_place_at x ops m (nat_lt (width x + m) (width x)) refl

same_number : (a b : ℕ) → (a == b) ≡ true → a ≡ b
same_number a b e = eqb-true a b e

later_write : (x : Operation) (xs : List Operation) (i : ℕ) → WritesAt xs i → WritesAt (x ∷ xs) i
later_write x xs i w = record {
  place = width x + w.place;
  item = w.item;
  value = w.value;
  is = w.is;
  early = omega (arith, w.early);
  at = λ after. later_place x (xs ++ after) w.place ∙ w.at after;
}

write_here : (item : ItemId) (value : Tree) (xs : List Operation) (i : ℕ) (b : Bool) → (item.0 == i) ≡ b → (b || list_any (is_write_of i) xs) ≡ true → (list_any (is_write_of i) xs ≡ true → WritesAt xs i)
    → WritesAt (write item value ∷ xs) i
write_here item value xs i true is h rest =
    record { place = 0; item = item; value = value; is = same_number item.0 i is; early = omega arith; at = λ after. refl }
write_here item value xs i false is h rest = later_write (write item value) xs i (rest h)

pub writes_at : (before : List Operation) (i : ℕ) → list_any (is_write_of i) before ≡ true → WritesAt before i
writes_at [] i h = absurd cc
writes_at (read item ∷ xs) i h = later_write (read item) xs i (writes_at xs i h)
writes_at (compute n ∷ xs) i h = later_write (compute n) xs i (writes_at xs i h)
writes_at (commit ∷ xs) i h = later_write commit xs i (writes_at xs i h)
writes_at (quit ∷ xs) i h = later_write quit xs i (writes_at xs i h)
writes_at (write item value ∷ xs) i h = write_here item value xs i (item.0 == i) refl h (λ k. writes_at xs i k)
