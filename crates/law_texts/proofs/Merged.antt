-- Scripts with each run of computes as one.
use Rattle.std.proofs.Common.{◌≡◌, ℕ, zero, suc, ◌+◌, ◌<◌, ◌≤◌, max, List, [], ◌∷◌, ◌++◌, length, get_or, Bool, true, false, not, ◌&&◌, ◌||◌, cond, Option, Some, None, refl, sym, ap, ◌∙◌, arith}
use Rattle.std.specs.Prelude.{nat_le}
use Rattle.std.specs.List.{All, list_all, list_any}
use Rattle.std.proofs.lemmas.List.{append_assoc}
use Rattle.item_model.specs.declared.decl.ItemDecl.{ItemDecl}
use Rattle.item_model.specs.Kinds.{is_dated}
use Rattle.txn_set.specs.Set.{may_read, may_write}
use Rattle.txn_set.specs.declared.decl.TxnDecl.{TxnDecl}
use Rattle.step_script.specs.Scripts.{Operation, read, write, compute, commit, quit, width}
use Rattle.step_script.specs.Bodies.{steps_of, closes, is_write_of, writes_all, may_stand, bad_op_after}
use Rattle.step_script.specs.Scenarios.{IsTextOp}
use Rattle.scenario_writer.specs.Canonical.{joined, merged_ops}
use Rattle.scenario_writer.proofs.Merging.{head, tail, merge_all}

-- operations of which each compute is of one step or more
abbrev pub IsSome : Operation → Type 0
IsSome (read i) = Unit {0}
IsSome (write i value) = Unit {0}
IsSome (compute n) = 1 ≤ n
IsSome commit = Unit {0}
IsSome quit = Unit {0}

some_sum : (m n : ℕ) → 1 ≤ m → 1 ≤ n → 1 ≤ m + n
some_sum m n a b = omega arith

pub merge_some : (ops : List Operation) → All IsSome ops → All IsSome (merged_ops ops)
merge_some ops h = merge_all IsSome some_sum ops h

-- joining keeps the steps
wide : (m n : ℕ) → 1 ≤ m → 1 ≤ n → max 1 (m + n) ≡ max 1 m + max 1 n
wide m n a b = omega arith

join_steps : (op : Operation) (ops : List Operation) → IsSome op → All IsSome ops
    → steps_of (joined op ops) ≡ width op + steps_of ops
join_steps (read i) ops p h = refl
join_steps (write i value) ops p h = refl
join_steps (compute m) [] p h = refl
join_steps (compute m) (read i ∷ ops) p h = refl
join_steps (compute m) (write i value ∷ ops) p h = refl
join_steps (compute m) (compute n ∷ ops) p h =
    let w : max 1 (m + n) ≡ max 1 m + max 1 n = wide m n p (head IsSome (compute n) ops h) in omega arith
join_steps (compute m) (commit ∷ ops) p h = refl
join_steps (compute m) (quit ∷ ops) p h = refl
join_steps commit ops p h = refl
join_steps quit ops p h = refl

pub merge_steps : (ops : List Operation) → All IsSome ops → steps_of (merged_ops ops) ≡ steps_of ops
merge_steps [] h = refl
merge_steps (op ∷ ops) h = join_steps op (merged_ops ops) (head IsSome op ops h) (merge_some ops (tail IsSome op ops h))
    ∙ ap (λ (n : ℕ). width op + n) (merge_steps ops (tail IsSome op ops h))

-- each operation has at most as many steps as all
width_within : (ops : List Operation) (k : ℕ) (d : Operation) → k < length ops → width (get_or ops k d) ≤ steps_of ops
width_within [] k d lt = absurd (omega arith)
width_within (op ∷ ops) zero d lt = omega arith
width_within (op ∷ ops) (suc k) d lt =
    let h : width (get_or ops k d) ≤ steps_of ops = width_within ops k d (omega arith) in omega arith

text_op : (op : Operation) → IsSome op → width op ≤ 10000 → IsTextOp op
text_op (read i) p h = tt
text_op (write i value) p h = tt
text_op (compute n) p h = (p, omega arith)
text_op commit p h = tt
text_op quit p h = tt

pub merge_text : (ops : List Operation) → All IsSome ops → steps_of ops ≤ 10000 → All IsTextOp (merged_ops ops)
merge_text ops h short k d lt =
    let within : width (get_or (merged_ops ops) k d) ≤ steps_of (merged_ops ops) = width_within
    (merged_ops ops) k d lt in
    let same : steps_of (merged_ops ops) ≡ steps_of ops = merge_steps ops h in
    text_op (get_or (merged_ops ops) k d) (merge_some ops h k d lt) (omega arith)

-- Operations before another one, as the judgement of a script sees them.
pub record AreAlike (xs ys : List Operation) : Type 0 where
  pub steps : steps_of xs ≡ steps_of ys
  pub closes : list_any closes xs ≡ list_any closes ys
  pub writes : (item : ℕ) → list_any (is_write_of item) xs ≡ list_any (is_write_of item) ys

pub alike : (xs : List Operation) → AreAlike xs xs
alike xs = record { steps = refl; closes = refl; writes = λ item. refl }

steps_append : (xs ys : List Operation) → steps_of (xs ++ ys) ≡ steps_of xs + steps_of ys
steps_append [] ys = omega arith
steps_append (x ∷ xs) ys = let h : steps_of (xs ++ ys) ≡ steps_of xs + steps_of ys = steps_append xs ys in omega arith

or_assoc : (a b c : Bool) → (a || (b || c)) ≡ ((a || b) || c)
or_assoc true b c = refl
or_assoc false b c = refl

any_append : (p : Operation → Bool) (xs ys : List Operation) → list_any p (xs ++ ys) ≡ (list_any p xs || list_any p ys)
any_append p [] ys = refl
any_append p (x ∷ xs) ys = ap (λ (b : Bool). p x || b) (any_append p xs ys) ∙ or_assoc (p x) (list_any p xs)
    (list_any p ys)

pub alike_more : (xs ys us vs : List Operation) → AreAlike xs ys → AreAlike us vs → AreAlike (xs ++ us) (ys ++ vs)
alike_more xs ys us vs h g = record {
  steps = steps_append xs us ∙ ap (λ (n : ℕ). n + steps_of us) h.steps ∙ ap (λ (n : ℕ). steps_of ys + n) g.steps
      ∙ sym (steps_append ys vs);
  closes = any_append closes xs us ∙ ap (λ (b : Bool). b || list_any closes us) h.closes
      ∙ ap (λ (b : Bool). list_any closes ys || b) g.closes ∙ sym (any_append closes ys vs);
  writes = λ item. any_append (is_write_of item) xs us ∙ ap (λ (b : Bool). b || list_any (is_write_of item) us)
      (h.writes item)
      ∙ ap (λ (b : Bool). list_any (is_write_of item) ys || b) (g.writes item) ∙ sym (any_append
      (is_write_of item) ys vs);
}

same_all : {A : Type 0} (p q : A → Bool) → ((x : A) → p x ≡ q x) → (xs : List A) → list_all p xs ≡ list_all q xs
same_all p q h [] = refl
same_all p q h (x ∷ xs) = ap (λ (b : Bool). b && list_all p xs) (h x) ∙ ap (λ (b : Bool). q x && b) (same_all p q h xs)

module _ (decls : List ItemDecl) (t : TxnDecl) where
  after_steps : (xs ys : List Operation) (ask : Bool) → AreAlike xs ys
      → (not (list_any closes xs) && (ask && nat_le t.quiet (steps_of xs)))
      ≡ (not (list_any closes ys) && (ask && nat_le t.quiet (steps_of ys)))
  after_steps xs ys ask h = ap (λ (b : Bool). not b && (ask && nat_le t.quiet (steps_of xs))) h.closes
      ∙ ap (λ (n : ℕ). not (list_any closes ys) && (ask && nat_le t.quiet n)) h.steps

  same_stand : (xs ys : List Operation) (op : Operation) → AreAlike xs ys
      → may_stand decls t xs op ≡ may_stand decls t ys op
  same_stand xs ys (read i) h = after_steps xs ys (may_read t i.0) h
  same_stand xs ys (write i value) h = after_steps xs ys (may_write t i.0) h
  same_stand xs ys (compute n) h = ap (λ (b : Bool). not b && true) h.closes
  same_stand xs ys commit h = ap (λ (b : Bool). not b && writes_all decls t xs) h.closes
      ∙ ap (λ (b : Bool). not (list_any closes ys) && b)
      (same_all (λ i. not (is_dated decls i.0) || list_any (is_write_of i.0) xs)
      (λ i. not (is_dated decls i.0) || list_any (is_write_of i.0) ys)
      (λ i. ap (λ (b : Bool). not (is_dated decls i.0) || b) (h.writes i.0)) t.writes)
  same_stand xs ys quit h = ap (λ (b : Bool). not b && true) h.closes

  parts : (b : Bool) (o : Option ℕ) (n : ℕ) → cond b o (Some n) ≡ None → (b ≡ true) × (o ≡ None)
  parts true o n h = (refl, h)
  parts false o n h = cc

  stands : (before : List Operation) (op : Operation) (ops : List Operation) → may_stand decls t before op ≡ true
      → bad_op_after decls t (before ++ op ∷ []) ops ≡ None → bad_op_after decls t before (op ∷ ops) ≡ None
  stands before op ops may rest =
      ap (λ (b : Bool). cond b (bad_op_after decls t (before ++ op ∷ []) ops) (Some (length before))) may ∙ rest

  none_alike : (ops xs ys : List Operation) → AreAlike xs ys → bad_op_after decls t xs ops ≡ None
      → bad_op_after decls t ys ops ≡ None
  none_alike [] xs ys h none = refl
  none_alike (op ∷ ops) xs ys h none =
      let p = parts (may_stand decls t xs op) (bad_op_after decls t (xs ++ op ∷ []) ops) (length xs) none in
      stands ys op ops (sym (same_stand xs ys op h) ∙ p.0)
      (none_alike ops (xs ++ op ∷ []) (ys ++ op ∷ []) (alike_more xs ys (op ∷ []) (op ∷ []) h (alike (op ∷ []))) p.1)

  two_as_one : (m n : ℕ) → 1 ≤ m → 1 ≤ n → AreAlike (compute m ∷ compute n ∷ []) (compute (m + n) ∷ [])
  two_as_one m n a b = record {
    steps = (let w : max 1 (m + n) ≡ max 1 m + max 1 n = wide m n a b in omega arith);
    closes = refl;
    writes = λ item. refl;
  }

  join_none : (before : List Operation) (op : Operation) (ops : List Operation) → IsSome op → All IsSome ops
      → may_stand decls t before op ≡ true → bad_op_after decls t (before ++ op ∷ []) ops ≡ None
      → bad_op_after decls t before (joined op ops) ≡ None
  join_none before (read i) ops p h may none = stands before (read i) ops may none
  join_none before (write i value) ops p h may none = stands before (write i value) ops may none
  join_none before (compute m) [] p h may none = stands before (compute m) [] may none
  join_none before (compute m) (read i ∷ ops) p h may none = stands before (compute m) (read i ∷ ops) may none
  join_none before (compute m) (write i value ∷ ops) p h may none = stands before (compute m)
      (write i value ∷ ops) may none
  join_none before (compute m) (compute n ∷ ops) p h may none =
      let q = parts (may_stand decls t (before ++ compute m ∷ []) (compute n))
      (bad_op_after decls t ((before ++ compute m ∷ []) ++ compute n ∷ []) ops) (length
      (before ++ compute m ∷ [])) none in
      stands before (compute (m + n)) ops may
      (none_alike ops (before ++ (compute m ∷ compute n ∷ [])) (before ++ compute (m + n) ∷ [])
      (alike_more before before (compute m ∷ compute n ∷ []) (compute (m + n) ∷ []) (alike before)
      (two_as_one m n p (head IsSome (compute n) ops h)))
      (ap (λ (xs : List Operation). bad_op_after decls t xs ops) (sym (append_assoc before (compute m ∷ [])
      (compute n ∷ []))) ∙ q.1))
  join_none before (compute m) (commit ∷ ops) p h may none = stands before (compute m) (commit ∷ ops) may none
  join_none before (compute m) (quit ∷ ops) p h may none = stands before (compute m) (quit ∷ ops) may none
  join_none before commit ops p h may none = stands before commit ops may none
  join_none before quit ops p h may none = stands before quit ops may none

  pub merge_none : (ops before : List Operation) → All IsSome ops → bad_op_after decls t before ops ≡ None
      → bad_op_after decls t before (merged_ops ops) ≡ None
  merge_none [] before h none = none
  merge_none (op ∷ ops) before h none =
      let p = parts (may_stand decls t before op) (bad_op_after decls t (before ++ op ∷ []) ops) (length before) none in
      join_none before op (merged_ops ops) (head IsSome op ops h) (merge_some ops (tail IsSome op ops h)) p.0
      (merge_none ops (before ++ op ∷ []) (tail IsSome op ops h) p.1)
