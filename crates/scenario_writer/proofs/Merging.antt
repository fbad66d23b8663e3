-- Facts of operations that go over to a script with each run of computes as one.
use Rattle.std.proofs.Common.{◌≡◌, ℕ, zero, suc, ◌+◌, ◌≤◌, List, [], ◌∷◌, true, arith}
use Rattle.std.specs.List.{All, list_all}
use Rattle.std.proofs.lemmas.Bool.{leb-true, le-leb}
use Rattle.std.proofs.lemmas.List.Sums.{AllPass-from_list_all}
use Rattle.step_script.specs.Scripts.{Operation, read, write, compute, commit, quit, is_good}
use Rattle.scenario_writer.specs.Canonical.{joined, merged_ops}

-- All, element by element
pub head : {A : Type 0} (P : A → Type 0) (x : A) (xs : List A) → All P (x ∷ xs) → P x
head P x xs h = h 0 x (omega arith)

pub tail : {A : Type 0} (P : A → Type 0) (x : A) (xs : List A) → All P (x ∷ xs) → All P xs
tail P x xs h k d lt = h (suc k) d (omega arith)

-- a fact of each operation, which of two computes goes over to their sum
module _ (P : Operation → Type 0) (sum : (m n : ℕ) → P (compute m) → P (compute n) → P (compute (m + n))) where
  put : (op : Operation) (ops : List Operation) → P op → All P ops → All P (op ∷ ops)
  put op ops p h zero d lt = p
  put op ops p h (suc k) d lt = h k d (omega arith)

  join_all : (op : Operation) (ops : List Operation) → P op → All P ops → All P (joined op ops)
  join_all (read i) ops p h = put (read i) ops p h
  join_all (write i value) ops p h = put (write i value) ops p h
  join_all (compute m) [] p h = put (compute m) [] p h
  join_all (compute m) (read i ∷ ops) p h = put (compute m) (read i ∷ ops) p h
  join_all (compute m) (write i value ∷ ops) p h = put (compute m) (write i value ∷ ops) p h
  join_all (compute m) (compute n ∷ ops) p h =
      put (compute (m + n)) ops (sum m n p (head P (compute n) ops h)) (tail P (compute n) ops h)
  join_all (compute m) (commit ∷ ops) p h = put (compute m) (commit ∷ ops) p h
  join_all (compute m) (quit ∷ ops) p h = put (compute m) (quit ∷ ops) p h
  join_all commit ops p h = put commit ops p h
  join_all quit ops p h = put quit ops p h

  pub merge_all : (ops : List Operation) → All P ops → All P (merged_ops ops)
  merge_all [] h = h
  merge_all (op ∷ ops) h = join_all op (merged_ops ops) (head P op ops h) (merge_all ops (tail P op ops h))

good_sum : (items m n : ℕ) → is_good items (compute m) ≡ true → is_good items (compute n) ≡ true
    → is_good items (compute (m + n)) ≡ true
good_sum items m n a b = le-leb 1 (m + n) (let p : 1 ≤ m = leb-true 1 m a in omega arith)

pub good_merged : (items : ℕ) (ops : List Operation) → list_all (is_good items) ops ≡ true
    → All (λ op. is_good items op ≡ true) (merged_ops ops)
good_merged items ops h = merge_all (λ op. is_good items op ≡ true) (good_sum items) ops (AllPass-from_list_all
    (is_good items) ops h)
