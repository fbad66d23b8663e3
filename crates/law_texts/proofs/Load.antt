-- What the transactions of a generated set ask of a window.
use Rattle.std.proofs.Common.{◌≡◌, ℕ, zero, suc, ◌+◌, ◌-◌, ◌*◌, ◌/◌, ◌%◌, ◌<◌, ◌≤◌, max, min, List, [], ◌∷◌, ◌++◌, length, map, Bool, true, false, cond, ◌&&◌, ◌⊎◌, inl, inr, refl, sym, ap, subst, ◌∙◌, arith}
use Rattle.std.specs.Prelude.{nat_lt}
use Rattle.std.specs.Int.{div_ceil}
use Rattle.std.specs.List.{filter, range_with_len}
use Rattle.std.proofs.lemmas.Bool.{cases_lt, le-ltb}
use Rattle.std.proofs.Math.Nat.{div-eq_of_lt}
use Rattle.txn_set.specs.declared.decl.TxnDecl.{TxnDecl}
use Rattle.txn_set.specs.Set.{Set, txn_of}
use Rattle.txn_set.specs.Ceilings.{greatest, may_block, blocking}
use Rattle.law_times.specs.Response.{part_of, higher_demand, demand, HoldsDemand}
use Rattle.scenario_writer.specs.Generated.{each, dated_item, state_item, txn_decl, period_of}
use Rattle.scenario_writer.proofs.GeneratedSet as generated
use Rattle.law_times.proofs.Standing.{loud as left}

-- the set of a generated scenario
abbrev pub plain_set : ℕ → Set
plain_set n = record { items = each (dated_item n) n ++ state_item ∷ []; txns = each (txn_decl n) n; together = [] }

kept_left : (b : Bool) (t : TxnDecl) (ts : List TxnDecl) → left t ≤ 3 → greatest (map left ts) ≤ 3
    → greatest (map left (cond b (t ∷ ts) ts)) ≤ 3
kept_left true t ts h g = omega arith
kept_left false t ts h g = g

low_left : (p : TxnDecl → Bool) (n a m : ℕ) → greatest (map left (filter p (map (txn_decl n) (range_with_len a m)))) ≤ 3
low_left p n a zero = omega arith
low_left p n a (suc m) = kept_left (p (txn_decl n a)) (txn_decl n a) (filter p (map (txn_decl n) (range_with_len
    (a + 1) m)))
    (omega arith) (low_left p n (a + 1) m)

pub low_blocking : (n prio : ℕ) → blocking (plain_set n) prio ≤ 3
unfolding blocking
low_blocking n prio = low_left (λ t. nat_lt t.prio prio && may_block (plain_set n) prio t) n 0 n

-- one round within a period
one_round : (w period : ℕ) → w < period → div_ceil w period ≤ 1
one_round w period lt = let none : w / period ≡ 0 = div-eq_of_lt lt in omega arith

part_if : (b : Bool) (rounds : ℕ) → rounds ≤ 1 → cond b (rounds * 4) 0 ≤ 4
part_if true rounds le = omega arith
part_if false rounds le = omega arith

low_part : (n i k w : ℕ) → w < period_of n → part_of (n - i) w (txn_decl n k) ≤ 4
low_part n i k w lt = part_if (nat_lt (n - i) (n - k)) (div_ceil w (period_of n)) (one_round w (period_of n) lt)

no_part : (n i k w : ℕ) → i ≤ k → part_of (n - i) w (txn_decl n k) ≡ 0
no_part n i k w le = ap (λ (b : Bool). cond b (div_ceil w (period_of n) * 4) 0) (le-ltb (n - i) (n - k) (omega arith))

-- one more transaction, which asks for four steps where it is higher
add_part : (part rest i a : ℕ) → part ≤ 4 → rest ≤ 4 * (i - (a + 1)) → (i ≤ a → part ≡ 0) → part + rest ≤ 4 * (i - a)
add_part part rest i a few low none = elim (cases_lt a i) [
  | inl less ↦ omega arith
  | inr more ↦ (let e : part ≡ 0 = none more in omega arith)
]

low_demand : (n i w a m : ℕ) → w < period_of n → higher_demand (n - i) w (map (txn_decl n) (range_with_len a m)) ≤ 4 *
    (i - a)
low_demand n i w a zero lt = omega arith
low_demand n i w a (suc m) lt =
    add_part (part_of (n - i) w (txn_decl n a)) (higher_demand (n - i) w (map (txn_decl n) (range_with_len
    (a + 1) m))) i a
    (low_part n i a w lt) (low_demand n i w (a + 1) m lt) (λ le. no_part n i a w le)

-- the demand of a transaction within 4n + 3 ticks
pub holds : (n tx : ℕ) → 1 ≤ n → n ≤ 64 → tx < n → HoldsDemand (plain_set n) tx (4 * n + 3)
unfolding demand
holds n tx one few lt =
    let blocked : blocking (plain_set n) (n - tx) ≤ 3 = low_blocking n (n - tx) in
    let higher : higher_demand (n - tx) (4 * n + 3) (map (txn_decl n) (range_with_len 0 n)) ≤ 4 * (tx - 0) =
    low_demand n tx (4 * n + 3) 0 n (omega arith) in
    record {
      positive = omega arith;
      in_deadline = subst (λ (t : TxnDecl). 4 * n + 3 ≤ t.deadline) (sym (generated.txn_at n one few tx lt))
          (omega arith);
      enough = subst (λ (t : TxnDecl). t.steps + blocking (plain_set n) t.prio
          + higher_demand t.prio (4 * n + 3) (plain_set n).txns ≤ 4 * n + 3) (sym
          (generated.txn_at n one few tx lt))
          (omega arith);
    }
