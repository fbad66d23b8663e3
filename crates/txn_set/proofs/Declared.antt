-- A transaction's declaration by its place, and that the declared reads and writes of a transaction of a compiled set are items of the set.
use Rattle.std.proofs.Common.{◌≡◌, ℕ, ◌^◌, ◌<◌, ◌≤◌, List, length, get_or, sym, subst, arith}
use Rattle.std.proofs.lemmas.List.{get_or_read}
use Rattle.std.specs.List.{All}
use Rattle.rt_base.specs.declared.ids.ItemId.{ItemId}
use Rattle.txn_set.specs.declared.decl.TxnDecl.{TxnDecl}
use Rattle.txn_set.specs.Set.{Set, HasGoodTimes, IsCompiled, declared, txn_of, no_txn}

pub read_is : (set : Set) (i : ℕ) (x : TxnDecl) → i < length set.txns → x ≡ get_or set.txns i x → x ≡ txn_of set i
read_is set i x lt e = get_or_read set.txns i x lt e no_txn

pub reads_in : (set : Set) (tx : ℕ) (items : List ItemId) → IsCompiled set → tx < length set.txns → items ≡ (txn_of set tx).reads → All (λ i. i.0 < length set.items) items
reads_in set tx items c lt e = subst (λ (l : List ItemId). All (λ i. i.0 < length set.items) l) (sym e) (c.reads tx no_txn lt).in_range

pub writes_in : (set : Set) (tx : ℕ) (items : List ItemId) → IsCompiled set → tx < length set.txns → items ≡ (txn_of set tx).writes → All (λ i. i.0 < length set.items) items
writes_in set tx items c lt e = subst (λ (l : List ItemId). All (λ i. i.0 < length set.items) l) (sym e) (c.writes tx no_txn lt).in_range

-- A declared transaction has good times where its numbers are in range, and one with good times keeps them with another priority
-- and other steps.

pub good_declared : (prio period steps : ℕ) (reads writes : List ItemId) → (1 ≤ prio) × (prio ≤ 1000) → (1 ≤ period) × (period ≤ 2 ^ 30) → (1 ≤ steps) × (steps ≤ 10000)
    → HasGoodTimes (declared prio period steps reads writes)
good_declared prio period steps reads writes prio_in period_in steps_in = record {
  prio = prio_in;
  steps = steps_in;
  period = period_in;
  deadline = (period_in.0, omega arith);
  offset = omega arith;
  quiet = omega (arith, steps_in.0);
}

pub good_with : (t : TxnDecl) (prio steps quiet : ℕ) → HasGoodTimes t → (1 ≤ prio) × (prio ≤ 1000) → (1 ≤ steps) × (steps ≤ 10000) → quiet < steps
    → HasGoodTimes (record t { prio = prio; steps = steps; quiet = quiet })
good_with t prio steps quiet h prio_in steps_in below =
    record { prio = prio_in; steps = steps_in; period = h.period; deadline = h.deadline; offset = h.offset; quiet = below }
