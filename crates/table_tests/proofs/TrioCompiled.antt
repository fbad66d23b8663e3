-- The set of the tests meets the rules, and its ceilings are those of the definition.
use Rattle.std.proofs.Common.{◌≡◌, ◌≢◌, ℕ, zero, suc, ◌<◌, List, [], ◌∷◌, Some, get_or, slice_get, refl, ap, sym, subst, arith}
use Rattle.std.specs.Prelude.{IsTrue}
use Rattle.rt_base.specs.declared.ids.ItemId.{ItemId}
use Rattle.rt_base.specs.declared.ids.TogetherDecl.{TogetherDecl}
use Rattle.item_model.specs.Kinds.{is_dated, is_derived}
use Rattle.item_model.specs.declared.decl.ItemDecl.{ItemDecl}
use Rattle.txn_set.specs.declared.decl.TxnDecl.{TxnDecl}
use Rattle.txn_set.specs.declared.decl.Ceilings.{Ceilings}
use Rattle.txn_set.specs.Set.{HasGoodTimes, AreItemsOf, IsTheWriter, IsCompiled}
use Rattle.txn_set.specs.Ceilings.{write_ceiling, absolute_ceiling, IsCeilingsOf}
use Rattle.txn_set.proofs.Declared.{good_declared}
use Rattle.table_tests.specs.Trio.{x, trio_items, trio_txns, trio_ceilings, trio}

times : (k : ℕ) (d : TxnDecl) → k < 3 → HasGoodTimes (get_or trio_txns k d)
times zero d lt = good_declared 3 20 4 (x ∷ []) [] (omega arith, omega arith) (omega arith, omega arith) (omega arith, omega arith)
times (suc zero) d lt = good_declared 2 20 4 (x ∷ []) [] (omega arith, omega arith) (omega arith, omega arith) (omega arith, omega arith)
times (suc (suc zero)) d lt = good_declared 1 40 4 [] (x ∷ []) (omega arith, omega arith) (omega arith, omega arith) (omega arith, omega arith)
times (suc (suc (suc k))) d lt = absurd (omega arith)

prios : (i j : ℕ) (d : TxnDecl) → i < j → j < 3 → (get_or trio_txns i d).prio ≢ (get_or trio_txns j d).prio
prios zero zero d lt top e = absurd (omega arith)
prios zero (suc zero) d lt top e = absurd (omega arith)
prios zero (suc (suc zero)) d lt top e = absurd (omega arith)
prios (suc zero) zero d lt top e = absurd (omega arith)
prios (suc zero) (suc zero) d lt top e = absurd (omega arith)
prios (suc zero) (suc (suc zero)) d lt top e = absurd (omega arith)
prios (suc (suc i)) j d lt top e = absurd (omega arith)
prios i (suc (suc (suc j))) d lt top e = absurd (omega arith)

no_items : AreItemsOf trio []
no_items = record { rising = λ i j d lt top. absurd (omega arith); in_range = λ k d lt. absurd (omega arith) }

one_item : AreItemsOf trio (x ∷ [])
one_item = record { rising = λ i j d less top. absurd (omega arith); in_range = in_one } where
  in_one : (k : ℕ) (d : ItemId) → k < 1 → (get_or (x ∷ []) k d).0 < 1
  in_one zero d l = omega arith
  in_one (suc k) d l = absurd (omega arith)

reads : (k : ℕ) (d : TxnDecl) → k < 3 → AreItemsOf trio (get_or trio_txns k d).reads
reads zero d lt = one_item
reads (suc zero) d lt = one_item
reads (suc (suc zero)) d lt = no_items
reads (suc (suc (suc k))) d lt = absurd (omega arith)

writes : (k : ℕ) (d : TxnDecl) → k < 3 → AreItemsOf trio (get_or trio_txns k d).writes
writes zero d lt = no_items
writes (suc zero) d lt = no_items
writes (suc (suc zero)) d lt = one_item
writes (suc (suc (suc k))) d lt = absurd (omega arith)

written : (item : ℕ) → IsTrue (is_dated trio.items item) → (tx : ℕ) × IsTheWriter trio item tx
written zero h = absurd cc
written (suc item) h = absurd cc

not_derived : (item : ℕ) → IsTrue (is_derived trio.items item) → ⊥
not_derived zero h = cc
not_derived (suc item) h = cc

pub trio_compiled : IsCompiled trio
trio_compiled = record {
  few_items = omega arith;
  few_txns = omega arith;
  few_together = omega arith;
  times = times;
  prios = prios;
  reads = reads;
  writes = writes;
  written = written;
  acyclic = λ item n walk. not_derived item walk.1.derived;
  together = λ k d lt. absurd (omega arith);
  together_size = λ k d lt. absurd (omega arith);
  together_dated = λ k d lt. absurd (omega arith);
}

ceilings_at : (item : ℕ) (row : Ceilings) → slice_get trio_ceilings item ≡ Some row → (row.write ≡ write_ceiling trio item) × (row.absolute ≡ absolute_ceiling trio item)
unfolding write_ceiling absolute_ceiling
ceilings_at zero row h = let e : record { write = 1; absolute = 3 } ≡ row = cc in (sym (ap (λ (c : Ceilings). c.write) e), sym (ap (λ (c : Ceilings). c.absolute) e))
ceilings_at (suc item) row h = absurd cc

pub trio_has_ceilings : IsCeilingsOf trio trio_ceilings
trio_has_ceilings = (refl, ceilings_at)

-- lists that are those of the set

pub of_trio : (items : List ItemDecl) (txns : List TxnDecl) (together : List TogetherDecl) → items ≡ trio_items → txns ≡ trio_txns → together ≡ []
    → IsCompiled (record { items = items; txns = txns; together = together })
of_trio items txns together a b c =
    subst (λ (l : List ItemDecl). IsCompiled (record { items = l; txns = txns; together = together })) (sym a)
    (subst (λ (l : List TxnDecl). IsCompiled (record { items = trio_items; txns = l; together = together })) (sym b)
    (subst (λ (l : List TogetherDecl). IsCompiled (record { items = trio_items; txns = trio_txns; together = l })) (sym c) trio_compiled))

pub of_ceilings : (items : List ItemDecl) (txns : List TxnDecl) (together : List TogetherDecl) (table : List Ceilings) → items ≡ trio_items → txns ≡ trio_txns → together ≡ [] → table ≡ trio_ceilings
    → IsCeilingsOf (record { items = items; txns = txns; together = together }) table
of_ceilings items txns together table a b c d =
    subst (λ (l : List ItemDecl). IsCeilingsOf (record { items = l; txns = txns; together = together }) table) (sym a)
    (subst (λ (l : List TxnDecl). IsCeilingsOf (record { items = trio_items; txns = l; together = together }) table) (sym b)
    (subst (λ (l : List TogetherDecl). IsCeilingsOf (record { items = trio_items; txns = trio_txns; together = l }) table) (sym c)
    (subst (λ (l : List Ceilings). IsCeilingsOf trio l) (sym d) trio_has_ceilings)))
