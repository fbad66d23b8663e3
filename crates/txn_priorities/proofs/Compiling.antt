-- A compiled set is compiled with other priorities.
use Rattle.std.proofs.Common.{◌≡◌, ℕ, zero, suc, ◌<◌, ◌≤◌, List, length, get_or, None, sym, ◌∙◌, ap, subst, arith}
use Rattle.std.specs.Prelude.{IsTrue}
use Rattle.rt_base.specs.declared.ids.ItemId.{ItemId}
use Rattle.rt_base.specs.declared.ids.TogetherDecl.{TogetherDecl}
use Rattle.item_model.specs.declared.decl.ItemDecl.{ItemDecl}
use Rattle.txn_set.specs.declared.decl.TxnDecl.{TxnDecl}
use Rattle.txn_set.specs.Set.{Set, txn_of, names_item, may_read, may_write, HasGoodTimes, AreItemsOf, IsTheWriter, DependsOn, Walk, IsCompiled}
use Rattle.txn_set.proofs.Declared.{good_with}
use Rattle.txn_compiler.specs.Refusal.{compile_refusal}
use Rattle.txn_compiler.specs.Kept.{set_of, IsInRange, AreLists, kept}
use Rattle.txn_compiler.proofs.Keeping.{kept-as-declared}
use Rattle.txn_compiler.proofs.Verdict.{compiled-unless-refused}
use Rattle.law_times.specs.Assigned.{txns_with, with_prios, IsAssignment}
use Rattle.law_times.proofs.Moving.{with-length}
use Rattle.txn_priorities.specs.Laws.{AreInRange, CompiledWithPrios}
use Rattle.txn_priorities.proofs.Unchanged.{reads-with, writes-with, get-with}

at-priority : (t : TxnDecl) (n : ℕ) → 1 ≤ n → n ≤ 1000 → HasGoodTimes t → HasGoodTimes (record t { prio = n })
at-priority t n some few h = good_with t n t.steps t.quiet h (some, few) h.steps h.quiet

module _ (set : Set) (p : ℕ → ℕ) where
  below : (tx : ℕ) → tx < length (txns_with p set.txns) → tx < length set.txns
  below tx inside = omega (arith, inside, with-length p set.txns)

  items-same : (xs : List ItemId) → AreItemsOf set xs → AreItemsOf (with_prios p set) xs
  items-same xs h = record { rising = h.rising; in_range = h.in_range }

  to-write : (tx item : ℕ) → IsTrue (may_write (txn_of set tx) item) → IsTrue (may_write (txn_of (with_prios p set) tx) item)
  to-write tx item h = subst (λ (xs : List ItemId). IsTrue (names_item xs item)) (sym (writes-with p set.txns tx)) h

  from-write : (tx item : ℕ) → IsTrue (may_write (txn_of (with_prios p set) tx) item) → IsTrue (may_write (txn_of set tx) item)
  from-write tx item h = subst (λ (xs : List ItemId). IsTrue (names_item xs item)) (writes-with p set.txns tx) h

  from-read : (tx item : ℕ) → IsTrue (may_read (txn_of (with_prios p set) tx) item) → IsTrue (may_read (txn_of set tx) item)
  from-read tx item h = subst (λ (xs : List ItemId). IsTrue (names_item xs item)) (reads-with p set.txns tx) h

  writer-same : (item tx : ℕ) → IsTheWriter set item tx → IsTheWriter (with_prios p set) item tx
  writer-same item tx w = record {
    in_range = omega (arith, w.in_range, with-length p set.txns);
    writes = to-write tx item w.writes;
    alone = λ other h. w.alone other (from-write other item h);
  }

  depends-same : (item parent : ℕ) → DependsOn (with_prios p set) item parent → DependsOn set item parent
  depends-same item parent d = record {
    derived = d.derived;
    dated = d.dated;
    writer = d.writer;
    writes = from-write d.writer item d.writes;
    reads = from-read d.writer parent d.reads;
  }

  walk-same : (n from to : ℕ) → Walk (with_prios p set) from to n → Walk set from to n
  walk-same zero from to e = e
  walk-same (suc n) from to w = (w.0, depends-same from w.0 w.1, walk-same n w.0 to w.2)

  lists-with : IsCompiled set → AreLists (with_prios p set)
  lists-with ok = record {
    reads =
        λ k d lt.
        let inside = below k lt in
        subst (λ (t : TxnDecl). AreItemsOf (with_prios p set) t.reads) (sym (get-with p set.txns k d inside)) (items-same (get_or set.txns k d).reads (ok.reads k d inside));
    writes =
        λ k d lt.
        let inside = below k lt in
        subst (λ (t : TxnDecl). AreItemsOf (with_prios p set) t.writes) (sym (get-with p set.txns k d inside)) (items-same (get_or set.txns k d).writes (ok.writes k d inside));
    together = λ k d lt. items-same (get_or set.together k d).items (ok.together k d lt);
  }

  compiled : IsCompiled set → IsAssignment set p → AreInRange set p → IsCompiled (with_prios p set)
  compiled ok is range =
      let lists = lists-with ok in
      record {
        few_items = ok.few_items;
        few_txns = omega (arith, ok.few_txns, with-length p set.txns);
        few_together = ok.few_together;
        times =
            λ k d lt.
            let inside = below k lt in
            subst (λ (t : TxnDecl). HasGoodTimes t) (sym (get-with p set.txns k d inside)) (at-priority (get_or set.txns k d) (p k) (is.some k inside) (range k inside) (ok.times k d inside));
        prios =
            λ i j d lt less e.
            let in-j = below j less in
            let in-i : i < length set.txns = omega (arith, lt, in-j) in
            let own-i : (get_or (txns_with p set.txns) i d).prio ≡ p i = ap (λ (t : TxnDecl). t.prio) (get-with p set.txns i d in-i) in
            let own-j : (get_or (txns_with p set.txns) j d).prio ≡ p j = ap (λ (t : TxnDecl). t.prio) (get-with p set.txns j d in-j) in
            let same : i ≡ j = is.distinct i j in-i in-j (sym own-i ∙ e ∙ own-j) in
            omega (arith, lt, same);
        reads = lists.reads;
        writes = lists.writes;
        written = λ item dated. let w = ok.written item dated in (w.0, writer-same item w.0 w.1);
        acyclic = λ item n walk. ok.acyclic item n (walk-same (suc n) item item walk);
        together = lists.together;
        together_size = ok.together_size;
        together_dated = ok.together_dated;
      }

pub compiled-with-prios : CompiledWithPrios
compiled-with-prios set p ok is range = compiled set p ok is range

-- the declarations that are compiled
pub declared : (s : Set) (p : ℕ → ℕ) (items seen : List ItemDecl) (txns read : List TxnDecl) (together groups : List TogetherDecl)
    → items ≡ seen → seen ≡ s.items → txns ≡ txns_with p read → read ≡ s.txns → together ≡ groups → groups ≡ s.together
    → set_of items txns together ≡ with_prios p s
declared s p items seen txns read together groups a b c d e f = cc

lists-in-range : (s : Set) → AreLists s → IsInRange s
lists-in-range s h = record {
  reads = λ i d lt. (h.reads i d lt).in_range;
  writes = λ i d lt. (h.writes i d lt).in_range;
  together = λ i d lt. (h.together i d lt).in_range;
}

module _ (s : Set) (p : ℕ → ℕ) (ok : IsCompiled s) (is : IsAssignment s p) (range : AreInRange s p) (given : Set) (same : given ≡ with_prios p s) where
  pub in-range : IsInRange given
  in-range = subst (λ (t : Set). IsInRange t) (sym same) (lists-in-range (with_prios p s) (lists-with s p ok))

  pub kept-is : kept given ≡ with_prios p s
  kept-is = ap kept same ∙ kept-as-declared (with_prios p s) (lists-with s p ok)

  pub no-refusal : compile_refusal (kept given) ≡ None
  no-refusal = ap compile_refusal kept-is ∙ (compiled-unless-refused (with_prios p s) (lists-with s p ok)).1 (compiled s p ok is range)
