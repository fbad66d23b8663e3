-- A compiled set with other step counts is compiled where these are within their ranges.
use Rattle.std.proofs.Common.{◌≡◌, ℕ, zero, suc, ◌≢◌, ◌<◌, List, [], ◌∷◌, map, length, Option, None, Some, get_or, refl, sym, ◌∙◌, ap, subst, arith}
use Rattle.std.proofs.lemmas.List.{get_or-map, length-map}
use Rattle.std.proofs.lemmas.List.Elements.{All-map, All-weaker}
use Rattle.std.specs.Prelude.{IsTrue}
use Rattle.std.specs.List.{All, AllPairs}
use Rattle.item_model.specs.Kinds.{is_dated}
use Rattle.item_model.specs.Work.{first_of_both}
use Rattle.rt_base.specs.declared.ids.ItemId.{ItemId}
use Rattle.txn_set.specs.declared.decl.TxnDecl.{TxnDecl}
use Rattle.txn_set.specs.Set.{Set, txn_of, names_item, may_read, may_write, HasGoodTimes, AreItemsOf, IsTheWriter, DependsOn, Walk, IsCompiled}
use Rattle.txn_compiler.specs.declared.error.CompileError.TheVariants.{TooManyItems, TooManyTxns, TooManySets}
use Rattle.txn_compiler.specs.Refusal.{first_some, bad_times, compile_refusal}
use Rattle.txn_compiler.specs.Kept.{AreLists}
use Rattle.txn_compiler.proofs.Judged.{few-to, prios-to, no-writer-all, two-writers-all, acyclic-to, together-to}
use Rattle.scale_margin.specs.Scaled.{StepCounts, counted_txn, counted}
use Rattle.scale_margin.proofs.Same.{reads_same, writes_same}

last_none : {A : Type 0} (d : Option A) → first_of_both d None ≡ d
last_none None = refl
last_none (Some x) = refl

fourth_alone : {A : Type 0} (a b c d e f g h i : Option A) → a ≡ None → b ≡ None → c ≡ None → e ≡ None → f ≡ None → g ≡ None → h ≡ None → i ≡ None
    → first_some (a ∷ b ∷ c ∷ d ∷ e ∷ f ∷ g ∷ h ∷ i ∷ []) ≡ d
fourth_alone a b c d e f g h i a' b' c' e' f' g' h' i' = rw (a', b', c', e', f', g', h', i') (last_none d)

module _ (c : StepCounts) (set : Set) where
  items_same : (xs : List ItemId) → AreItemsOf set xs → AreItemsOf (counted c set) xs
  items_same xs h = record { rising = h.rising; in_range = h.in_range }

  to_write : (tx item : ℕ) → IsTrue (may_write (txn_of set tx) item) → IsTrue (may_write (txn_of (counted c set) tx) item)
  to_write tx item h = subst (λ (xs : List ItemId). IsTrue (names_item xs item)) (sym (writes_same c set tx)) h

  from_write : (tx item : ℕ) → IsTrue (may_write (txn_of (counted c set) tx) item) → IsTrue (may_write (txn_of set tx) item)
  from_write tx item h = subst (λ (xs : List ItemId). IsTrue (names_item xs item)) (writes_same c set tx) h

  from_read : (tx item : ℕ) → IsTrue (may_read (txn_of (counted c set) tx) item) → IsTrue (may_read (txn_of set tx) item)
  from_read tx item h = subst (λ (xs : List ItemId). IsTrue (names_item xs item)) (reads_same c set tx) h

  writer_same : (item tx : ℕ) → IsTheWriter set item tx → IsTheWriter (counted c set) item tx
  writer_same item tx w = record {
    in_range = omega (arith, w.in_range, length-map set.txns (counted_txn c));
    writes = to_write tx item w.writes;
    alone = λ other h. w.alone other (from_write other item h);
  }

  depends_same : (item parent : ℕ) → DependsOn (counted c set) item parent → DependsOn set item parent
  depends_same item parent d = record {
    derived = d.derived;
    dated = d.dated;
    writer = d.writer;
    writes = from_write d.writer item d.writes;
    reads = from_read d.writer parent d.reads;
  }

  walk_same : (n from to : ℕ) → Walk (counted c set) from to n → Walk set from to n
  walk_same zero from to e = e
  walk_same (suc n) from to w = (w.0, depends_same from w.0 w.1, walk_same n w.0 to w.2)

  prio_at : (i : ℕ) (d : TxnDecl) → i < length set.txns → (get_or (map (counted_txn c) set.txns) i d).prio ≡ (get_or set.txns i d).prio
  prio_at i d inside = ap (λ (t : TxnDecl). t.prio) (get_or-map (counted_txn c) set.txns i d d inside)

  prios_counted : IsCompiled set → AllPairs (λ a b. a.prio ≢ b.prio) (map (counted_txn c) set.txns)
  prios_counted ok i j d lt below e =
      let inside : j < length set.txns = omega (arith, below, length-map set.txns (counted_txn c)) in
      ok.prios i j d lt inside (sym (prio_at i d (omega (arith, lt, inside))) ∙ e ∙ prio_at j d inside)

  lists_at : (f : TxnDecl → List ItemId) → ((t : TxnDecl) → f (counted_txn c t) ≡ f t) → All (λ t. AreItemsOf set (f t)) set.txns → All (λ t. AreItemsOf (counted c set) (f t)) (map (counted_txn c) set.txns)
  lists_at f same all =
      All-map (λ (t : TxnDecl). AreItemsOf (counted c set) (f t)) (counted_txn c) set.txns
      (All-weaker (λ (t : TxnDecl). AreItemsOf set (f t)) (λ t. AreItemsOf (counted c set) (f (counted_txn c t)))
      (λ t h. subst (λ (xs : List ItemId). AreItemsOf (counted c set) xs) (sym (same t)) (items_same (f t) h)) set.txns all)

  pub lists_counted : IsCompiled set → AreLists (counted c set)
  lists_counted ok = record {
    reads = lists_at (λ t. t.reads) (λ t. refl) ok.reads;
    writes = lists_at (λ t. t.writes) (λ t. refl) ok.writes;
    together = λ k d below. items_same (get_or set.together k d).items (ok.together k d below);
  }

  pub compiled_counted : IsCompiled set → All HasGoodTimes (map (counted_txn c) set.txns) → IsCompiled (counted c set)
  compiled_counted ok good =
      let lists = lists_counted ok in
      let count = length-map set.txns (counted_txn c) in
      record {
        few_items = ok.few_items;
        few_txns = omega (arith, ok.few_txns, count);
        few_together = ok.few_together;
        times = good;
        prios = prios_counted ok;
        reads = lists.reads;
        writes = lists.writes;
        written = λ item dated. let w = ok.written item dated in (w.0, writer_same item w.0 w.1);
        acyclic = λ item n walk. ok.acyclic item n (walk_same (suc n) item item walk);
        together = lists.together;
        together_size = ok.together_size;
        together_dated = ok.together_dated;
      }

  -- of the rules of compiling only the time ranges depend on the step counts
  pub times_alone : IsCompiled set → compile_refusal (counted c set) ≡ bad_times (map (counted_txn c) set.txns)
  unfolding compile_refusal
  times_alone ok =
      let count = length-map set.txns (counted_txn c) in
      let written : (item : ℕ) → IsTrue (is_dated set.items item) → (tx : ℕ) × IsTheWriter (counted c set) item tx = λ item dated. let w = ok.written item dated in (w.0, writer_same item w.0 w.1) in
      let acyclic : (item n : ℕ) → ¬ Walk (counted c set) item item (suc n) = λ item n walk. ok.acyclic item n (walk_same (suc n) item item walk) in
      fourth_alone _ _ _ _ _ _ _ _ _
      (few-to 256 (length set.items) (TooManyItems (length set.items)) ok.few_items)
      (few-to 64 (length (map (counted_txn c) set.txns)) (TooManyTxns (length (map (counted_txn c) set.txns))) (omega (arith, ok.few_txns, count)))
      (prios-to (map (counted_txn c) set.txns) (prios_counted ok))
      (no-writer-all (counted c set) written)
      (two-writers-all (counted c set) written)
      (acyclic-to (counted c set) acyclic)
      (few-to 64 (length set.together) (TooManySets (length set.together)) ok.few_together)
      (together-to set.items set.together ok.together_size ok.together_dated)
