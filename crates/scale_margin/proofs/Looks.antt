-- A look judges the scaled set: its refusal is the barrier.
use Rattle.std.proofs.Common.{◌≡◌, ℕ, List, map, Option, None, Some, refl, sym, ◌∙◌, ap, subst}
use Rattle.rt_base.specs.declared.ids.TogetherDecl.{TogetherDecl}
use Rattle.item_model.specs.declared.decl.ItemDecl.{ItemDecl}
use Rattle.txn_set.specs.declared.decl.TxnDecl.{TxnDecl}
use Rattle.txn_set.specs.Set.{Set, IsCompiled}
use Rattle.txn_compiler.specs.declared.error.CompileError.{CompileError}
use Rattle.txn_compiler.specs.declared.error.CompileError.TheVariants.{OutOfMemory}
use Rattle.txn_compiler.specs.Refusal.{compile_refusal}
use Rattle.txn_compiler.specs.Refusal as compiling
use Rattle.txn_compiler.specs.Kept.{set_of, IsInRange, AreLists, kept}
use Rattle.txn_compiler.proofs.Keeping.{kept-as-declared}
use Rattle.txn_compiler.proofs.Verdict.{compiled-unless-refused}
use Rattle.law_times.specs.Ages.{IsAdmitted}
use Rattle.set_admission.specs.declared.error.AdmitError.{AdmitError}
use Rattle.set_admission.specs.declared.error.AdmitError.TheVariants as admitting
use Rattle.set_admission.specs.Admission.{refusal, Refuses}
use Rattle.set_admission.proofs.Admitted.{decided}
use Rattle.scale_margin.specs.declared.barrier.Barrier.TheVariants.{Compile, Admit}
use Rattle.scale_margin.specs.Scaled.{counts_at, scaled_txn, scaled}
use Rattle.scale_margin.specs.Barriers.{barrier_at}
use Rattle.scale_margin.proofs.Compiles.{lists_counted}
use Rattle.scale_margin.proofs.Percents.{barred_not}

-- the declarations that are compiled

pub declared : (set : Set) (k : ℕ) (items seen : List ItemDecl) (txns read : List TxnDecl) (together groups : List TogetherDecl)
    → items ≡ seen → seen ≡ set.items → txns ≡ map (scaled_txn k) read → read ≡ set.txns → together ≡ groups → groups ≡ set.together
    → set_of items txns together ≡ scaled set k
declared set k items seen txns read together groups a b c d e f = cc

pub lists_in_range : (set : Set) → AreLists set → IsInRange set
lists_in_range set h = record {
  reads = λ i d below. (h.reads i d below).in_range;
  writes = λ i d below. (h.writes i d below).in_range;
  together = λ i d below. (h.together i d below).in_range;
}

module _ (set : Set) (k : ℕ) (ok : IsCompiled set) (s : Set) (is : s ≡ scaled set k) where
  lists : AreLists (scaled set k)
  lists = lists_counted (counts_at k) set ok

  pub in_range : IsInRange s
  in_range = subst (λ (t : Set). IsInRange t) (sym is) (lists_in_range (scaled set k) lists)

  kept_is : kept s ≡ scaled set k
  kept_is = ap kept is ∙ kept-as-declared (scaled set k) lists

  compile-some : (found : Option CompileError) (e : CompileError) → compiling.Refuses found e → (e ≡ OutOfMemory → ⊥) → found ≡ Some e
  compile-some found OutOfMemory h other = absurd (other refl)
  compile-some found rest h other = h

  admit-some : (found : Option AdmitError) (e : AdmitError) → Refuses found e → (e ≡ admitting.OutOfMemory → ⊥) → found ≡ Some e
  admit-some found admitting.OutOfMemory h other = absurd (other refl)
  admit-some found rest h other = h

  pub bars_compile : (e : CompileError) → compiling.Refuses (compile_refusal (kept s)) e → (e ≡ OutOfMemory → ⊥) → Some (Compile e) ≡ barrier_at set k
  unfolding barrier_at
  bars_compile e h other =
      let some : compile_refusal (scaled set k) ≡ Some e = ap compile_refusal (sym kept_is) ∙ compile-some (compile_refusal (kept s)) e h other in
      rw some refl

  passed : (t : Set) → t ≡ kept s → compile_refusal t ≡ None → compile_refusal (scaled set k) ≡ None
  passed t same none = ap compile_refusal (sym (same ∙ kept_is)) ∙ none

  pub bars_admit : (t : Set) → t ≡ kept s → compile_refusal t ≡ None → (e : AdmitError) → Refuses (refusal t) e → (e ≡ admitting.OutOfMemory → ⊥) → Some (Admit e) ≡ barrier_at set k
  unfolding barrier_at
  bars_admit t same none e h other =
      let some : refusal (scaled set k) ≡ Some e = ap refusal (sym (same ∙ kept_is)) ∙ admit-some (refusal t) e h other in
      rw (passed t same none, some) refl

  pub bars_none : (t : Set) → t ≡ kept s → compile_refusal t ≡ None → IsAdmitted t → None ≡ barrier_at set k
  bars_none t same none h =
      let ready : IsCompiled (scaled set k) = (compiled-unless-refused (scaled set k) lists).0 (passed t same none) in
      let admitted : IsAdmitted (scaled set k) = subst (λ (u : Set). IsAdmitted u) (same ∙ kept_is) h in
      sym (barred_not set k (passed t same none) ((decided (scaled set k) ready).by_rule.1 admitted))
