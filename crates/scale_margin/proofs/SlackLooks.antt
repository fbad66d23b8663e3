-- The set with another count is compiled.
use Rattle.std.proofs.Common.{◌≡◌, ℕ, List, get_or, set, None, sym, ◌∙◌, ap, subst}
use Rattle.rt_base.specs.declared.ids.TogetherDecl.{TogetherDecl}
use Rattle.item_model.specs.declared.decl.ItemDecl.{ItemDecl}
use Rattle.txn_set.specs.declared.decl.TxnDecl.{TxnDecl}
use Rattle.txn_set.specs.Set.{Set, no_txn, IsCompiled}
use Rattle.txn_compiler.specs.Refusal.{compile_refusal}
use Rattle.txn_compiler.specs.Kept.{set_of, IsInRange, AreLists, kept}
use Rattle.txn_compiler.proofs.Keeping.{kept-as-declared}
use Rattle.txn_compiler.proofs.Verdict.{compiled-unless-refused}
use Rattle.scale_margin.specs.Steps.{stepped, with_steps, IsCount}
use Rattle.scale_margin.proofs.Counts.{lists_with, compiled_at_counts}

-- the declarations that are compiled
pub declared : (s : Set) (tx k : ℕ) (items seen : List ItemDecl) (txns read : List TxnDecl) (together groups : List TogetherDecl)
    → items ≡ seen → seen ≡ s.items → txns ≡ set read tx (stepped (get_or read tx no_txn) k) → read ≡ s.txns → together ≡ groups → groups ≡ s.together
    → set_of items txns together ≡ with_steps s tx k
declared s tx k items seen txns read together groups a b c d e f = cc

lists_in_range : (s : Set) → AreLists s → IsInRange s
lists_in_range s h = record {
  reads = λ i d below. (h.reads i d below).in_range;
  writes = λ i d below. (h.writes i d below).in_range;
  together = λ i d below. (h.together i d below).in_range;
}

module _ (s : Set) (tx k : ℕ) (ok : IsCompiled s) (is : IsCount s tx k) (given : Set) (same : given ≡ with_steps s tx k) where
  lists : AreLists (with_steps s tx k)
  lists = lists_with s tx k ok is.there

  pub in_range : IsInRange given
  in_range = subst (λ (t : Set). IsInRange t) (sym same) (lists_in_range (with_steps s tx k) lists)

  pub kept_is : kept given ≡ with_steps s tx k
  kept_is = ap kept same ∙ kept-as-declared (with_steps s tx k) lists

  pub no_refusal : compile_refusal (kept given) ≡ None
  no_refusal = ap compile_refusal kept_is ∙ (compiled-unless-refused (with_steps s tx k) lists).1 (compiled_at_counts s tx k ok is)
