-- For the tests: the set without transactions meets the rules, and two transactions that are not eager.
use Rattle.std.proofs.Common.{◌≡◌, ℕ, zero, suc, List, [], ◌∷◌, refl, sym, subst, arith}
use Rattle.std.specs.Prelude.{IsTrue}
use Rattle.rt_base.specs.declared.ids.TogetherDecl.{TogetherDecl}
use Rattle.item_model.specs.Kinds.{is_dated, is_derived}
use Rattle.item_model.specs.declared.decl.ItemDecl.{ItemDecl}
use Rattle.txn_set.specs.declared.decl.TxnDecl.{TxnDecl}
use Rattle.txn_set.specs.Set.{IsCompiled}
use Rattle.plant_run.specs.NoTxns.{set_of_none}
use Rattle.plant_run.specs.Runs.{eager_jobs_at}

undated : (item : ℕ) → IsTrue (is_dated set_of_none.items item) → ⊥
undated zero h = cc
undated (suc item) h = cc

underived : (item : ℕ) → IsTrue (is_derived set_of_none.items item) → ⊥
underived zero h = cc
underived (suc item) h = cc

pub compiled_none : IsCompiled set_of_none
compiled_none = record {
  few_items = omega arith;
  few_txns = omega arith;
  few_together = omega arith;
  times = λ k d lt. absurd (omega arith);
  prios = λ i j d lt top e. absurd (omega arith);
  reads = λ k d lt. absurd (omega arith);
  writes = λ k d lt. absurd (omega arith);
  written = λ item h. absurd (undated item h);
  acyclic = λ item n walk. underived item walk.1.derived;
  together = λ k d lt. absurd (omega arith);
  together_size = λ k d lt. absurd (omega arith);
  together_dated = λ k d lt. absurd (omega arith);
}

pub of_none : (items : List ItemDecl) (txns : List TxnDecl) (together : List TogetherDecl) → items ≡ [] → txns ≡ [] → together ≡ []
    → IsCompiled (record { items = items; txns = txns; together = together })
of_none items txns together a b c = subst IsCompiled (λ i. record { items = sym a i; txns = sym b i; together = sym c i }) compiled_none

-- of two transactions neither plans jobs itself
pub none_of_two : (tx : ℕ) → eager_jobs_at (0 ∷ 0 ∷ []) tx ≡ 0
none_of_two zero = refl
none_of_two (suc zero) = refl
none_of_two (suc (suc tx)) = refl
