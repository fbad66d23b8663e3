-- The declarations as they are judged before their rates are known.
use Rattle.std.proofs.Common.{◌≡◌, ℕ, ◌<◌, ltb, List, [], ◌∷◌, length, Option, Some, None, sym, ap, subst, arith}
use Rattle.std.specs.List.{All}
use Rattle.std.specs.Option.{option_map}
use Rattle.rt_base.specs.declared.ids.TogetherDecl.{TogetherDecl}
use Rattle.item_model.specs.declared.decl.ItemDecl.{ItemDecl}
use Rattle.item_model.specs.Work.{first_of_both}
use Rattle.txn_set.specs.declared.decl.TxnDecl.{TxnDecl}
use Rattle.txn_set.specs.Set.{Set, no_txn}
use Rattle.txn_compiler.specs.declared.error.CompileError.{CompileError}
use Rattle.txn_compiler.specs.declared.error.CompileError.TheVariants.{TooManyTxns, OutOfMemory}
use Rattle.txn_compiler.specs.Refusal.{given, first_some, too_many_items, too_many_txns, same_prio, bad_times, no_writer, two_writers, cyclic_derivation, too_many_sets, bad_together, compile_refusal}
use Rattle.txn_compiler.specs.Refusal.{Refuses as RefusesSet}
use Rattle.txn_compiler.specs.Kept.{IsInRange, set_of, kept}
use Rattle.update_rates.specs.declared.rates.Rate.{Rate}
use Rattle.update_rates.specs.declared.error.RateError.TheVariants.{Compile}
use Rattle.update_rates.specs.RatedSet.{txns_with, plain_set}
use Rattle.update_rates.specs.Refusal.{Refuses, of_compile}
use Rattle.update_rates.proofs.Retimed.{with-length, with-at, kept-plain}

first-two : {A : Type 0} (a b : Option A) (rest : List (Option A)) (e : A) → first_of_both a b ≡ Some e → first_some (a ∷ b ∷ rest) ≡ Some e
first-two (Some x) b rest e h = h
first-two None (Some x) rest e h = h
first-two None None rest e h = absurd cc

-- too many items or transactions, whatever the priorities
pub too-many : (items : List ItemDecl) (txns seen : List TxnDecl) (together : List TogetherDecl) (e : CompileError) → length seen ≡ length txns → first_of_both (too_many_items items) (too_many_txns seen) ≡ Some e → compile_refusal (set_of items txns together) ≡ Some e
unfolding compile_refusal
too-many items txns seen together e same h =
    let alike : too_many_txns seen ≡ too_many_txns txns = ap (λ (n : ℕ). given (ltb 64 n) (TooManyTxns n)) same in
    first-two (too_many_items items) (too_many_txns txns)
    (same_prio txns ∷ bad_times txns ∷ no_writer items txns ∷ two_writers items txns ∷ cyclic_derivation items txns ∷ too_many_sets together ∷ bad_together items together ∷ []) e
    (subst (λ (o : Option CompileError). first_of_both (too_many_items items) o ≡ Some e) alike h)

-- rates name no item
pub in-range-with : (rates : ℕ → Rate) (items : List ItemDecl) (txns : List TxnDecl) (together : List TogetherDecl) → IsInRange (set_of items txns together) → IsInRange (set_of items (txns_with rates txns) together)
in-range-with rates items txns together h = record {
  reads = λ k d inside.
      let low : k < length txns = omega (arith, with-length rates txns, inside) in
      subst (λ (t : TxnDecl). All (λ i. i.0 < length items) t.reads) (sym (with-at rates txns k d low)) (h.reads k no_txn low);
  writes = λ k d inside.
      let low : k < length txns = omega (arith, with-length rates txns, inside) in
      subst (λ (t : TxnDecl). All (λ i. i.0 < length items) t.writes) (sym (with-at rates txns k d low)) (h.writes k no_txn low);
  together = h.together;
}

of-compile : (found : Option CompileError) (e : CompileError) → RefusesSet found e → Refuses (option_map Compile found) (of_compile e)
of-compile found OutOfMemory is = tt
of-compile found other is = ap (option_map Compile) is

pub refused-plain : (set : Set) (e : CompileError) → RefusesSet (compile_refusal (kept (plain_set set))) e → Refuses (option_map Compile (compile_refusal (plain_set (kept set)))) (of_compile e)
refused-plain set e h =
    of-compile (compile_refusal (plain_set (kept set))) e (subst (λ (s : Set). RefusesSet (compile_refusal s) e) (kept-plain set) h)
