-- The refusal of a set by its rules, and that a set is compiled exactly where nothing refuses it.
use Rattle.std.proofs.Common.{◌≡◌, [], ◌∷◌, length, Option, None, Some, refl, ◌∙◌}
use Rattle.item_model.specs.Work.{first_of_both}
use Rattle.txn_set.specs.Set.{Set, IsCompiled}
use Rattle.txn_compiler.specs.declared.error.CompileError.{CompileError}
use Rattle.txn_compiler.specs.declared.error.CompileError.TheVariants.{TooManyItems, TooManyTxns, SamePrio, BadTimes, NoWriter, TwoWriters, CyclicDerivation, OutOfMemory, TooManySets, BadTogether}
use Rattle.txn_compiler.specs.Refusal.{first_some, too_many_items, too_many_txns, same_prio, bad_times, no_writer, two_writers, cyclic_derivation, too_many_sets, bad_together, compile_refusal, Refuses}
use Rattle.txn_compiler.specs.Kept.{AreLists}
use Rattle.txn_compiler.specs.Laws.{CompiledUnlessRefused}
use Rattle.txn_compiler.proofs.Refusing.{of-both-none}
use Rattle.txn_compiler.proofs.Judged.{few-from, few-to, prios-from, prios-to, times-from, times-to, written-from, no-writer-all, two-writers-all, acyclic-from, acyclic-to, sizes-from, dated-from, together-to}

-- no rule refuses the set
pub record IsPassed (set : Set) : Type 0 where
  pub items : too_many_items set.items ≡ None
  pub txns : too_many_txns set.txns ≡ None
  pub prios : same_prio set.txns ≡ None
  pub times : bad_times set.txns ≡ None
  pub written : no_writer set.items set.txns ≡ None
  pub alone : two_writers set.items set.txns ≡ None
  pub acyclic : cyclic_derivation set.items set.txns ≡ None
  pub sets : too_many_sets set.together ≡ None
  pub together : bad_together set.items set.together ≡ None

pub passed-from : (set : Set) → compile_refusal set ≡ None → IsPassed set
unfolding compile_refusal
passed-from set h =
    let a = of-both-none _ _ h in
    let b = of-both-none _ _ a.1 in
    let c = of-both-none _ _ b.1 in
    let d = of-both-none _ _ c.1 in
    let e = of-both-none _ _ d.1 in
    let f = of-both-none _ _ e.1 in
    let g = of-both-none _ _ f.1 in
    let i = of-both-none _ _ g.1 in
    let j = of-both-none _ _ i.1 in
    record { items = a.0; txns = b.0; prios = c.0; times = d.0; written = e.0; alone = f.0; acyclic = g.0; sets = i.0; together = j.0 }

none-first : {A : Type 0} (o p : Option A) → o ≡ None → first_of_both o p ≡ p
none-first o p h = rw h refl

pub passed-to : (set : Set) → IsPassed set → compile_refusal set ≡ None
unfolding compile_refusal
passed-to set h =
    none-first _ _ h.items ∙
    (none-first _ _ h.txns ∙
    (none-first _ _ h.prios ∙
    (none-first _ _ h.times ∙
    (none-first _ _ h.written ∙ (none-first _ _ h.alone ∙ (none-first _ _ h.acyclic ∙ (none-first _ _ h.sets ∙ none-first _ _ h.together)))))))

pub compiled-from : (set : Set) → AreLists set → IsPassed set → IsCompiled set
compiled-from set lists h = record {
  few_items = few-from 256 (length set.items) (TooManyItems (length set.items)) h.items;
  few_txns = few-from 64 (length set.txns) (TooManyTxns (length set.txns)) h.txns;
  few_together = few-from 64 (length set.together) (TooManySets (length set.together)) h.sets;
  times = times-from set.txns h.times;
  prios = prios-from set.txns h.prios;
  reads = lists.reads;
  writes = lists.writes;
  written = written-from set h.written h.alone;
  acyclic = acyclic-from set h.acyclic;
  together = lists.together;
  together_size = sizes-from set.items set.together h.together;
  together_dated = dated-from set.items set.together h.together;
}

pub passed-of : (set : Set) → IsCompiled set → IsPassed set
passed-of set c = record {
  items = few-to 256 (length set.items) (TooManyItems (length set.items)) c.few_items;
  txns = few-to 64 (length set.txns) (TooManyTxns (length set.txns)) c.few_txns;
  prios = prios-to set.txns c.prios;
  times = times-to set.txns c.times;
  written = no-writer-all set c.written;
  alone = two-writers-all set c.written;
  acyclic = acyclic-to set c.acyclic;
  sets = few-to 64 (length set.together) (TooManySets (length set.together)) c.few_together;
  together = together-to set.items set.together c.together_size c.together_dated;
}

pub compiled-unless-refused : CompiledUnlessRefused
compiled-unless-refused set lists = (λ h. compiled-from set lists (passed-from set h), λ c. passed-to set (passed-of set c))

-- the rules on items and transactions, and those on relative sets
pub two-groups : {A : Type 0} (a b c d e f g h i : Option A) → first_some (a ∷ b ∷ c ∷ d ∷ e ∷ f ∷ g ∷ h ∷ i ∷ []) ≡ first_of_both (first_some (a ∷ b ∷ c ∷ d ∷ e ∷ f ∷ g ∷ [])) (first_of_both h i)
two-groups (Some x) b c d e f g h i = refl
two-groups None (Some x) c d e f g h i = refl
two-groups None None (Some x) d e f g h i = refl
two-groups None None None (Some x) e f g h i = refl
two-groups None None None None (Some x) f g h i = refl
two-groups None None None None None (Some x) g h i = refl
two-groups None None None None None None (Some x) h i = refl
two-groups None None None None None None None (Some x) i = refl
two-groups None None None None None None None None (Some x) = refl
two-groups None None None None None None None None None = refl

pub three-groups : {A : Type 0} (a b c d e f g : Option A) → first_some (a ∷ b ∷ c ∷ d ∷ e ∷ f ∷ g ∷ []) ≡ first_of_both (first_some (a ∷ b ∷ [])) (first_of_both (first_some (c ∷ d ∷ [])) (first_some (e ∷ f ∷ g ∷ [])))
three-groups (Some x) b c d e f g = refl
three-groups None (Some x) c d e f g = refl
three-groups None None (Some x) d e f g = refl
three-groups None None None (Some x) e f g = refl
three-groups None None None None (Some x) f g = refl
three-groups None None None None None (Some x) g = refl
three-groups None None None None None None (Some x) = refl
three-groups None None None None None None None = refl

pub refuses-some : (found : Option CompileError) (e : CompileError) → found ≡ Some e → Refuses found e
refuses-some found OutOfMemory is = tt
refuses-some found other is = is

pub refuses-first : (found rest : Option CompileError) (e : CompileError) → Refuses found e → Refuses (first_of_both found rest) e
refuses-first found rest (TooManyItems count) is = rw is refl
refuses-first found rest (TooManyTxns count) is = rw is refl
refuses-first found rest (SamePrio a b) is = rw is refl
refuses-first found rest (BadTimes tx which) is = rw is refl
refuses-first found rest (NoWriter item) is = rw is refl
refuses-first found rest (TwoWriters item a b) is = rw is refl
refuses-first found rest (CyclicDerivation item) is = rw is refl
refuses-first found rest OutOfMemory is = tt
refuses-first found rest (TooManySets count) is = rw is refl
refuses-first found rest (BadTogether place) is = rw is refl
