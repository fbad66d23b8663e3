-- The declarations of a scenario are compiled as they are.
use Rattle.std.proofs.Common.{◌≡◌, ◌≢◌, List, Option, None, Some, refl, ap, sym, subst, ◌∙◌}
use Rattle.rt_base.specs.declared.ids.TogetherDecl.{TogetherDecl}
use Rattle.rt_base.specs.declared.name.Names.{Names}
use Rattle.item_model.specs.declared.decl.ItemDecl.{ItemDecl}
use Rattle.txn_set.specs.declared.decl.TxnDecl.{TxnDecl}
use Rattle.txn_set.specs.Set.{Set, IsCompiled}
use Rattle.txn_compiler.specs.declared.error.CompileError.{CompileError}
use Rattle.txn_compiler.specs.declared.error.CompileError.TheVariants.{OutOfMemory}
use Rattle.txn_compiler.specs.Kept.{AreLists, IsInRange, kept}
use Rattle.txn_compiler.specs.Refusal.{compile_refusal, Refuses}
use Rattle.txn_compiler.proofs.Keeping.{kept-as-declared}
use Rattle.txn_compiler.proofs.Verdict.{compiled-unless-refused}
use Rattle.report_text.specs.Texts.{NamesSet}
use Rattle.step_script.specs.Shown.{Shown, set_of}
use Rattle.step_script.specs.Scenarios.{IsScenario}
use Rattle.scale_margin.proofs.Looks.{lists_in_range as in_range}

pub lists : (s : Shown) → IsScenario s → AreLists (set_of s)
lists s is = record { reads = is.reads; writes = is.writes; together = is.together }

pub is_compiled : (s : Shown) → IsScenario s → compile_refusal (set_of s) ≡ None → IsCompiled (set_of s)
is_compiled s is none = (compiled-unless-refused (set_of s) (lists s is)).0 none

-- the names of a scenario are those of its set
pub names_set : (s : Shown) (names : Names) (set : Set) → IsScenario s → names ≡ s.names → set ≡ set_of s → NamesSet names set
names_set s names set is e f =
    subst (λ (n : Names). NamesSet n set) (sym e) (subst (NamesSet s.names) (sym f) (record { items = is.named_items; txns = is.named_txns }))

abbrev set_from : List ItemDecl → List TxnDecl → List TogetherDecl → Set
set_from items txns together = record { items = items; txns = txns; together = together }

same_set : (a a' : List ItemDecl) (b b' : List TxnDecl) (c c' : List TogetherDecl) → a ≡ a' → b ≡ b' → c ≡ c' → set_from a b c ≡ set_from a' b' c'
same_set a a' b b' c c' e f g =
    ap (λ (l : List ItemDecl). set_from l b c) e ∙ (ap (λ (l : List TxnDecl). set_from a' l c) f ∙ ap (λ (l : List TogetherDecl). set_from a' b' l) g)

-- what is compiled: the declared lists, taken out of what held them
pub in_range_from : (a a' : List ItemDecl) (b b' : List TxnDecl) (c c' : List TogetherDecl) → a ≡ a' → b ≡ b' → c ≡ c' → AreLists (set_from a' b' c') → IsInRange (set_from a b c)
in_range_from a a' b b' c c' e f g ok = in_range (set_from a b c) (subst AreLists (sym (same_set a a' b b' c c' e f g)) ok)

pub kept_from : (a a' : List ItemDecl) (b b' : List TxnDecl) (c c' : List TogetherDecl) → a ≡ a' → b ≡ b' → c ≡ c' → AreLists (set_from a' b' c') → kept (set_from a b c) ≡ set_from a' b' c'
kept_from a a' b b' c c' e f g ok =
    let same = same_set a a' b b' c c' e f g in
    kept-as-declared (set_from a b c) (subst AreLists (sym same) ok) ∙ same

-- an error other than want of memory is the refusal
pub is_refusal : (found : Option CompileError) (e : CompileError) → e ≢ OutOfMemory → Refuses found e → found ≡ Some e
is_refusal found OutOfMemory n r = absurd (n refl)
is_refusal found e n r = r
