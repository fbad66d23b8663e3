-- A set that is not refused is admitted, or memory runs out.
use Rattle.std.proofs.Common.{◌≡◌, Bool, true, false, Option, Some, None, refl, ap, ◌∙◌}
use Rattle.std.specs.Option.{option_map}
use Rattle.item_model.specs.Work.{first_of_both}
use Rattle.txn_set.specs.Set.{Set}
use Rattle.txn_compiler.specs.Refusal.{compile_refusal}
use Rattle.set_admission.specs.declared.error.AdmitError.{AdmitError}
use Rattle.set_admission.specs.declared.error.AdmitError.TheVariants as admitting
use Rattle.set_admission.specs.Admission.{Refuses, refusal}
use Rattle.report_text.specs.declared.read.Head.{Head}
use Rattle.report_text.specs.IsHead.{set_of}
use Rattle.run_report.specs.declared.verdict.SetError.{SetError}
use Rattle.run_report.specs.declared.verdict.SetError.TheVariants.{Compile, Admit}
use Rattle.run_report.specs.Verdict.{set_refusal, refusal_in}

-- of two that are both none, the second
second_none : (o p : Option SetError) → first_of_both o p ≡ None → p ≡ None
second_none None p e = e
second_none (Some x) p e = absurd cc

pub not_refused_in : (head : Head) (set : Set) → set ≡ set_of head → set_refusal head ≡ None → refusal_in head.admitted set ≡ None
not_refused_in head set is none =
    ap (λ (s : Set). refusal_in head.admitted s) is
    ∙ second_none (option_map (λ error. Compile error) (compile_refusal (set_of head))) (refusal_in head.admitted (set_of head)) none

none_found : (found : Option AdmitError) → option_map (λ error. Admit error) found ≡ None → found ≡ None
none_found None e = refl
none_found (Some x) e = absurd cc

no_refusal : (found : Option AdmitError) (e : AdmitError) → found ≡ None → found ≡ Some e → ⊥
no_refusal found e none some = absurd cc

wants : (found : Option AdmitError) (e : AdmitError) → found ≡ None → Refuses found e → e ≡ admitting.OutOfMemory
wants found (admitting.NotSchedulable tx demand) none h = absurd (no_refusal found _ none h)
wants found (admitting.TooOld tx item age) none h = absurd (no_refusal found _ none h)
wants found admitting.OutOfMemory none h = refl
wants found (admitting.TooApart tx place age) none h = absurd (no_refusal found _ none h)

pub admitting_wants : (admitted : Bool) (set : Set) (e : AdmitError) → admitted ≡ true → refusal_in admitted set ≡ None
    → Refuses (refusal set) e → e ≡ admitting.OutOfMemory
admitting_wants true set e is none h = wants (refusal set) e (none_found (refusal set) none) h
admitting_wants false set e is none h = absurd cc
