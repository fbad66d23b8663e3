-- Why a scenario is refused, from what was found of it.
use Rattle.std.proofs.Common.{◌≡◌, Bool, true, false, List, [], Option, Some, None, Ok, sym, ap, ◌∙◌}
use Rattle.std.specs.Prelude.{if◌then◌else◌}
use Rattle.std.specs.Option.{option_or, option_map}
use Rattle.txn_set.specs.Set.{Set}
use Rattle.txn_compiler.specs.Refusal.{compile_refusal}
use Rattle.txn_compiler.specs.declared.error.CompileError.{CompileError}
use Rattle.set_admission.specs.Admission.{refusal}
use Rattle.set_admission.specs.declared.error.AdmitError.{AdmitError}
use Rattle.step_script.specs.Shown.{Shown}
use Rattle.scenario_check.specs.declared.kinds.Warning.{Warning}
use Rattle.scenario_check.specs.Warnings.{warnings_of}
use Rattle.scenario_check.specs.declared.found.Refusal.TheVariants.{Compile, Admit}
use Rattle.scenario_check.specs.Verdicts.{admit_refusal, set_refusal, is_small, told_warnings}

pub trial_passes : (trial : Bool) (set : Set) → trial ≡ true → admit_refusal trial set ≡ None
trial_passes trial set is = ap (λ (b : Bool). admit_refusal b set) is

pub is_admitted : (trial : Bool) (set : Set) → trial ≡ false → refusal set ≡ None → admit_refusal trial set ≡ None
is_admitted trial set is none = ap (λ (b : Bool). admit_refusal b set) is ∙ ap (option_map Admit) none

pub is_not_admitted : (trial : Bool) (set : Set) (e : AdmitError) → trial ≡ false → refusal set ≡ Some e
    → admit_refusal trial set ≡ Some (Admit e)
is_not_admitted trial set e is some = ap (λ (b : Bool). admit_refusal b set) is ∙ ap (option_map Admit) some

pub compiles : (trial : Bool) (set declared : Set) → set ≡ declared → compile_refusal declared ≡ None
    → set_refusal trial declared ≡ admit_refusal trial set
compiles trial set declared same none =
    ap (λ (o : Option CompileError). option_or (option_map Compile o) (admit_refusal trial declared)) none
    ∙ sym (ap (admit_refusal trial) same)

pub is_not_compiled : (trial : Bool) (declared : Set) (e : CompileError) → compile_refusal declared ≡ Some e
    → set_refusal trial declared ≡ Some (Compile e)
is_not_compiled trial declared e some =
    ap (λ (o : Option CompileError). option_or (option_map Compile o) (admit_refusal trial declared)) some

pub small_told : (s : Shown) → is_small s ≡ true → told_warnings (Ok s) ≡ warnings_of s
small_told s is = ap (λ (b : Bool). if◌then◌else◌ {A = List Warning} b (warnings_of s) []) is

pub large_told : (s : Shown) → is_small s ≡ false → told_warnings (Ok s) ≡ []
large_told s is = ap (λ (b : Bool). if◌then◌else◌ {A = List Warning} b (warnings_of s) []) is
