-- Why a scenario is refused, and the warnings of one that is read.
use Rattle.std.specs.Prelude.{◌≡◌, nat_le, ◌&&◌, Bool, true, false, if◌then◌else◌, List, [], length, Option, Some, None, option_map, Result, Ok, Err}
use Rattle.std.specs.Option.{option_or}
use Rattle.rt_base.specs.declared.name.Names.{Names}
use Rattle.serde_json.specs.Data.{Data}
use Rattle.txn_set.specs.Set.{Set}
use Rattle.step_script.specs.Shown.{Shown, set_of}
use Rattle.scenario_reader.specs.declared.error.ScenarioError.{ScenarioError}
use Rattle.scenario_reader.specs.declared.error.ScenarioError.TheVariants.{BadRelease}
use Rattle.scenario_reader.specs.Reading.{scenario_in}
use Rattle.txn_compiler.specs.Refusal.{compile_refusal}
use Rattle.set_admission.specs.Admission.{refusal}
use Rattle.command_replies.specs.Scenarios.{names_in as declared_names}
use Rattle.scenario_check.specs.declared.kinds.Warning.{Warning}
use Rattle.scenario_check.specs.Warnings.{warnings_of}
use Rattle.scenario_check.specs.declared.found.Refusal.{Refusal}
use Rattle.scenario_check.specs.declared.found.Refusal.TheVariants.{Scenario, Compile, Admit}
use Rattle.scenario_check.specs.declared.found.Verdict.{Verdict}
use Rattle.scenario_check.specs.declared.found.Verdict.TheVariants.{Faulty, Judged}

-- a trial is not refused for want of admission
abbrev pub admit_refusal : Bool → Set → Option Refusal
admit_refusal true set = None
admit_refusal false set = option_map Admit (refusal set)

abbrev pub set_refusal : Bool → Set → Option Refusal
set_refusal trial set = option_or (option_map Compile (compile_refusal set)) (admit_refusal trial set)

-- why `run`, or `run --trial`, refuses what was read, and None if it does not
abbrev pub refusal_of : Bool → Result Shown ScenarioError → Option Refusal
refusal_of trial (Ok s) = set_refusal trial (set_of s)
refusal_of trial (Err e) = Some (Scenario e)

-- no more items and transactions than a set may have
abbrev pub is_small : Shown → Bool
is_small s = nat_le (length s.items) 256 && nat_le (length s.txns) 64

abbrev pub told_warnings : Result Shown ScenarioError → List Warning
told_warnings (Ok s) = if is_small s then warnings_of s else []
told_warnings (Err e) = []

abbrev pub no_names : Names
no_names = record { items = []; txns = [] }

-- The names that the words of a refusal or warning need: those of a scenario that is read, and those of the forms if a release
-- is refused.
abbrev pub names_by : Result Shown ScenarioError → Option Data → Names
names_by (Ok s) d = s.names
names_by (Err (BadRelease tx index cause)) d = declared_names d
names_by (Err e) d = no_names

abbrev pub names_in : Option Data → Names
names_in d = names_by (scenario_in d) d

-- what is said of a scenario that is read
abbrev pub IsVerdictOn : Bool → Shown → Verdict → Type 0
IsVerdictOn trial s (Faulty error) = ⊥
IsVerdictOn trial s (Judged names why warnings) =
    (names ≡ s.names) × (why ≡ set_refusal trial (set_of s)) × (warnings.items ≡ told_warnings (Ok s))

-- what is said where this refuses the scenario before its set is looked at
abbrev pub IsVerdictIn : ScenarioError → Option Data → Verdict → Type 0
IsVerdictIn e d (Faulty error) = (error ≡ e) × (names_by (Err e) d ≡ no_names)
IsVerdictIn e d (Judged names why warnings) =
    (names ≡ names_by (Err e) d) × (why ≡ Some (Scenario e)) × (warnings.items ≡ [])

-- what is said of a text
abbrev pub IsVerdict : Bool → Option Data → Verdict → Type 0
IsVerdict trial d (Faulty error) =
    (refusal_of trial (scenario_in d) ≡ Some (Scenario error)) × (told_warnings (scenario_in d) ≡ [])
    × (names_in d ≡ no_names)
IsVerdict trial d (Judged names why warnings) =
    (names ≡ names_in d) × (why ≡ refusal_of trial (scenario_in d)) × (warnings.items ≡ told_warnings (scenario_in d))
