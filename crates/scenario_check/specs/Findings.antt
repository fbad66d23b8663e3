-- What `check` answers.
use Rattle.std.specs.Prelude.{◌≡◌, ℕ, Bool, true, List, [], ◌++◌, map, Option, Some, None, IsPermutation}
use Rattle.std.specs.List.{All, Contains}
use Rattle.serde_json.specs.Data.{Data}
use Rattle.rt_base.specs.declared.name.Names.{Names}
use Rattle.io_edge.specs.declared.status.Status.{Status}
use Rattle.io_edge.specs.declared.status.Status.TheVariants as statuses
use Rattle.scenario_reader.specs.Reading.{data_of, scenario_in}
use Rattle.scenario_check.specs.declared.kinds.Warning.{Warning}
use Rattle.scenario_check.specs.declared.found.Finding.{Finding}
use Rattle.scenario_check.specs.declared.found.Refusal.{Refusal}
use Rattle.scenario_check.specs.declared.found.Refusal.TheVariants.{Scenario}
use Rattle.scenario_check.specs.declared.found.What.{What}
use Rattle.scenario_check.specs.declared.found.What.TheVariants.{Refused, Repeated, Warned}
use Rattle.scenario_check.specs.declared.found.Verdict.{Verdict}
use Rattle.scenario_check.specs.declared.found.Verdict.TheVariants.{Faulty, Judged}
use Rattle.scenario_check.specs.Verdicts.{refusal_of, told_warnings, no_names, names_in}
use Rattle.scenario_check.specs.Texts.{line_of, lines_of}

-- something for which a scenario is refused, or a repeated member
abbrev pub IsNoWarning : What → Type 0
IsNoWarning (Refused refusal) = Unit {0}
IsNoWarning Repeated = Unit {0}
IsNoWarning (Warned warning) = ⊥

abbrev pub IsRepeated : What → Type 0
IsRepeated (Refused refusal) = ⊥
IsRepeated Repeated = Unit {0}
IsRepeated (Warned warning) = ⊥

-- what is told beside warnings: the refusal is among it, and without one it is repeated members alone
abbrev pub AreOthers : Option Refusal → List What → Type 0
AreOthers None others = All IsRepeated others
AreOthers (Some refusal) others = All IsNoWarning others × Contains others (Refused refusal)

-- what is told, in whatever order: each of these warnings, once, and others
pub record AreToldBy (refusal : Option Refusal) (warnings : List Warning) (told : List What) : Type 0 where
  pub others : List What
  pub are : AreOthers refusal others
  pub order : IsPermutation (others ++ map Warned warnings) told

abbrev pub what : Finding → What
what f = f.what

-- a line for each finding
pub record AreLines (refusal : Option Refusal) (warnings : List Warning) (names : Names) (text : List ℕ) : Type 0 where
  pub findings : List Finding
  pub told : AreToldBy refusal warnings (map what findings)
  pub written : text ≡ lines_of names findings

abbrev pub status_of : Option Refusal → Status
status_of None = statuses.Ok
status_of (Some refusal) = statuses.Refused

abbrev pub AreLinesOn : Bool → Option Data → List ℕ → Type 0
AreLinesOn trial d text =
    AreLines (refusal_of trial (scenario_in d)) (told_warnings (scenario_in d)) (names_in d) text

-- The status is that of a run, and the text has a line for each finding.
pub record CheckReply (trial : Bool) (input : List ℕ) (status : Status) (text : List ℕ) : Type 0 where
  pub answered : status ≡ status_of (refusal_of trial (scenario_in (data_of input)))
  pub lines : AreLinesOn trial (data_of input) text

-- the same of what is said of a text
abbrev pub AnswersVerdict : Verdict → Status → List ℕ → Type 0
AnswersVerdict (Faulty error) status text =
    (status ≡ statuses.Refused) × AreLines (Some (Scenario error)) [] no_names text
AnswersVerdict (Judged names why warnings) status text =
    (status ≡ status_of why) × AreLines why warnings.items names text

-- a line more, of what is told
pub record AddsLine (told : What) (old new : List ℕ) : Type 0 where
  pub finding : Finding
  pub is : finding.what ≡ told
  pub written : new ≡ old ++ line_of no_names finding

-- lines more, of faults and repeated members, and the refusal among them if this holds
pub record Adds (is_told : Bool) (refusal : Refusal) (old new : List ℕ) : Type 0 where
  pub findings : List Finding
  pub others : All IsNoWarning (map what findings)
  pub told : is_told ≡ true → Contains (map what findings) (Refused refusal)
  pub written : new ≡ old ++ lines_of no_names findings
