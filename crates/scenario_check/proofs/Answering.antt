-- The answer to a verdict.
use Rattle.std.proofs.Common.{◌≡◌, ℕ, Bool, List, [], Option, Some, Result, Ok, Err, sym, ap, subst, ◌∙◌}
use Rattle.serde_json.specs.Data.{Data}
use Rattle.rt_base.specs.declared.name.Names.{Names}
use Rattle.io_edge.specs.declared.status.Status.{Status}
use Rattle.step_script.specs.Shown.{Shown}
use Rattle.scenario_reader.specs.declared.error.ScenarioError.{ScenarioError}
use Rattle.scenario_reader.specs.Reading.{data_of, scenario_in}
use Rattle.scenario_check.specs.declared.kinds.Warning.{Warning}
use Rattle.scenario_check.specs.declared.found.Refusal.{Refusal}
use Rattle.scenario_check.specs.declared.found.Refusal.TheVariants.{Scenario}
use Rattle.scenario_check.specs.declared.found.Verdict.{Verdict}
use Rattle.scenario_check.specs.declared.found.Verdict.TheVariants.{Faulty, Judged}
use Rattle.scenario_check.specs.Verdicts.{refusal_of, told_warnings, no_names, names_by, names_in, IsVerdictOn, IsVerdictIn, IsVerdict}
use Rattle.scenario_check.specs.Findings.{AreLines, CheckReply, AnswersVerdict, status_of}

pub verdict_read : (trial : Bool) (d : Option Data) (s : Shown) (v : Verdict) → scenario_in d ≡ Ok s → IsVerdictOn trial s v
    → IsVerdict trial d v
verdict_read trial d s (Judged names why warnings) is (named, refused, warned) = (
  named ∙ sym (ap (λ (r : Result Shown ScenarioError). names_by r d) is),
  refused ∙ sym (ap (λ (r : Result Shown ScenarioError). refusal_of trial r) is),
  warned ∙ sym (ap (λ (r : Result Shown ScenarioError). told_warnings r) is),
)
verdict_read trial d s (Faulty _) is x3 = elim x3 [ ]

pub verdict_unread : (trial : Bool) (d : Option Data) (e : ScenarioError) (v : Verdict) → scenario_in d ≡ Err e
    → IsVerdictIn e d v → IsVerdict trial d v
verdict_unread trial d e (Faulty error) is (same, named) = (
  ap (λ (r : Result Shown ScenarioError). refusal_of trial r) is ∙ ap (λ (x : ScenarioError). Some (Scenario x)) (sym same),
  ap (λ (r : Result Shown ScenarioError). told_warnings r) is,
  ap (λ (r : Result Shown ScenarioError). names_by r d) is ∙ named,
)
verdict_unread trial d e (Judged names why warnings) is (named, refused, warned) = (
  named ∙ sym (ap (λ (r : Result Shown ScenarioError). names_by r d) is),
  refused ∙ sym (ap (λ (r : Result Shown ScenarioError). refusal_of trial r) is),
  warned ∙ sym (ap (λ (r : Result Shown ScenarioError). told_warnings r) is),
)

-- lines on one refusal, warnings and names are lines on others that are the same
same_lines : (r q : Option Refusal) (ws vs : List Warning) (n m : Names) (text : List ℕ) → r ≡ q → ws ≡ vs → n ≡ m
    → AreLines r ws n text → AreLines q vs m text
same_lines r q ws vs n m text why warned named lines =
    subst (λ (x : Option Refusal). AreLines x vs m text) why
    (subst (λ (x : List Warning). AreLines r x m text) warned (subst (λ (x : Names). AreLines r ws x text) named lines))

pub answers : (trial : Bool) (input : List ℕ) (v : Verdict) (status : Status) (text : List ℕ)
    → IsVerdict trial (data_of input) v → AnswersVerdict v status text → CheckReply trial input status text
answers trial input (Faulty error) status text (why, warned, named) (st, lines) = record {
  answered = st ∙ sym (ap status_of why);
  lines = same_lines (Some (Scenario error)) (refusal_of trial (scenario_in (data_of input))) []
      (told_warnings (scenario_in (data_of input))) no_names (names_in (data_of input)) text (sym why) (sym warned)
      (sym named) lines;
}
answers trial input (Judged names refusal warnings) status text (named, why, warned) (st, lines) = record {
  answered = st ∙ ap status_of why;
  lines = same_lines refusal (refusal_of trial (scenario_in (data_of input))) warnings.items
      (told_warnings (scenario_in (data_of input))) names (names_in (data_of input)) text why warned named lines;
}
