-- The answer to the bytes of a scenario.
use Rattle.std.specs.Prelude.{◌≡◌, ℕ, List, [], length, nat_lt, false, Option, Some, None, Result, Ok, Err}
use Rattle.rt_base.specs.declared.name.Names.{Names}
use Rattle.serde_json.specs.Data.{Data}
use Rattle.scenario_forms.specs.declared.error.FormError.{FormError}
use Rattle.scenario_forms.specs.Root.{Formed, forms_at}
use Rattle.step_script.specs.Shown.{Shown}
use Rattle.step_script.specs.Scenarios.{IsScenario}
use Rattle.scenario_reader.specs.declared.error.ScenarioError.{ScenarioError}
use Rattle.scenario_reader.specs.Reading.{data_of, scenario_in}
use Rattle.refusal_lines.specs.Causes.{scenario_cause}
use Rattle.io_edge.specs.declared.status.Status.{Status}
use Rattle.command_replies.specs.Replies.{Reply, Refused}
use Rattle.command_replies.specs.Taken.{scenario_limit, TakesAll, InputReply}

-- the names of the items and transactions that were read
abbrev pub names_of_forms : Result Formed FormError → Names
names_of_forms (Ok f) = record { items = f.items.names; txns = f.txns.names }
names_of_forms (Err e) = record { items = []; txns = [] }

abbrev pub names_in : Option Data → Names
names_in None = record { items = []; txns = [] }
names_in (Some d) = names_of_forms (forms_at d)

-- the scenario is read, or the line of the first refusal
abbrev pub Reading : (Shown → Reply) → Names → Result Shown ScenarioError → Reply
Reading goes names (Ok s) status text = goes s status text
Reading goes names (Err e) status text = Refused (scenario_cause names e) status text

abbrev pub DataReply : (Shown → Reply) → Option Data → Reply
DataReply goes d = Reading goes (names_in d) (scenario_in d)

-- the answer to the bytes of a scenario
abbrev pub AskedReply : (Shown → Reply) → List ℕ → Reply
AskedReply goes input = InputReply (DataReply goes (data_of input)) (nat_lt scenario_limit (length input))

-- the scenario that was read of the input that was taken
pub record IsReadFrom (old new : Option (List ℕ)) (s : Shown) : Type 0 where
  pub is : IsScenario s
  pub input : List ℕ
  pub took : TakesAll scenario_limit old new input
  pub short : nat_lt scenario_limit (length input) ≡ false
  pub read : scenario_in (data_of input) ≡ Ok s

-- the first refusal of the data, and its line
pub record IsRefused (d : Option Data) (status : Status) (text : List ℕ) : Type 0 where
  pub error : ScenarioError
  pub is : scenario_in d ≡ Err error
  pub reply : Refused (scenario_cause (names_in d) error) status text

-- why no scenario was read of the input that was taken
pub record IsRefusedFrom (old new : Option (List ℕ)) (status : Status) (text : List ℕ) : Type 0 where
  pub input : List ℕ
  pub took : TakesAll scenario_limit old new input
  pub reply : InputReply (IsRefused (data_of input)) (nat_lt scenario_limit (length input)) status text
