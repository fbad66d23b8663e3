-- The scenario of a text, or the first refusal.
use Rattle.std.specs.Prelude.{ℕ, option_map, Option, Some, None, Result, Ok, Err}
use Rattle.serde_json.specs.Data.{Data}
pub use Rattle.scenario_forms.specs.Reading.{data_of}
use Rattle.scenario_forms.specs.Root.{Formed, forms_at}
use Rattle.step_script.specs.Shown.{Shown}
use Rattle.scenario_reader.specs.declared.error.ScenarioError.{ScenarioError}
use Rattle.scenario_reader.specs.declared.error.ScenarioError.TheVariants.{NotJson, UnknownName}
use Rattle.scenario_reader.specs.Refusals.{◌>>=◌, pass, formed}
use Rattle.scenario_reader.specs.Unknown.{unknown_name}
use Rattle.scenario_reader.specs.Made.{made_of, with_room}
use Rattle.scenario_reader.specs.Judged.{judged}

-- The scenario of forms: every name is an item's, and then the whole is judged.
unfoldable pub scenario_from : Formed → Result Shown ScenarioError
scenario_from f = do
  known ← pass (option_map UnknownName (unknown_name f))
  room ← judged (made_of f)
  Ok (with_room room (made_of f))

-- The scenario of a JSON value: all forms come first.
unfoldable pub scenario_of : Data → Result Shown ScenarioError
scenario_of d = formed (forms_at d) >>= scenario_from

-- the same, where the bytes may have no reading
abbrev pub scenario_in : Option Data → Result Shown ScenarioError
scenario_in None = Err NotJson
scenario_in (Some d) = scenario_of d
