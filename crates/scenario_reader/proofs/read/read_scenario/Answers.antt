use Rattle.std.specs.Prelude.{Some}
use Rattle.serde_json.specs.View.{view}
use Rattle.scenario_reader.proofs.Meets.{read_well}
use Rattle.scenario_reader.proofs.read.read_scenario.Goals as goal

pub returns-clause-good : goal.returns-clause-good
returns-clause-good c = read_well c.of_value.result (Some (view c.in_ok-value.value)) c.of_value.ensures.read
