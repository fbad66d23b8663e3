use Rattle.law_texts.proofs.Scenarios.{read_is_scenario}
use Rattle.law_texts.proofs.read_back.read_is_scenario.Goals as goal

pub returns : goal.returns
returns c = read_is_scenario
