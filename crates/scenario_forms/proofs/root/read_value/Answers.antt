use Rattle.std.proofs.Common.{rules, add-one}
use Rattle.serde_json.specs.Errors.{IsMemory}
use Rattle.scenario_forms.proofs.Json.{some_data, no_data}
use Rattle.scenario_forms.proofs.Sizes.{read_size}
use Rattle.scenario_forms.proofs.root.read_value.Goals as goal

pub returns-in-Ok-clause-value : goal.returns-in-Ok-clause-value
returns-in-Ok-clause-value c = some_data _ _ c.in-Ok.ensures.ok.0 c.in-Ok.ensures.ok.1

pub returns-else-is_memory-clause-none : goal.returns-else-is_memory-clause-none
returns-else-is_memory-clause-none c =
    let other : ¬ IsMemory c.in-Err.e = search rules in
    λ _. no_data _ (c.in-Err.ensures.err other)

pub returns-in-Ok-clause-small : goal.returns-in-Ok-clause-small
returns-in-Ok-clause-small c = rw add-one (read_size _ _ c.in-Ok.ensures.ok.1)
