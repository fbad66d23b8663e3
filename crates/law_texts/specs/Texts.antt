-- What is read of a text as a scenario, by definition.
use Rattle.std.specs.Prelude.{◌≡◌, ℕ, ◌≤◌, List, Ok}
use Rattle.step_script.specs.Shown.{Shown}
use Rattle.step_script.specs.Scenarios.{IsScenario}
use Rattle.scenario_reader.specs.Reading.{data_of, scenario_in}
use Rattle.scenario_writer.specs.Generated.{generated_of}
use Rattle.scenario_writer.specs.Integers.{HasIntegers}

-- it is a scenario that nothing refuses
abbrev pub ReadIsScenario : Type 0
ReadIsScenario = (bytes : List ℕ) (s : Shown) → scenario_in (data_of bytes) ≡ Ok s → IsScenario s

-- its integers are of 64 bits, since the data of a text have no others
abbrev pub ReadHasIntegers : Type 0
ReadHasIntegers = (bytes : List ℕ) (s : Shown) → scenario_in (data_of bytes) ≡ Ok s → HasIntegers s

-- and so are those of the generated scenarios
abbrev pub GeneratedHasIntegers : Type 0
GeneratedHasIntegers = (n : ℕ) → n ≤ 64 → HasIntegers (generated_of n)
