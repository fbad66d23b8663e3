-- A run of computes that is not yet written.
use Rattle.std.specs.Prelude.{ℕ, zero, suc, List, [], ◌∷◌, map, codes, Option, Some, None}
use Rattle.step_script.specs.Scripts.{Operation, read, write, compute, commit, quit}
use Rattle.serde_json.specs.Data.{Data}
use Rattle.scenario_writer.specs.Canonical.{one, whole, op_data, merged_ops}

-- how many computes an operation stands for
abbrev pub computes_of : Operation → Option ℕ
computes_of (read i) = None
computes_of (write i value) = None
computes_of (compute n) = Some n
computes_of commit = None
computes_of quit = None

-- the operations with a run of so many computes before them
abbrev pub with_run : ℕ → List Operation → List Operation
with_run zero ops = ops
with_run (suc n) ops = compute (suc n) ∷ ops

abbrev pub run_before : List (List ℕ) → ℕ → List Operation → List Data
run_before names n ops = map (op_data names) (merged_ops (with_run n ops))

abbrev pub run_data : ℕ → List Data
run_data zero = []
run_data (suc n) = one (codes "compute") (whole (suc n)) ∷ []
