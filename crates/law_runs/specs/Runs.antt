-- The workload of a scenario, and that a board may run it.
use Rattle.std.specs.Prelude.{ℕ, ◌≤◌, map, length}
use Rattle.txn_set.specs.Set.{IsCompiled}
use Rattle.step_script.specs.Scripts.{next_of}
use Rattle.law_histories.specs.Counting.{room_of_jobs}
use Rattle.law_histories.specs.Sim.{Workload}
use Rattle.sim_run.specs.Workloads.{workload, ticks_of, AreAccepted, IsObedient}
use Rattle.step_script.specs.Shown.{Shown, set_of}
use Rattle.step_script.specs.Releases.{fixed_ticks}
use Rattle.step_script.specs.Scenarios.{IsScenario}

-- its set, the functions of its scripts, and its fixed releases
abbrev pub workload_of : Shown → Workload
workload_of s = workload (set_of s) (map next_of s.programs) (fixed_ticks s.txns s.releases)

-- what the scripts ask for may be asked: it is declared, comes after the quiet steps, and leaves no item unwritten
abbrev pub ScriptsObey : Type 0
ScriptsObey = (s : Shown) → IsScenario s → IsCompiled (set_of s) → IsObedient (workload_of s)

-- its fixed releases can all be planned at tick 0
abbrev pub ReleasesAreAccepted : Type 0
ReleasesAreAccepted = (s : Shown) → IsScenario s → AreAccepted (set_of s) (fixed_ticks s.txns s.releases)

-- its room is enough for the entries of its fixed releases
abbrev pub RoomIsEnough : Type 0
RoomIsEnough =
    (s : Shown) → IsScenario s
    → room_of_jobs s.txns (λ tx. length (ticks_of (fixed_ticks s.txns s.releases) tx)) ≤ s.room
