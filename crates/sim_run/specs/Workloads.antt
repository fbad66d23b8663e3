-- The workload of a set, of bodies and of release ticks, and when its run meets no refusal but Blocked.
use Rattle.std.specs.Prelude.{◌≡◌, ℕ, ◌+◌, ◌^◌, ◌≤◌, ◌<◌, true, List, [], ◌∷◌, map, length, Some, slice_index_or}
use Rattle.std.specs.List.{sum}
use Rattle.rt_base.specs.declared.operation.Op.TheVariants.{Compute}
use Rattle.txn_set.specs.Set.{Set, txn_of}
use Rattle.step_journal.specs.declared.entry.Entry.{Entry}
use Rattle.step_journal.specs.State.{Row}
use Rattle.step_journal.specs.Running.{running}
use Rattle.step_journal.specs.Step.{may_ask}
use Rattle.step_journal.specs.History.{IsLegal, state_of}
use Rattle.law_histories.specs.Sim.{Body, Workload, IsScriptRun, op_asked}

-- the body of a transaction; where there is none it computes for ever
abbrev pub body_of : List Body → ℕ → Body
body_of bodies tx = slice_index_or bodies tx (λ serial outcomes. Compute)

abbrev pub workload : Set → List Body → List (List ℕ) → Workload
workload set bodies releases = record { set = set; bodies = body_of bodies; releases = releases }

-- the release ticks of a transaction
abbrev pub ticks_of : List (List ℕ) → ℕ → List ℕ
ticks_of releases tx = slice_index_or releases tx []

-- each tick is at most 2^40 and at least a period after the one before, and the first is at least `from`
abbrev pub AreSpaced : ℕ → ℕ → List ℕ → Type 0
AreSpaced period from [] = Unit {0}
AreSpaced period from (tick ∷ rest) = (from ≤ tick) × (tick ≤ 2 ^ 40) × AreSpaced period (tick + period) rest

-- The releases can all be planned at tick 0: one list for each transaction, each spaced by its period, and at most
-- 65,536 in all.
pub record AreAccepted (set : Set) (releases : List (List ℕ)) : Type 0 where
  pub each : length releases ≡ length set.txns
  pub spaced : (tx : ℕ) → tx < length set.txns → AreSpaced (txn_of set tx).period 0 (ticks_of releases tx)
  pub few : sum (map length releases) ≤ 65536

-- after this history what the running job's body asks for may be asked: it is declared, comes after the quiet steps,
-- and leaves no item unwritten
abbrev pub ObeysAt : Workload → List Entry → Type 0
ObeysAt w before =
    (row : Row) → running w.set (state_of w.set before).rows ≡ Some row
    → may_ask w.set row (op_asked w before row.job) ≡ true

-- the bodies ask for nothing but what may be asked, in each legal history that is a script run
abbrev pub IsObedient : Workload → Type 0
IsObedient w = (before : List Entry) → IsLegal w.set before → IsScriptRun w before → ObeysAt w before
