-- What a run over a journal leaves of the disk.
use Rattle.std.specs.Prelude.{◌≡◌, ◌⊎◌, ℕ, ◌≤◌, List, [], length, take, Option, IfSome, IsSome, Result, Ok, Err, ⊤}
use Rattle.rt_base.specs.declared.name.Names.{Names}
use Rattle.txn_set.specs.Set.{Set}
use Rattle.step_journal.specs.declared.entry.Entry.{Entry}
use Rattle.law_histories.specs.Sim.{Workload, IsSim}
use Rattle.step_script.specs.Shown.{Shown, set_of}
use Rattle.law_runs.specs.Runs.{workload_of}
use Rattle.durable_disk.specs.Images.{Torn}
use Rattle.durable_disk.specs.Device.{LeavesOnly, WritesWithin}
use Rattle.durable_journal.specs.Log.{OpensAs}
use Rattle.durable_journal.specs.Opened.{IsUnended, HasByteMore, Touches, TouchesAt, with_gate}
use Rattle.durable_journal.specs.declared.log.LogError.{LogError}
use Rattle.scenario_run.specs.Compared.{Begins}
use Rattle.scenario_run.specs.Found.{IsFound}
use Rattle.scenario_run.specs.declared.over.Halt.{Halt}
use Rattle.scenario_run.specs.declared.over.Halt.TheVariants.{Other, Fault}

-- what the making of a journal, begun or whole, leaves of such bytes: others among the first 257
abbrev pub IsBegun : (List ℕ → Type 0) → List ℕ → Type 0
IsBegun was c = (d : List ℕ) × was d × Torn 0 257 d c

-- The bytes are as they were; or, where there were none, a journal was begun to be made; or, where the gate at the end of a good
-- journal was missing, a byte was written there.
abbrev pub IsAsBefore : Names → Set → ℕ → List ℕ → (List ℕ → Type 0) → List ℕ → Type 0
IsAsBefore names set room file was c = was c ⊎ (((file ≡ []) × IsBegun was c) ⊎ (IsUnended names set room file × HasByteMore file c))

-- an image is opened as the first entries of a history, which begin with these
pub record IsFrontWith (names : Names) (set : Set) (there history : List Entry) (image : List ℕ) : Type 0 where
  pub n : ℕ
  pub begins : Begins there (take n history)
  pub opens : OpensAs names set image (take n history)

-- and the history is the run
abbrev pub IsRunFront : Workload → Names → List Entry → List ℕ → Type 0
IsRunFront w names there image = (history : List Entry) × IsSim w history × IsFrontWith names w.set there history image

-- An image is opened as the first entries of the scenario's run, which hold at least what the file had.
pub record GoesOn (s : Shown) (file image : List ℕ) : Type 0 where
  pub there : List Entry
  pub found : IsFound s.names (set_of s) s.room file there
  pub front : IsRunFront (workload_of s) s.names there image

-- what becomes of bytes that were so in the run of a scenario, where a read gave this file
abbrev pub IsKept : Shown → List ℕ → (List ℕ → Type 0) → List ℕ → Type 0
IsKept s file was c = IsAsBefore s.names (set_of s) s.room file was c ⊎ GoesOn s file c

-- Of a disk that told this file: what a read gives is made of the file so, and what a crash leaves, at each moment since, of
-- what it might have left before.
pub record LeavesSo {D : Type 0} (seen : D → Option (List ℕ)) (may_leave : D → List ℕ → Type 0) (moment : D → ℕ) (left_since : D → ℕ → List ℕ → Type 0)
    (becomes : (List ℕ → Type 0) → List ℕ → Type 0) (file : List ℕ) (old new : D) : Type 0 where
  pub reads : IfSome (seen new) (becomes (λ c. c ≡ file))
  pub moments : LeavesOnly moment left_since old new (becomes (may_leave old))

-- the file is as it was, or has a closed gate more at its end
abbrev pub IsSameFile : List ℕ → List ℕ → Type 0
IsSameFile file now = (now ≡ file) ⊎ (now ≡ with_gate file)

-- what making or opening a journal does to a disk
abbrev pub HasMade : {D : Type 0} → (D → Option (List ℕ)) → (D → List ℕ → Type 0) → (D → ℕ) → (D → ℕ → List ℕ → Type 0) → Names → Set → ℕ → List ℕ → D → D → Type 0
HasMade seen may_leave moment left_since names set room file old new =
    ((file ≡ []) × WritesWithin seen may_leave moment left_since 0 257 old new) ⊎ Touches seen may_leave moment left_since names set room file (λ now. now ≡ with_gate file) old new

-- and where it was not made or opened
abbrev pub HasRefused : {D : Type 0} → (D → Option (List ℕ)) → (D → List ℕ → Type 0) → (D → ℕ) → (D → ℕ → List ℕ → Type 0) → Names → Set → ℕ → List ℕ → LogError → D → D → Type 0
HasRefused seen may_leave moment left_since names set room file error old new =
    ((file ≡ []) × WritesWithin seen may_leave moment left_since 0 257 old new) ⊎ TouchesAt seen may_leave moment left_since names set room file error old new

-- What a run over a log leaves: first entries of the run that begin with what the disk had. Where the disk has another entry it
-- is untouched, and where it failed it may be.
abbrev pub LeavesRun : {D T : Type 0} → (D → Option (List ℕ)) → (D → ℕ) → (D → ℕ → List ℕ → Type 0) → Workload → Names → List Entry → D → D → Result T Halt → Type 0
LeavesRun seen moment left_since w names there old new (Ok t) = IsSome (seen old) → LeavesOnly moment left_since old new (IsRunFront w names there)
LeavesRun seen moment left_since w names there old new (Err Fault) = (new ≡ old) ⊎ (IsSome (seen old) → LeavesOnly moment left_since old new (IsRunFront w names there))
LeavesRun seen moment left_since w names there old new (Err (Other number)) = new ≡ old
