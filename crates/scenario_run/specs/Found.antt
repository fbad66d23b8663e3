-- What a run finds on the disk of a journal, and what it leaves there.
use Rattle.std.specs.Prelude.{◌≡◌, ◌⊎◌, ℕ, ◌<◌, List, [], length, Option, IfSome, ⊤}
use Rattle.rt_base.specs.declared.name.Names.{Names}
use Rattle.txn_set.specs.Set.{Set}
use Rattle.step_journal.specs.declared.entry.Entry.{Entry}
use Rattle.durable_disk.specs.Standing.{EachLeft}
use Rattle.durable_journal.specs.Log.{OpensAs}
use Rattle.durable_journal.specs.declared.log.LogError.{LogError}
use Rattle.durable_journal.specs.declared.log.LogError.TheVariants.{DiskFault, BadRecord, Full, Stopped, OutOfMemory}
use Rattle.durable_journal.specs.Opened.{IsOpened, IsBad, IsOver, IsRefused}
use Rattle.scenario_run.specs.Compared.{Begins, IsOtherRecord}

-- the entries that a disk has: none where it reads as empty, and else those as which it is opened
abbrev pub IsFound : Names → Set → ℕ → List ℕ → List Entry → Type 0
IsFound names set room file there = ((file ≡ []) × (there ≡ [])) ⊎ IsOpened names set room file there

-- a record is named only of a disk that does not read as empty
abbrev pub IsThere : List ℕ → LogError → Type 0
IsThere file DiskFault = ⊤
IsThere file (BadRecord number) = 0 < length file
IsThere file (Full had first) = 0 < length file
IsThere file Stopped = ⊤
IsThere file OutOfMemory = ⊤

-- why a journal is not opened
abbrev pub RefusedAt : Names → Set → ℕ → List ℕ → LogError → Type 0
RefusedAt names set room file error = IsRefused names set room file error × IsThere file error

-- what the disk has is how the history begins
abbrev pub TakesUp : Names → Set → ℕ → List Entry → List ℕ → Type 0
TakesUp names set room history file = (there : List Entry) × IsFound names set room file there × Begins there history

-- The record of this number is the first that opening refuses; or all that are looked at are good, and it is the first
-- that has another entry than the history.
abbrev pub IsBadFor : Names → Set → ℕ → List Entry → List ℕ → ℕ → Type 0
IsBadFor names set room history file number =
    (0 < length file)
    × (IsBad names set room file number
    ⊎ ((there : List Entry) × (IsOpened names set room file there ⊎ IsOver names set room file there)
    × IsOtherRecord there history number))

-- a disk that tells reads as this history, and so does what a crash leaves of it
pub record Holds (names : Names) (set : Set) (seen : Option (List ℕ)) (may_leave : List ℕ → Type 0) (history : List Entry) : Type 0 where
  pub reads : IfSome seen (λ file. OpensAs names set file history)
  pub crash : EachLeft seen may_leave (λ image. OpensAs names set image history)
