-- That a log stands for a list of records on its disk, and how it stops.
use Rattle.std.specs.Prelude.{◌≡◌, ◌⊎◌, ℕ, ◌+◌, ◌≤◌, ◌++◌, ◌↔◌, take, List, length, ⊤, Option, Some, None, IfSome, IsSome, Bool, true, false, Result, Ok, Err, IsErrOf, OnErr, OnOk}
use Rattle.io_edge.specs.Causes.{Rose}
use Rattle.durable_disk.specs.declared.records.RecordFault.{RecordFault}
use Rattle.durable_disk.specs.declared.records.RecordFault.TheVariants.{DiskFault, Stopped}
use Rattle.durable_disk.specs.Records.{Reads, HasStaged, HasBodies}

-- What a log of records is: its disk, the number of its records, and whether it has stopped.
pub record RecordsSeen (D : Type 0) : Type 0 where
  pub disk : D
  pub count : ℕ
  pub stopped : Bool

-- where the disk tells, the records are these, and a crash leaves what a read gives
abbrev pub IsSettled : Option (List ℕ) → (List ℕ → Type 0) → List (List ℕ) → Type 0
IsSettled None outcomes bodies = ⊤
IsSettled (Some file) outcomes bodies = Reads file bodies × ((c : List ℕ) → outcomes c → c ≡ file)

-- where the disk tells, one more record stands behind the closed gate, and a crash leaves what a read gives
abbrev pub IsStaged : Option (List ℕ) → (List ℕ → Type 0) → List (List ℕ) → List ℕ → Type 0
IsStaged None outcomes bodies body = ⊤
IsStaged (Some file) outcomes bodies body = HasStaged file bodies body × ((c : List ℕ) → outcomes c → c ≡ file)

-- where the disk tells, each image that a crash may leave has P
abbrev pub EachLeft : Option (List ℕ) → (List ℕ → Type 0) → (List ℕ → Type 0) → Type 0
EachLeft None outcomes P = ⊤
EachLeft (Some file) outcomes P = (c : List ℕ) → outcomes c → P c

-- a call took a record, or answered that the disk failed
abbrev pub IsOkOrFault : {T : Type 0} → Result T RecordFault → Type 0
IsOkOrFault (Ok t) = ⊤
IsOkOrFault (Err DiskFault) = ⊤
IsOkOrFault (Err Stopped) = ⊥

-- What a log stands for, by its disk, its number of records and whether it has stopped. Of one that has not stopped a
-- crash leaves these records; of one that has, these, or all of these but the last, which was not acknowledged.
abbrev pub Stands : Option (List ℕ) → (List ℕ → Type 0) → ℕ → Bool → List (List ℕ) → Type 0
Stands seen outcomes count false bodies = (count ≡ length bodies) × IsSettled seen outcomes bodies
Stands seen outcomes count true bodies =
    (count + 1 ≡ length bodies) × EachLeft seen outcomes (λ c. Reads c bodies ⊎ Reads c (take count bodies))

-- where the disk tells, the bodies of more records stand behind these, and each image that a crash may leave has these alone
abbrev pub IsStaging : Option (List ℕ) → (List ℕ → Type 0) → List (List ℕ) → List (List ℕ) → Type 0
IsStaging seen outcomes bodies more =
    IfSome seen (λ file. HasBodies file (bodies ++ more) (length bodies)) × EachLeft seen outcomes (λ c. Reads c bodies)

-- A call of a log goes on, or stops the log: after Ok it goes on, and after a fault of the disk it has stopped. It answers that
-- it had stopped exactly where it had, and then all stays as it was. There is no other error.
pub record StopsAtFault {D T E : Type 0} (fault halted : E) (result : Result T E) (old new : RecordsSeen D) : Type 0 where
  pub goes : OnOk result (new.stopped ≡ false)
  pub stops : IsErrOf result fault → new.stopped ≡ true
  pub stopped : IsErrOf result halted ↔ (old.stopped ≡ true)
  pub unchanged : IsErrOf result halted → new ≡ old
  pub no_other : OnErr result (IsErrOf result fault ⊎ IsErrOf result halted)

-- A call of a log answers a fault only where the disk counted one. The disk's count of faults does not fall, and a disk that
-- tells goes on telling.
pub record TellsFaults {D T E : Type 0} (seen : D → Option (List ℕ)) (faults : D → ℕ) (fault : E) (result : Result T E) (old new : D) : Type 0 where
  pub cause : IsErrOf result fault → Rose (faults old) (faults new)
  pub later : faults old ≤ faults new
  pub told : IsSome (seen old) ↔ IsSome (seen new)
