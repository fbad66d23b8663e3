-- That a log stands for a list of entries on its disk, and what a crash leaves of it.
use Rattle.std.specs.Prelude.{ℕ, ◌-◌, take, Result, Ok, Err, ◌≡◌, ◌≤◌, ◌⊎◌, ⊤, Bool, true, List, [], ◌∷◌, ◌++◌, length, Option}
use Rattle.std.specs.List.{AllByRecursion}
use Rattle.io_edge.specs.Causes.{Rose}
use Rattle.rt_base.specs.declared.name.Names.{Names}
use Rattle.txn_set.specs.Set.{Set}
use Rattle.step_journal.specs.declared.entry.Entry.{Entry}
use Rattle.step_journal.specs.History.{IsLegal}
use Rattle.journal_text.specs.Lines.{entry_line, HasLine}
use Rattle.durable_disk.specs.Records.{slot_at}
use Rattle.durable_disk.specs.Standing.{RecordsSeen, Stands}
use Rattle.durable_journal.specs.declared.log.LogError.{LogError}
use Rattle.durable_journal.specs.declared.log.LogError.TheVariants.{DiskFault, BadRecord, Full, Stopped, OutOfMemory}
use Rattle.durable_journal.specs.declared.place.Place.{Place}
use Rattle.durable_journal.specs.declared.place.Place.TheVariants.{Missing, Closed, Bad, Taken}
use Rattle.durable_journal.specs.Format.{bodies_of, IsText}
use Rattle.durable_journal.specs.Texts.{IsHeader, texts_from, ended}

-- an entry has a line, which a record takes
abbrev pub Fits : Names → Entry → Type 0
Fits names e = HasLine names e × IsText (entry_line names e)

-- the entry that stands in a place has a line, which a record takes
abbrev pub FitsThere : Names → Place → Type 0
FitsThere names (Taken e) = Fits names e
FitsThere names Missing = ⊤
FitsThere names Closed = ⊤
FitsThere names Bad = ⊤

-- an image is read, with room enough, as these entries
pub record ReadsAs (names : Names) (image : List ℕ) (entries : List Entry) : Type 0 where
  pub head : IsHeader (slot_at 0 image)
  pub rest : (room : ℕ) → length entries ≤ room → texts_from names 1 room [] image ≡ ended entries

-- an image is read, with room enough, as these entries, and they are a legal history
pub record OpensAs (names : Names) (set : Set) (image : List ℕ) (entries : List Entry) : Type 0 where
  pub legal : IsLegal set entries
  pub reads : ReadsAs names image entries

-- What a log stands for, by what its disk tells, the number of its records and whether it has stopped: a legal history,
-- of which each entry has its record behind the header's. One that has stopped may have lost the last of them.
pub record Stood (names : Names) (set : Set) (seen : Option (List ℕ)) (outcomes : List ℕ → Type 0) (count : ℕ) (stopped : Bool) (entries : List Entry) : Type 0 where
  pub legal : IsLegal set entries
  pub fit : AllByRecursion (Fits names) entries
  pub headed : 1 ≤ count
  pub records : Stands seen outcomes count stopped (bodies_of names entries)

-- A log stands for a list of entries. Of a disk that does not tell it is said of each legal history of so many entries.
abbrev pub StandsFor : {D : Type 0} → (D → Option (List ℕ)) → (D → List ℕ → Type 0) → Names → Set → RecordsSeen D → List Entry → Type 0
StandsFor seen may_leave names set log entries = Stood names set (seen log.disk) (may_leave log.disk) log.count log.stopped entries

-- what a log stands for, with these entries behind it, is a legal history
abbrev pub GoesOn : {D : Type 0} → (D → Option (List ℕ)) → (D → List ℕ → Type 0) → Names → Set → RecordsSeen D → List Entry → Type 0
GoesOn seen may_leave names set log more = (entries : List Entry) × StandsFor seen may_leave names set log entries × IsLegal set (entries ++ more)

-- after a crash the entries are these, or these with one more
abbrev pub IsBeforeOrAfter : Names → Set → List Entry → Entry → List ℕ → Type 0
IsBeforeOrAfter names set entries entry image = OpensAs names set image entries ⊎ OpensAs names set image (entries ++ entry ∷ [])

-- After a crash of a log that stands for these entries they are these; where it has stopped they may be all but the last.
abbrev pub IsLeft : Names → Set → Bool → List Entry → List ℕ → Type 0
IsLeft names set stopped entries image =
    OpensAs names set image entries
    ⊎ ((stopped ≡ true) × OpensAs names set image (take (length entries - 1) entries))

-- a call took an entry, or answered that the disk failed
abbrev pub IsOkOrFault : {T : Type 0} → Result T LogError → Type 0
IsOkOrFault (Ok t) = ⊤
IsOkOrFault (Err DiskFault) = ⊤
IsOkOrFault (Err (BadRecord n)) = ⊥
IsOkOrFault (Err (Full room first)) = ⊥
IsOkOrFault (Err Stopped) = ⊥
IsOkOrFault (Err OutOfMemory) = ⊥

-- the disk failed, and counted it, or memory ran out
abbrev pub IsMemoryOrFault : ℕ → ℕ → LogError → Type 0
IsMemoryOrFault before now DiskFault = Rose before now
IsMemoryOrFault before now OutOfMemory = before ≤ now
IsMemoryOrFault before now (BadRecord n) = ⊥
IsMemoryOrFault before now (Full room first) = ⊥
IsMemoryOrFault before now Stopped = ⊥

-- an image is opened as the entries before, and some of these in order
abbrev pub HasSome : Names → Set → List Entry → List Entry → List ℕ → Type 0
HasSome names set before entries image =
    (n : ℕ) × (n ≤ length entries) × OpensAs names set image (before ++ take n entries)
