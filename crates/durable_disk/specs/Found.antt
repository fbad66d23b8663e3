-- What reading a record's place finds.
use Rattle.std.specs.Prelude.{◌≡◌, ℕ, List, drop, ⊤}
use Rattle.durable_disk.specs.declared.records.Slot.{Slot}
use Rattle.durable_disk.specs.declared.records.Slot.TheVariants.{Missing, Closed, Short, Whole}
use Rattle.durable_disk.specs.Records.{missing, closed, short, whole}
use Rattle.durable_disk.specs.Records as format

-- this was found, and these are the bytes of a whole record with its gate
abbrev pub Finds : Slot → List ℕ → format.Slot → Type 0
Finds Missing bytes missing = ⊤
Finds Closed bytes closed = ⊤
Finds Short bytes short = ⊤
Finds Whole bytes (whole body) = drop 1 bytes ≡ body
Finds slot bytes found = ⊥
