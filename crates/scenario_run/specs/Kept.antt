-- What entries kept up to a room are.
use Rattle.std.specs.Prelude.{◌≡◌, ℕ, ◌+◌, ◌<◌, ◌≤◌, Bool, true, false, List, [], length}
use Rattle.step_journal.specs.declared.entry.Entry.{Entry}

-- the entries, for how many there is room in all, and whether a piece was refused
pub record Roomed : Type 0 where
  pub room : ℕ
  pub kept : List Entry
  pub full : Bool

-- the piece was too long for what was left of the room
pub record IsTooLong (out : Roomed) (piece : List Entry) : Type 0 where
  pub within : length out.kept ≤ out.room
  pub over : out.room < length out.kept + length piece

-- the piece that was refused, or none
abbrev pub RefusedAt : Bool → Roomed → List Entry → Type 0
RefusedAt false out piece = piece ≡ []
RefusedAt true out piece = IsTooLong out piece

abbrev pub IsRefused : Roomed → List Entry → Type 0
IsRefused out piece = RefusedAt out.full out piece

abbrev pub stops_of : Bool → ℕ
stops_of false = 0
stops_of true = 1
