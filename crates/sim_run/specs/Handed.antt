-- How the entries of a run go on to an out, piece by piece. What an out got, lost, and can take are relations on lists.
use Rattle.std.specs.Prelude.{◌≡◌, ℕ, ◌<◌, List, ◌++◌, take}
use Rattle.step_journal.specs.declared.entry.Entry.{Entry}

-- an out that got some list can take these entries after it
pub record CanAppend (got good : List Entry → Type 0) (entries : List Entry) : Type 0 where
  pub begun : List Entry
  pub is_got : got begun
  pub is_good : good (begun ++ entries)

-- it can take the first of these entries, however many they are
abbrev pub CanTake : (List Entry → Type 0) → (List Entry → Type 0) → List Entry → Type 0
CanTake got good entries = (n : ℕ) → CanAppend got good (take n entries)

-- of these entries the out got all but the last ones, which are left
pub record IsHanded (got got' : List Entry → Type 0) (entries left : List Entry) : Type 0 where
  pub passed : List Entry
  pub parts : entries ≡ passed ++ left
  pub grown : (history : List Entry) → got history → got' (history ++ passed)

-- of these entries the out got the first ones, and lost the piece that came next
pub record IsCut (got got' lost' : List Entry → Type 0) (entries : List Entry) : Type 0 where
  pub passed : List Entry
  pub piece : List Entry
  pub left : List Entry
  pub parts : entries ≡ passed ++ piece ++ left
  pub grown : (history : List Entry) → got history → got' (history ++ passed)
  pub is_lost : lost' piece

-- between two entries: the board keeps less than a piece of 1,024, and has room for one more
pub record IsReady (kept room : ℕ) : Type 0 where
  pub few : kept < 1024
  pub more : 1024 < room
