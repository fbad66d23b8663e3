-- The entries of a journal beside those of a history.
use Rattle.std.specs.Prelude.{◌≡◌, ◌≢◌, ℕ, ◌+◌, ◌<◌, List, ◌++◌, take, drop, length, slice_get}
use Rattle.step_journal.specs.declared.entry.Entry.{Entry}

-- the history begins with these entries
abbrev pub Begins : List Entry → List Entry → Type 0
Begins there history = take (length there) history ≡ there

-- the two agree as far as both go
abbrev pub Agree : List Entry → List Entry → Type 0
Agree there history = take (length history) there ≡ take (length there) history

-- The first place where a journal has an entry that is not the one of a history there.
pub record IsFirstOther (there history : List Entry) (place : ℕ) : Type 0 where
  pub same : take place there ≡ take place history
  pub within : place < length there
  pub other : slice_get there place ≢ slice_get history place

-- a history, and behind it what the journal has beyond it
abbrev pub with_rest : List Entry → List Entry → List Entry
with_rest there history = history ++ drop (length history) there

-- the record with this number, entries counted from 1, has the first other entry
pub record IsOtherRecord (there history : List Entry) (number : ℕ) : Type 0 where
  pub place : ℕ
  pub first : IsFirstOther there history place
  pub is : number ≡ place + 1
