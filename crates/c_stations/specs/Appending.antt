-- What adding entries answers.
use Rattle.std.specs.Prelude.{◌≡◌, ℕ, ◌+◌, ◌≤◌, ◌++◌, List, [], length, reverse, true, false}
use Rattle.std.specs.List.{All}
use Rattle.txn_set.specs.Set.{Set}
use Rattle.step_journal.specs.declared.entry.Entry.{Entry}
use Rattle.step_journal.specs.History.{IsLegal}
use Rattle.journal_text.specs.Lines.{IsWritable}
use Rattle.durable_journal.specs.Log.{HasSome}
use Rattle.c_stations.specs.Calls.{LeftSince}
use Rattle.c_stations.specs.Kept.{Station, Holds}
use Rattle.c_stations.specs.declared.refused.AppendRefused.{AppendRefused}
use Rattle.c_stations.specs.declared.refused.AppendRefused.TheVariants.{Stopped, Unanswered, Unknown, NoRoom, OutOfMemory}

-- no call is to be made, and none failed
abbrev pub IsAtRest : Station → Type 0
IsAtRest s = (s.stopped ≡ false) × (s.queue.calls ≡ [])

-- there is room for these
abbrev pub HasRoom : Station → List Entry → Type 0
HasRoom s entries = (length entries ≤ 64) × (s.count + length entries ≤ s.room + 1)

-- why entries are not taken
abbrev pub WhyNotAppended : Station → List Entry → AppendRefused → Type 0
WhyNotAppended s entries Stopped = s.stopped ≡ true
WhyNotAppended s entries Unanswered = (s.stopped ≡ false) × (s.queue.calls ≡ [] → ⊥)
WhyNotAppended s entries NoRoom = IsAtRest s × (HasRoom s entries → ⊥)
WhyNotAppended s entries Unknown = IsAtRest s × HasRoom s entries × (All (IsWritable s.names) entries → ⊥)
WhyNotAppended s entries OutOfMemory = IsAtRest s × HasRoom s entries × All (IsWritable s.names) entries

-- entries were refused though they had room, for one of them or else for want of a place
abbrev pub IsUnknownOr : Type 0 → AppendRefused → Type 0
IsUnknownOr Known Stopped = ⊥
IsUnknownOr Known Unanswered = ⊥
IsUnknownOr Known NoRoom = ⊥
IsUnknownOr Known Unknown = Known → ⊥
IsUnknownOr Known OutOfMemory = Known

-- Entries were taken. Where they go on legally with those that the log holds, it holds them behind those when the calls are
-- made; and a crash at any moment while the calls are made leaves a file that is opened as the entries before, and the first
-- few of these.
pub record Appended (s t : Station) (entries : List Entry) : Type 0 where
  pub rest : IsAtRest s
  pub room : HasRoom s entries
  pub known : All (IsWritable s.names) entries
  pub base : t.queue.base ≡ s.queue.base
  pub made : t.made ≡ 0
  pub count : t.count ≡ s.count + length entries
  pub pending : t.pending ≡ length entries
  pub same : (t.names ≡ s.names) × (t.room ≡ s.room) × (t.found ≡ s.found) × (t.stopped ≡ false)
  pub holds : (set : Set) (before : List Entry) → IsLegal set (before ++ entries) → Holds s.names set s.queue s.count before → Holds t.names set t.queue t.count (before ++ entries)
  pub left : (set : Set) (before : List Entry) → IsLegal set (before ++ entries) → Holds s.names set s.queue s.count before
      → (c : List ℕ) → LeftSince t.queue.base (reverse t.queue.calls) 0 c → HasSome t.names set before entries c
