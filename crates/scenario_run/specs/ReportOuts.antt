-- What a sink has of the lines of a report's entries.
use Rattle.std.specs.Prelude.{◌≡◌, ℕ, ◌+◌, ◌*◌, ◌<◌, ◌≤◌, List, [], ◌++◌, length, take, Option, None}
use Rattle.std.specs.Io.KnownBytes.{Appends}
use Rattle.rt_base.specs.declared.name.Names.{Names}
use Rattle.txn_set.specs.Set.{Set}
use Rattle.step_journal.specs.declared.entry.Entry.{Entry}
use Rattle.step_journal.specs.History.{IsLegal}
use Rattle.job_rows.specs.Upkeep.{RowsSeen, Follows, planned_jobs}
use Rattle.report_text.specs.Texts.{entries_text, NamesSet}
use Rattle.scenario_run.specs.declared.standing.ReportStanding.{ReportStanding}
use Rattle.scenario_run.specs.declared.standing.ReportStanding.TheVariants.{Going, Cut, Full}

-- with what an out began: its sink, what that had taken, the names and the set of the report, and for how many planned
-- jobs it has places
pub record Begun : Type 0 where
  pub sink : ℕ
  pub front : Option (List ℕ)
  pub names : Names
  pub set : Set
  pub room : ℕ

abbrev pub nothing : Begun
nothing = record {
  sink = 0;
  front = None;
  names = record { items = []; txns = [] };
  set = record { items = []; txns = []; together = [] };
  room = 0;
}

-- with what the out of a run begins
abbrev pub IsBegun : Begun → ℕ → Option (List ℕ) → Names → Set → ℕ → Type 0
IsBegun begun sink front names set room = begun ≡ record { sink = sink; front = front; names = names; set = set; room = room }

-- an out: how it stands, the names and the rows of its report, the lines that wait, how many bytes the lines of what it
-- got have, and what its sink has taken
pub record OutSeen : Type 0 where
  pub standing : ReportStanding
  pub names : Names
  pub rows : RowsSeen
  pub lines : List ℕ
  pub bytes : ℕ
  pub taken : Option (List ℕ)

abbrev pub seen : ReportStanding → Names → RowsSeen → List ℕ → ℕ → Option (List ℕ) → OutSeen
seen standing names rows lines bytes taken =
    record { standing = standing; names = names; rows = rows; lines = lines; bytes = bytes; taken = taken }

-- the sink has the lines of this history and no more, and the rows are those of its jobs, which all have places
pub record IsGoing (begun : Begun) (out : OutSeen) (history : List Entry) : Type 0 where
  pub names_are : out.names ≡ begun.names
  pub room_is : out.rows.room ≡ begun.room
  pub one_each : NamesSet begun.names begun.set
  pub follows : Follows begun.set out.rows history
  pub few : planned_jobs history ≤ begun.room
  pub sent : out.lines ≡ []
  pub has : Appends begun.front out.taken (entries_text begun.names history)
  pub bytes_are : length (entries_text begun.names history) ≡ out.bytes
  pub short : out.bytes ≤ 256 * length history

-- the sink has the lines of this history, and maybe more
pub record IsBefore (begun : Begun) (out : OutSeen) (history : List Entry) : Type 0 where
  pub more : List ℕ
  pub has : Appends begun.front out.taken (entries_text begun.names history ++ more)
  pub bytes_are : length (entries_text begun.names history) ≡ out.bytes

-- after so many bytes as the lines of what was got have, the sink has a front of the lines of this piece
pub record IsCut (begun : Begun) (out : OutSeen) (piece : List Entry) : Type 0 where
  pub some : 0 < length piece
  pub before : List ℕ
  pub bytes_are : length before ≡ out.bytes
  pub count : ℕ
  pub has : Appends begun.front out.taken (before ++ take count (entries_text begun.names piece))

-- the piece has more plans than places are left
pub record IsOver (begun : Begun) (out : OutSeen) (piece : List Entry) : Type 0 where
  pub left : ℕ
  pub places : out.rows.planned + left ≡ begun.room
  pub over : left < planned_jobs piece

abbrev pub TakenAt : ReportStanding → Begun → OutSeen → List Entry → Type 0
TakenAt Going begun out history = IsGoing begun out history
TakenAt Cut begun out history = IsBefore begun out history
TakenAt Full begun out history = IsGoing begun out history

abbrev pub LostAt : ReportStanding → Begun → OutSeen → List Entry → Type 0
LostAt Going begun out piece = piece ≡ []
LostAt Cut begun out piece = IsCut begun out piece
LostAt Full begun out piece = IsOver begun out piece

-- what the out got, of legal histories: its sink has their lines, and after a fault maybe more
abbrev pub HasTaken : Begun → OutSeen → List Entry → Type 0
HasTaken begun out history = IsLegal begun.set history → TakenAt out.standing begun out history

-- what the out lost: nothing, the piece at which the sink failed, or the one for which it has too few places
abbrev pub IsLost : Begun → OutSeen → List Entry → Type 0
IsLost begun out piece = LostAt out.standing begun out piece

-- a stop for want of places
abbrev pub full_stops : ReportStanding → ℕ
full_stops Going = 0
full_stops Cut = 0
full_stops Full = 1
