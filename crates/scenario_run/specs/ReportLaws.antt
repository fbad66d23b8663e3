-- What a sink has once its out has stopped.
use Rattle.std.specs.Prelude.{◌≡◌, ◌≢◌, ℕ, ◌<◌, ◌≤◌, List, ◌++◌, length, take}
use Rattle.std.specs.Io.KnownBytes.{Appends}
use Rattle.step_journal.specs.declared.entry.Entry.{Entry}
use Rattle.step_journal.specs.History.{IsLegal}
use Rattle.job_rows.specs.Upkeep.{planned_jobs}
use Rattle.report_text.specs.Texts.{entries_text}
use Rattle.scenario_run.specs.declared.standing.ReportStanding.TheVariants.{Cut, Full}
use Rattle.scenario_run.specs.ReportOuts.{Begun, OutSeen, HasTaken, IsLost, IsGoing}

-- the sink has a front of the lines of these entries
pub record IsFrontOf (begun : Begun) (out : OutSeen) (entries : List Entry) : Type 0 where
  pub count : ℕ
  pub has : Appends begun.front out.taken (take count (entries_text begun.names entries))

-- all lines of what was got, and then a front of those of what was lost
abbrev pub AfterCut : Type 0
AfterCut =
    (begun : Begun) (out : OutSeen) (history piece : List Entry) → out.standing ≡ Cut → IsLegal begun.set (history ++ piece)
    → HasTaken begun out history → IsLost begun out piece
    → (front : IsFrontOf begun out (history ++ piece)) × (length (entries_text begun.names history) ≤ front.count)

-- the lines of what was got, and too many plans
abbrev pub AfterFull : Type 0
AfterFull =
    (begun : Begun) (out : OutSeen) (history piece : List Entry) → out.standing ≡ Full → IsLegal begun.set history
    → HasTaken begun out history → IsLost begun out piece
    → IsGoing begun out history × (out.rows.room < planned_jobs (history ++ piece))

-- with no more plans than places
abbrev pub HasFront : Type 0
HasFront =
    (begun : Begun) (out : OutSeen) (history piece : List Entry) → IsLegal begun.set (history ++ piece)
    → planned_jobs (history ++ piece) ≤ begun.room → HasTaken begun out history → IsLost begun out piece
    → (out.standing ≢ Full) × IsFrontOf begun out (history ++ piece)
