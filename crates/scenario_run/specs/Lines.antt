-- The entry lines of a run, and its report.
use Rattle.std.specs.Prelude.{◌≡◌, Bool, ℕ, List, [], take, Option}
use Rattle.std.specs.Io.KnownBytes.{Appends}
use Rattle.rt_base.specs.declared.name.Names.{Names}
use Rattle.step_journal.specs.declared.entry.Entry.{Entry}
use Rattle.law_histories.specs.Sim.{Workload, IsSim}
use Rattle.job_rows.specs.Upkeep.{RowsSeen, Follows}
use Rattle.report_text.specs.Texts.{entries_text, NamesSet}
use Rattle.run_report.specs.Report.{report_of}

-- a run of the workload, for which the board stands, whose jobs' rows these are, and whose lines the sink has taken
pub record HasLines (w : Workload) (stands : List Entry → Type 0) (names : Names) (rows : RowsSeen) (lines : List ℕ)
    (front taken : Option (List ℕ)) : Type 0 where
  pub history : List Entry
  pub sim : IsSim w history
  pub stood : stands history
  pub one_each : NamesSet names w.set
  pub follows : Follows w.set rows history
  pub sent : lines ≡ []
  pub has : Appends front taken (entries_text names history)

-- a run of the workload, of whose lines the sink has taken a front
pub record HasFirstLines (w : Workload) (names : Names) (front taken : Option (List ℕ)) : Type 0 where
  pub history : List Entry
  pub sim : IsSim w history
  pub count : ℕ
  pub has : Appends front taken (take count (entries_text names history))

-- the report of the run of a workload, as admitted or as a trial
pub record IsTextBy (names : Names) (admitted : Bool) (w : Workload) (text : List ℕ) : Type 0 where
  pub history : List Entry
  pub sim : IsSim w history
  pub written : text ≡ report_of names w.set admitted history
