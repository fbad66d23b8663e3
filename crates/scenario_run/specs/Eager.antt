-- The report of a run whose eager transactions plan jobs themselves.
use Rattle.std.specs.Prelude.{◌≡◌, ℕ, Bool, List, ◌++◌}
use Rattle.rt_base.specs.declared.name.Names.{Names}
use Rattle.txn_set.specs.Set.{Set}
use Rattle.step_journal.specs.declared.entry.Entry.{Entry}
use Rattle.law_histories.specs.Sim.{Workload}
use Rattle.law_runs.specs.Histories.{IsRunOf}
use Rattle.report_text.specs.Texts.{entries_text}
use Rattle.run_report.specs.Report.{report_of}
use Rattle.scenario_run.specs.Written.{closing_of}

-- the report of a run of the workload, in which transactions plan so many jobs themselves, as admitted or as a trial
pub record IsRunTextBy (names : Names) (admitted : Bool) (w : Workload) (eager_jobs : ℕ → ℕ) (text : List ℕ) : Type 0 where
  pub history : List Entry
  pub run : IsRunOf w eager_jobs history
  pub written : text ≡ report_of names w.set admitted history

-- a head, the lines of a history, and the closing lines of its report
abbrev pub after_head : List ℕ → Names → Set → List Entry → List ℕ
after_head head names set history = head ++ (entries_text names history ++ closing_of names set history)
