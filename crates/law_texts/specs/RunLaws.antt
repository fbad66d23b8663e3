-- How long the report of a scenario's run is.
use Rattle.std.specs.Prelude.{ℕ, ◌^◌, ◌<◌, ◌≤◌, Bool, List, length}
use Rattle.std.specs.List.{All}
use Rattle.txn_set.specs.Set.{IsCompiled}
use Rattle.step_journal.specs.declared.entry.Entry.{Entry}
use Rattle.job_rows.specs.Rows.{job_rows}
use Rattle.law_runs.specs.Histories.{IsRunOf}
use Rattle.step_script.specs.Shown.{Shown, set_of}
use Rattle.step_script.specs.Scenarios.{IsScenario}
use Rattle.scenario_writer.specs.Integers.{HasIntegers}
use Rattle.law_runs.specs.Runs.{workload_of}
use Rattle.law_runs.specs.Plannable.{eager_jobs_of}
use Rattle.report_text.specs.Texts.{whole_entry_line, job_line}
use Rattle.run_report.specs.Report.{report_of}
use Rattle.law_texts.specs.Lines.{IsShort}

-- A whole run of a scenario whose set is compiled and whose initial values, samples and constants are of 64 bits.
pub record IsRunOfScenario (s : Shown) (history : List Entry) : Type 0 where
  pub scenario : IsScenario s
  pub integers : HasIntegers s
  pub compiled : IsCompiled (set_of s)
  pub run : IsRunOf (workload_of s) (eager_jobs_of s) history

-- its entries and its jobs are few, and their lines are short
pub record HasFewShortLines (s : Shown) (history : List Entry) : Type 0 where
  pub few_entries : length history < 2 ^ 20
  pub few_jobs : length (job_rows (set_of s) history) ≤ 2 ^ 16
  pub entries : (place : ℕ) → All (λ e. IsShort (whole_entry_line s.names place e)) history
  pub jobs : (place : ℕ) → All (λ row. IsShort (job_line s.names place row)) (job_rows (set_of s) history)

abbrev pub RunLinesAreShort : Type 0
RunLinesAreShort = (s : Shown) (history : List Entry) → IsRunOfScenario s history → HasFewShortLines s history

-- so the whole report, as a trial or admitted, has at most 2^28 bytes
abbrev pub RunIsReadWhole : Type 0
RunIsReadWhole =
    (s : Shown) (admitted : Bool) (history : List Entry) → IsRunOfScenario s history
    → length (report_of s.names (set_of s) admitted history) ≤ 2 ^ 28
