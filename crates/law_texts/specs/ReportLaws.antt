-- Each run of a scenario has a legal report.
use Rattle.std.specs.Prelude.{◌≡◌, ℕ, Bool, true, List, Ok}
use Rattle.txn_set.specs.Set.{IsCompiled}
use Rattle.step_journal.specs.declared.entry.Entry.{Entry}
use Rattle.step_journal.specs.History.{IsLegal}
use Rattle.law_times.specs.Ages.{IsAdmitted}
use Rattle.law_histories.specs.Sim.{IsScriptRun}
use Rattle.step_script.specs.Shown.{Shown, set_of}
use Rattle.step_script.specs.Scenarios.{IsScenario}
use Rattle.scenario_writer.specs.Integers.{HasIntegers}
use Rattle.scenario_reader.specs.Reading.{data_of, scenario_in}
use Rattle.law_runs.specs.Runs.{workload_of}
use Rattle.run_report.specs.Report.{report_of}
use Rattle.run_report.specs.declared.verdict.Verdict.TheVariants.{Legal}
use Rattle.run_report.specs.Verdict.{IsVerdict}

-- the report of each run of a scenario, as a trial or admitted, is said to be legal
abbrev pub HasLegalReports : Shown → Type 0
HasLegalReports s =
    (admitted : Bool) (history : List Entry) → IsCompiled (set_of s)
    → (admitted ≡ true → IsAdmitted (set_of s)) → IsLegal (set_of s) history → IsScriptRun (workload_of s) history
    → IsVerdict (report_of s.names (set_of s) admitted history) Legal

-- where the scenario's integers are of 64 bits: its initial values, samples and constants
abbrev pub RunReportIsLegal : Type 0
RunReportIsLegal = (s : Shown) → IsScenario s → HasIntegers s → HasLegalReports s

-- and so where it is read of a text, since such a scenario has no others
abbrev pub ReadReportIsLegal : Type 0
ReadReportIsLegal = (bytes : List ℕ) (s : Shown) → scenario_in (data_of bytes) ≡ Ok s → HasLegalReports s
