-- A text that is a report.
use Rattle.std.specs.Prelude.{ℕ, ◌≡◌, Bool, true, List}
use Rattle.rt_base.specs.declared.name.Names.{Names}
use Rattle.txn_set.specs.Set.{Set}
use Rattle.step_journal.specs.declared.entry.Entry.{Entry}
use Rattle.step_journal.specs.History.{IsLegal}
use Rattle.law_times.specs.Ages.{IsAdmitted}
use Rattle.run_report.specs.Report.{report_of}

-- the text is the report of these entries, which are a legal history of the set
pub record IsTold (text : List ℕ) (names : Names) (set : Set) (mode : Bool) (entries : List Entry) : Type 0 where
  pub legal : IsLegal set entries
  pub written : text ≡ report_of names set mode entries

-- and the set is admitted where the mode says so
pub record IsToldIn (text : List ℕ) (names : Names) (set : Set) (mode : Bool) (entries : List Entry) : Type 0 where
  pub told : IsTold text names set mode entries
  pub admitted : mode ≡ true → IsAdmitted set
