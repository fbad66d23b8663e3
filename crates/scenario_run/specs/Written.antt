-- What stands after the entries in a report, and what was written of a text.
use Rattle.std.specs.Prelude.{ℕ, List, ◌++◌, Option}
use Rattle.std.specs.Io.KnownBytes.{Appends}
use Rattle.rt_base.specs.declared.name.Names.{Names}
use Rattle.txn_set.specs.Set.{Set}
use Rattle.step_journal.specs.declared.entry.Entry.{Entry}
use Rattle.step_journal.specs.History.{state_of}
use Rattle.job_rows.specs.Rows.{job_rows}
use Rattle.run_report.specs.Report.{closing_text}

-- what stands after the entries of a history in its report
abbrev pub closing_of : Names → Set → List Entry → List ℕ
closing_of names set history = closing_text names (job_rows set history) (state_of set history).items

-- a text of which this holds was written whole
pub record Wrote (IsText : List ℕ → Type 0) (taken taken' : Option (List ℕ)) : Type 0 where
  pub text : List ℕ
  pub is : IsText text
  pub written : Appends taken taken' text

-- what was written is the front of such a text
pub record WroteFront (IsText : List ℕ → Type 0) (taken taken' : Option (List ℕ)) : Type 0 where
  pub front : List ℕ
  pub left : List ℕ
  pub is : IsText (front ++ left)
  pub written : Appends taken taken' front
