-- Laws of verdicts.
use Rattle.std.specs.Prelude.{◌≡◌, ℕ, Bool, true, List, Ok}
use Rattle.rt_base.specs.declared.name.Names.{Names}
use Rattle.rt_base.specs.Names.{AreNames}
use Rattle.txn_set.specs.Set.{Set, IsCompiled}
use Rattle.step_journal.specs.declared.entry.Entry.{Entry}
use Rattle.step_journal.specs.History.{IsLegal}
use Rattle.law_times.specs.Ages.{IsAdmitted}
use Rattle.report_text.specs.Texts.{NamesSet}
use Rattle.report_text.specs.IsHead.{set_of as declared_set}
use Rattle.report_text.specs.declared.document.Document.{Document}
use Rattle.report_text.specs.Document.{document_of}
use Rattle.run_report.specs.Report.{report_of}
use Rattle.run_report.specs.declared.verdict.Verdict.{Verdict}
use Rattle.run_report.specs.declared.verdict.Verdict.TheVariants.{Legal}
use Rattle.run_report.specs.Verdict.{IsVerdict}
use Rattle.run_report.specs.Types.{HasTypes}

-- no document has two verdicts
abbrev pub OneVerdict : Type 0
OneVerdict = (bytes : List ℕ) (a b : Verdict) → IsVerdict bytes a → IsVerdict bytes b → a ≡ b

-- a text is the report of a compiled set, which meets the admission rule where the mode says so, and of a legal history of
-- it; there is a name for each item and each transaction, and no two are equal
pub record IsReport (text : List ℕ) : Type 0 where
  pub names : Names
  pub set : Set
  pub mode : Bool
  pub entries : List Entry
  pub one_each : NamesSet names set
  pub item_names : AreNames names.items
  pub txn_names : AreNames names.txns
  pub compiled : IsCompiled set
  pub admitted : mode ≡ true → IsAdmitted set
  pub legal : IsLegal set entries
  pub written : text ≡ report_of names set mode entries

-- what is said to be legal is such a report
abbrev pub LegalIsReport : Type 0
LegalIsReport = (bytes : List ℕ) → IsVerdict bytes Legal → IsReport bytes

-- each such report is said to be legal, where its numbers are those of their types
abbrev pub ReportIsLegal : Type 0
ReportIsLegal = (text : List ℕ) (r : IsReport text) → HasTypes r.set r.entries → IsVerdict text Legal

-- no text is read as a document with other numbers, so each legal text meets the premise
abbrev pub DocumentHasTypes : Type 0
DocumentHasTypes = (text : List ℕ) (d : Document) → document_of text ≡ Ok d → HasTypes (declared_set d.head) d.entries
