-- A legal report by its parts, or another verdict.
use Rattle.std.specs.Prelude.{◌≡◌, ℕ, Bool, true, false, List}
use Rattle.item_model.specs.declared.stored.Stored.{Stored}
use Rattle.txn_set.specs.Set.{Set}
use Rattle.step_journal.specs.declared.entry.Entry.{Entry}
use Rattle.step_journal.specs.History.{IsLegal, state_of}
use Rattle.report_text.specs.IsHead.{set_of}
use Rattle.report_text.specs.Texts.{NamesSet}
use Rattle.report_text.specs.declared.document.Document.{Document}
use Rattle.run_report.specs.declared.verdict.Verdict.{Verdict}
use Rattle.run_report.specs.declared.verdict.Verdict.TheVariants.{Legal, BadLine, Unfinished, BadSet, NotALegalStep, WrongLine, WrongItem}
use Rattle.run_report.specs.declared.judged.ReportedSet.{ReportedSet}
use Rattle.run_report.specs.declared.judged.ReportedSet.TheVariants.{Trial, Admitted}
use Rattle.run_report.specs.declared.judged.LegalReport.{LegalReport}
use Rattle.run_report.specs.declared.judged.Judged.{Judged}
use Rattle.run_report.specs.declared.judged.Judged.TheVariants as judged
use Rattle.run_report.specs.declared.judged.Found.{Found}
use Rattle.run_report.specs.declared.judged.Found.TheVariants as found
use Rattle.run_report.specs.Verdict.{report_for, Tells, IsVerdict}

-- the set of a report
abbrev pub set_in : ReportedSet → Set
set_in (Trial set) = set
set_in (Admitted set) = set

-- its mode
abbrev pub is_admitted : ReportedSet → Bool
is_admitted (Trial set) = false
is_admitted (Admitted set) = true

-- The bytes are a legal report, and this is what it says: its names, its set, its mode and its entries are those of the
-- document that the bytes are, and the items are those after the entries.
pub record IsLegalReport (bytes : List ℕ) (r : LegalReport) : Type 0 where
  pub document : Document
  pub tells : Tells bytes document
  pub whole : bytes ≡ report_for document
  pub names_are : r.names ≡ document.head.names
  pub set_is : set_in r.set ≡ set_of document.head
  pub mode_is : is_admitted r.set ≡ document.head.admitted
  pub entries_are : r.entries ≡ document.entries
  pub one_each : NamesSet r.names (set_in r.set)
  pub legal : IsLegal (set_in r.set) r.entries
  pub last : r.items ≡ (state_of (set_in r.set) r.entries).items

abbrev pub is_legal : Verdict → Bool
is_legal Legal = true
is_legal other = false

-- the verdict is this one, and is not Legal
pub record IsOther (bytes : List ℕ) (v : Verdict) : Type 0 where
  pub verdict : IsVerdict bytes v
  pub other : is_legal v ≡ false

abbrev pub IsJudged : List ℕ → Judged → Type 0
IsJudged bytes (judged.Legal r) = IsLegalReport bytes r
IsJudged bytes (judged.Other v) = IsOther bytes v

-- ---- on the way

abbrev pub found_by : Verdict → List Stored → Found
found_by Legal items = found.Legal items
found_by (BadLine n) items = found.Other (BadLine n)
found_by Unfinished items = found.Other Unfinished
found_by (BadSet error) items = found.Other (BadSet error)
found_by (NotALegalStep n) items = found.Other (NotALegalStep n)
found_by (WrongLine n) items = found.Other (WrongLine n)
found_by (WrongItem item) items = found.Other (WrongItem item)

-- the verdict is Legal, and the items are those after the entries
pub record IsFoundLegal (bytes : List ℕ) (set : Set) (entries : List Entry) (items : List Stored) : Type 0 where
  pub verdict : IsVerdict bytes Legal
  pub legal : IsLegal set entries
  pub last : items ≡ (state_of set entries).items

abbrev pub IsFound : List ℕ → Set → List Entry → Found → Type 0
IsFound bytes set entries (found.Legal items) = IsFoundLegal bytes set entries items
IsFound bytes set entries (found.Other v) = IsOther bytes v
