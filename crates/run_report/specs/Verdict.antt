-- The verdict on a document.
use Rattle.std.specs.Prelude.{ℕ, ◌≡◌, ◌+◌, Bool, true, false, List, [], Option, Some, None, Result, Ok, Err}
use Rattle.std.specs.Option.{option_map}
use Rattle.rt_base.specs.declared.name.Names.{Names}
use Rattle.item_model.specs.Work.{first_of_both}
use Rattle.txn_set.specs.Set.{Set}
use Rattle.txn_compiler.specs.Refusal.{compile_refusal}
use Rattle.set_admission.specs.Admission.{refusal}
use Rattle.step_journal.specs.declared.entry.Entry.{Entry}
use Rattle.step_journal.specs.History.{IsLegal}
use Rattle.serial_replay.specs.Replays.{IsFirstIllegal}
use Rattle.report_text.specs.declared.read.Head.{Head}
use Rattle.report_text.specs.declared.read.HeadError.{HeadError}
use Rattle.report_text.specs.Head.{head_of}
use Rattle.report_text.specs.IsHead.{set_of}
use Rattle.run_report.specs.Report.{report_of}
use Rattle.report_text.specs.declared.document.Document.{Document}
use Rattle.report_text.specs.declared.document.DocumentError.TheVariants as unread
use Rattle.report_text.specs.Document.{lines_of, document_of}
use Rattle.run_report.specs.declared.verdict.SetError.{SetError}
use Rattle.run_report.specs.declared.verdict.SetError.TheVariants.{Compile, Admit}
use Rattle.run_report.specs.declared.verdict.Verdict.{Verdict}
use Rattle.run_report.specs.declared.verdict.Verdict.TheVariants.{Legal, BadLine, Unfinished, BadSet, NotALegalStep, WrongLine, WrongItem}
use Rattle.run_report.specs.Compared.{compared}

-- ---- what is declared

abbrev pub names_in : Result Head HeadError → Names
names_in (Ok head) = head.names
names_in (Err error) = record { items = []; txns = [] }

-- the declared names, none where the declarations are not read
abbrev pub names_of : List ℕ → Names
names_of bytes = names_in (head_of bytes)

abbrev pub refusal_in : Bool → Set → Option SetError
refusal_in true set = option_map (λ error. Admit error) (refusal set)
refusal_in false set = None

-- why the declarations are no set, or else, in mode admitted, why it is not admitted
abbrev pub set_refusal : Head → Option SetError
set_refusal head =
    first_of_both (option_map (λ error. Compile error) (compile_refusal (set_of head))) (refusal_in head.admitted (set_of head))

-- ---- the document and its report

-- the report of the declared set, its mode and the entries
abbrev pub report_for : Document → List ℕ
report_for d = report_of d.head.names (set_of d.head) d.head.admitted d.entries

-- where it differs from that report
abbrev pub difference : List ℕ → Document → Verdict
difference bytes d = compared d.head.names 1 (lines_of bytes).0 (lines_of (report_for d)).0

-- the bytes are this document, and nothing refuses its set
pub record Declares (bytes : List ℕ) (d : Document) : Type 0 where
  pub read : document_of bytes ≡ Ok d
  pub not_refused : set_refusal d.head ≡ None

-- and its entries are a legal history of that set
pub record Tells (bytes : List ℕ) (d : Document) : Type 0 where
  pub declares : Declares bytes d
  pub legal : IsLegal (set_of d.head) d.entries

-- ---- the verdict

abbrev pub IsVerdict : List ℕ → Verdict → Type 0
IsVerdict bytes (BadLine n) = document_of bytes ≡ Err (unread.BadLine n)
IsVerdict bytes Unfinished = document_of bytes ≡ Err unread.Unfinished
IsVerdict bytes (BadSet error) = (d : Document) × (document_of bytes ≡ Ok d) × (set_refusal d.head ≡ Some error)
IsVerdict bytes (NotALegalStep n) =
    (d : Document) × Declares bytes d × ((index : ℕ) × IsFirstIllegal (set_of d.head) d.entries index × (n ≡ d.first + index))
IsVerdict bytes (WrongLine n) = (d : Document) × Tells bytes d × (difference bytes d ≡ WrongLine n)
IsVerdict bytes (WrongItem item) = (d : Document) × Tells bytes d × (difference bytes d ≡ WrongItem item)
IsVerdict bytes Legal = (d : Document) × Tells bytes d × (bytes ≡ report_for d)

-- ---- on the way

-- the parts of a document whose declarations are a set
pub record HasParts (bytes : List ℕ) (names : Names) (set : Set) (admitted : Bool) (entries : List Entry) (first : ℕ) : Type 0 where
  pub document : Document
  pub read : document_of bytes ≡ Ok document
  pub compiled : compile_refusal set ≡ None
  pub names_are : names ≡ document.head.names
  pub set_is : set ≡ set_of document.head
  pub mode_is : admitted ≡ document.head.admitted
  pub entries_are : entries ≡ document.entries
  pub first_is : first ≡ document.first
