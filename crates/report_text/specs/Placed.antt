-- Where the entries of a document stand in its bytes.
use Rattle.std.specs.Prelude.{ℕ, ◌≡◌, List, [], ◌∷◌, ◌++◌, length, Result, Ok, Err}
use Rattle.rt_base.specs.declared.name.Names.{Names}
use Rattle.step_journal.specs.declared.entry.Entry.{Entry}
use Rattle.journal_text.specs.Lines.{entry_line}
use Rattle.report_text.specs.declared.document.Document.{Document}
use Rattle.report_text.specs.declared.document.Placed.{Placed}
use Rattle.report_text.specs.declared.document.DocumentError.{DocumentError}

-- the lines of entries, each with its line end
abbrev pub entry_lines : Names → List Entry → List ℕ
entry_lines names [] = []
entry_lines names (e ∷ es) = entry_line names e ++ 10 ∷ entry_lines names es

-- a text ends with this one
pub record EndsWith (text rest : List ℕ) : Type 0 where
  pub front : List ℕ
  pub all : text ≡ front ++ rest

-- the lines of the entries begin where so many bytes of the text are left, and have ended where so many are
pub record Stand (names : Names) (entries : List Entry) (text : List ℕ) (begin end : ℕ) : Type 0 where
  pub front : List ℕ
  pub back : List ℕ
  pub all : text ≡ front ++ (entry_lines names entries ++ back)
  pub begins : begin ≡ length (entry_lines names entries ++ back)
  pub ends : end ≡ length back

-- the document alone
abbrev pub document_in : Result Placed DocumentError → Result Document DocumentError
document_in (Ok placed) = Ok placed.document
document_in (Err error) = Err error
