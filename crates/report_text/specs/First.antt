-- The entry of the first line of a text, in a report of a version.
use Rattle.std.specs.Prelude.{ℕ, ◌≡◌, Bool, List, Some, None}
use Rattle.rt_base.specs.declared.name.Names.{Names}
use Rattle.step_journal.specs.declared.entry.Entry.{Entry}
use Rattle.line_fields.specs.Cuts.{cut_at}
use Rattle.journal_text.specs.Lines.{entry_line}
use Rattle.report_text.specs.Forms.{entry_form}

-- the first line is this entry's, and this follows it
pub record IsFirst (second : Bool) (names : Names) (text : List ℕ) (entry : Entry) (more : List ℕ) : Type 0 where
  pub line : List ℕ
  pub cut : Some (line, more) ≡ cut_at 10 text
  pub form : entry_form second names line ≡ Some entry
  pub is : entry_line names entry ≡ line

-- the first line, if there is one, is no entry's
abbrev pub HasNone : Bool → Names → List ℕ → Type 0
HasNone second names text = (line more : List ℕ) → Some (line, more) ≡ cut_at 10 text → entry_form second names line ≡ None
