-- A document: the lines of a report in their order. What they say is judged elsewhere.
use Rattle.std.specs.Prelude.{ℕ, ◌≡◌, ◌≤◌, ◌+◌, ◌-◌, Bool, true, false, List, [], ◌∷◌, drop, length, codes, Option, Some, None, Result, Ok, Err}
use Rattle.std.specs.Str.{bytes_eq}
use Rattle.rt_base.specs.declared.name.Names.{Names}
use Rattle.report_text.specs.Pieces.{pieces}
use Rattle.report_text.specs.declared.read.Head.{Head}
use Rattle.report_text.specs.declared.read.HeadError.{HeadError}
use Rattle.report_text.specs.declared.read.HeadError.TheVariants as head
use Rattle.report_text.specs.Head.{head_of}
use Rattle.report_text.specs.declared.forms.Kind.{Kind}
use Rattle.report_text.specs.declared.forms.Section.TheVariants.{Ceilings, Bounds, Ages, Jobs, Finals}
use Rattle.report_text.specs.declared.document.Document.{Document}
use Rattle.report_text.specs.declared.document.DocumentError.{DocumentError}
use Rattle.report_text.specs.declared.document.DocumentError.TheVariants.{BadLine, Unfinished, OutOfMemory}
use Rattle.report_text.specs.Forms.{section_form, entry_form, is_end}

-- the lines of a text, each without its line end, and what stands after the last line end
abbrev pub lines_of : List ℕ → List (List ℕ) × List ℕ
lines_of bytes = pieces 10 bytes

-- what the lines at the front are read as, up to the first that is not of the form
abbrev pub front : {A : Type 0} → (List ℕ → Option A) → List (List ℕ) → List A
front form [] = []
front form (line ∷ lines) = elim (form line) [ None ↦ [] | Some a ↦ a ∷ front form lines ]

-- the lines from the first on that is not of the form
abbrev pub after : {A : Type 0} → (List ℕ → Option A) → List (List ℕ) → List (List ℕ)
after form [] = []
after form (line ∷ lines) = elim (form line) [ None ↦ line ∷ lines | Some a ↦ after form lines ]

-- ---- the parts in their order

-- the lines from the entries on: the ceilings, the bounds and the ages stand before them
unfoldable pub from_entries : Kind → Names → List (List ℕ) → List (List ℕ)
from_entries kind names lines =
    after (section_form Ages kind names) (after (section_form Bounds kind names) (after (section_form Ceilings kind names) lines))

-- the lines after the entries, the jobs and the last items
unfoldable pub after_parts : Kind → Names → List (List ℕ) → List (List ℕ)
after_parts kind names lines =
    after (section_form Finals kind names) (after (section_form Jobs kind names) (after (entry_form kind.second names) lines))

-- ---- the end

-- nothing stands from line n on
abbrev pub over_at : ℕ → List (List ℕ) → List ℕ → Option DocumentError
over_at n [] [] = None
over_at n [] (b ∷ bs) = Some (BadLine n)
over_at n (line ∷ lines) last = Some (BadLine n)

-- what is left from line n on is the line `end` alone
abbrev pub end_at : ℕ → List (List ℕ) → List ℕ → Option DocumentError
end_at n [] [] = Some Unfinished
end_at n [] (b ∷ bs) = Some (BadLine n)
end_at n (line ∷ lines) last = elim (is_end line) [ true ↦ over_at (n + 1) lines last | false ↦ Some (BadLine n) ]

-- ---- the whole

-- the number of the line with which the rest of these lines begins, where they are numbered from `first`
abbrev pub number_in : ℕ → List (List ℕ) → List (List ℕ) → ℕ
number_in first lines rest = (first + length lines) - length rest

abbrev pub is_second : List (List ℕ) → Bool
is_second [] = false
is_second (line ∷ lines) = bytes_eq line (codes "rtdb report 2")

abbrev pub kind_of : List (List ℕ) → Head → Kind
kind_of lines head = record { second = is_second lines; admitted = head.admitted }

abbrev pub document : Head → Kind → ℕ → List (List ℕ) → List (List ℕ) → Document
document head kind first lines entries = record {
  head = head;
  second = kind.second;
  entries = front (entry_form kind.second head.names) entries;
  first = number_in first lines entries;
}

abbrev pub unless : Option DocumentError → Document → Result Document DocumentError
unless None document = Ok document
unless (Some error) document = Err error

abbrev pub document_from : Head → Kind → ℕ → List (List ℕ) → List ℕ → List (List ℕ) → List (List ℕ) → Result Document DocumentError
document_from head kind first lines last entries left =
    unless (end_at (number_in first lines left) left last) (document head kind first lines entries)

-- the document with this head, whose lines after the head are these and are numbered from `first`
unfoldable pub body_of : Head → Kind → ℕ → List (List ℕ) → List ℕ → Result Document DocumentError
body_of head kind first lines last =
    document_from head kind first lines last (from_entries kind head.names lines)
    (after_parts kind head.names (from_entries kind head.names lines))

abbrev pub fault_of : HeadError → DocumentError
fault_of (head.BadLine n) = BadLine n
fault_of head.Unfinished = Unfinished
fault_of head.OutOfMemory = OutOfMemory

abbrev pub after_head : List (List ℕ) → List ℕ → Result Head HeadError → Result Document DocumentError
after_head lines last (Err error) = Err (fault_of error)
after_head lines last (Ok head) = body_of head (kind_of lines head) (head.lines + 1) (drop head.lines lines) last

-- the document, or the first of its lines that is not of its form, has no line end or stands out of order; Unfinished
-- where there is no such line, and no line `end`
unfoldable pub document_of : List ℕ → Result Document DocumentError
document_of bytes = after_head (lines_of bytes).0 (lines_of bytes).1 (head_of bytes)

-- the answer, want of memory aside
abbrev pub Reads : Result Document DocumentError → Result Document DocumentError → Type 0
Reads (Ok document) want = Ok document ≡ want
Reads (Err (BadLine n)) want = Err (BadLine n) ≡ want
Reads (Err Unfinished) want = Err Unfinished ≡ want
Reads (Err OutOfMemory) want = Unit {0}

-- ---- moving on in a text

-- from line `first` of a text to line n, from which these lines are left
pub record Moves (first : ℕ) (text : List ℕ) (n : ℕ) (rest : List ℕ) (lines : List (List ℕ)) : Type 0 where
  pub left : (lines_of rest).0 ≡ lines
  pub last : (lines_of rest).1 ≡ (lines_of text).1
  pub number : n + length lines ≡ first + length (lines_of text).0
  pub few : n + length rest ≤ first + length text
