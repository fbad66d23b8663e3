-- A text that begins with the line of an entry, and one that does not.
use Rattle.std.proofs.Common.{◌≡◌, ℕ, zero, suc, ◌<◌, Bool, true, false, List, [], ◌∷◌, ◌++◌, length, Option, Some, None, refl, sym, ap, subst, ◌∙◌, arith}
use Rattle.std.specs.List.{All}
use Rattle.std.specs.Prelude.{IfNone}
use Rattle.rt_base.specs.declared.name.Names.{Names}
use Rattle.step_journal.specs.declared.entry.Entry.{Entry}
use Rattle.line_fields.specs.Cuts.{◌>>=◌, cut_at}
use Rattle.line_fields.proofs.CutLaws.{some_is, none_some, bind_some}
use Rattle.journal_text.specs.Lines.{HasLine}
use Rattle.journal_text.specs.Reading.{entry_of}
use Rattle.journal_text.specs.Next.{first_entry}
use Rattle.journal_text.proofs.EntryLaws.{entry_takes}
use Rattle.report_text.specs.Forms.{where_true, may_be, entry_form}
use Rattle.report_text.specs.Document.{lines_of, front, after, Moves}
use Rattle.report_text.specs.First.{IsFirst, HasNone}
use Rattle.report_text.proofs.Walking.{Walked, stops, ends, read_stops, read_ends}

-- ---- what the first line is

abbrev of_line : Names → List ℕ × List ℕ → Option (Entry × List ℕ)
of_line names p = entry_of names p.0 >>= λ e. Some (e, p.1)

form_is : (second : Bool) (names : Names) (line : List ℕ) (entry : Entry) → entry_of names line ≡ Some entry
    → may_be second entry ≡ true → entry_form second names line ≡ Some entry
unfolding entry_form
form_is second names line entry is may = rw (is, may) refl

form_not : (second : Bool) (names : Names) (line : List ℕ) (entry : Entry) → entry_of names line ≡ Some entry
    → may_be second entry ≡ false → entry_form second names line ≡ None
unfolding entry_form
form_not second names line entry is may = rw (is, may) refl

form_none : (second : Bool) (names : Names) (line : List ℕ) → entry_of names line ≡ None → entry_form second names line ≡ None
unfolding entry_form
form_none second names line is = rw is refl

-- the line of an entry that was found
record Line (names : Names) (text : List ℕ) (entry : Entry) (more : List ℕ) : Type 0 where
  pub line : List ℕ
  pub cut : cut_at 10 text ≡ Some (line, more)
  pub is : entry_of names line ≡ Some entry

line_of : (names : Names) (text : List ℕ) (entry : Entry) (more : List ℕ) → Some (entry, more) ≡ first_entry names text
    → Line names text entry more
line_of names text entry more e =
    let p = bind_some (cut_at 10 text) (of_line names) (entry, more) (sym e) in
    let x = bind_some (entry_of names p.0.0) (λ e. Some (e, p.0.1)) (entry, more) p.2 in
    let same : (x.0, p.0.1) ≡ (entry, more) = some_is _ _ x.2 in
    record {
      line = p.0.0;
      cut = p.1 ∙ ap (λ (q : Entry × List ℕ). Some (p.0.0, q.1)) same;
      is = x.1 ∙ ap (λ (q : Entry × List ℕ). Some q.0) same;
    }

pub first_is : (second : Bool) (names : Names) (text : List ℕ) (entry : Entry) (more : List ℕ) → Some (entry, more) ≡ first_entry names text
    → may_be second entry ≡ true → IsFirst second names text entry more
first_is second names text entry more e may =
    let l = line_of names text entry more e in
    record { line = l.line; cut = sym l.cut; form = form_is second names l.line entry l.is may; is = (entry_takes names l.line entry l.is).1 }

pub first_not : (second : Bool) (names : Names) (text : List ℕ) (entry : Entry) (more : List ℕ) → Some (entry, more) ≡ first_entry names text
    → may_be second entry ≡ false → HasNone second names text
first_not second names text entry more e may line rest cut =
    let l = line_of names text entry more e in
    let same : (line, rest) ≡ (l.line, more) = some_is _ _ (cut ∙ l.cut) in
    ap (λ (p : List ℕ × List ℕ). entry_form second names p.0) same ∙ form_not second names l.line entry l.is may

abbrev with_rest : List ℕ → Entry → Option (Entry × List ℕ)
with_rest rest e = Some (e, rest)

entry_none : (o : Option Entry) (rest : List ℕ) → None ≡ (o >>= with_rest rest) → o ≡ None
entry_none None rest e = refl
entry_none (Some x) rest e = absurd (none_some (x, rest) e)

pub first_none : (second : Bool) (names : Names) (text : List ℕ) → None ≡ first_entry names text → HasNone second names text
first_none second names text e line rest cut =
    let here : None ≡ of_line names (line, rest) = e ∙ ap (λ (o : Option (List ℕ × List ℕ)). o >>= of_line names) (sym cut) in
    form_none second names line (entry_none (entry_of names line) rest here)

pub if_none : {A : Type 0} (o : Option A) (P : Type 0) → P → IfNone o P
if_none None P h = h
if_none (Some x) P h = tt

-- ---- the lines from there on

module _ (second : Bool) (names : Names) where
  abbrev form : List ℕ → Option Entry
  form = entry_form second names

  moved : (first : ℕ) (text : List ℕ) (n : ℕ) (rest : List ℕ) (o : Option (List ℕ × List ℕ)) → cut_at 10 rest ≡ o
      → HasNone second names rest → Walked form first text n rest → Moves first text n rest (after form (lines_of text).0)
  moved first text n rest None is none w = ends form first text n rest (sym is) w
  moved first text n rest (Some p) is none w = stops form first text n rest p.0 p.1 (sym is) (none p.0 p.1 (sym is)) w

  pub walked : (first : ℕ) (text : List ℕ) (n : ℕ) (rest : List ℕ) → HasNone second names rest → Walked form first text n rest
      → Moves first text n rest (after form (lines_of text).0)
  walked first text n rest none w = moved first text n rest (cut_at 10 rest) refl none w

  read : (got all : List Entry) (rest : List ℕ) (o : Option (List ℕ × List ℕ)) → cut_at 10 rest ≡ o → HasNone second names rest
      → got ++ front form (lines_of rest).0 ≡ all → got ≡ all
  read got all rest None is none e = read_ends form got all rest (sym is) e
  read got all rest (Some p) is none e = read_stops form got all rest p.0 p.1 (sym is) (none p.0 p.1 (sym is)) e

  pub all_got : (got all : List Entry) (rest : List ℕ) → HasNone second names rest
      → got ++ front form (lines_of rest).0 ≡ all → got ≡ all
  all_got got all rest none e = read got all rest (cut_at 10 rest) refl none e

-- ---- what is read has a line

form_has : (second : Bool) (names : Names) (line : List ℕ) (e : Entry) → entry_form second names line ≡ Some e → HasLine names e
unfolding entry_form
form_has second names line e is =
    let x = bind_some (entry_of names line) _ e is in
    let allowed = bind_some (where_true (may_be second x.0)) _ e x.2 in
    subst (HasLine names) (some_is _ e allowed.2) (entry_takes names line x.0 x.1).0

abbrev pub front_by : List Entry → Option Entry → List Entry
front_by rest o = elim o [ None ↦ [] | Some a ↦ a ∷ rest ]

all_more : (P : Entry → Type 0) (e : Entry) (es : List Entry) → P e → All P es → All P (e ∷ es)
all_more P e es one more zero d lt = one
all_more P e es one more (suc k) d lt = more k d (omega (arith, lt))

front_has : (names : Names) (rest : List Entry) (o : Option Entry) → ((e : Entry) → o ≡ Some e → HasLine names e)
    → All (HasLine names) rest → All (HasLine names) (front_by rest o)
front_has names rest None h more = λ k d lt. absurd (omega (arith, lt))
front_has names rest (Some e) h more = all_more (HasLine names) e rest (h e refl) more

pub front_lines : (second : Bool) (names : Names) (lines : List (List ℕ)) → All (HasLine names) (front (entry_form second names) lines)
front_lines second names [] = λ k d lt. absurd (omega (arith, lt))
front_lines second names (line ∷ lines) =
    front_has names (front (entry_form second names) lines) (entry_form second names line)
    (λ e is. form_has second names line e is) (front_lines second names lines)
