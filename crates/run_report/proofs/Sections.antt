-- The sections of a report, each read to its end.
use Rattle.std.proofs.Common.{◌≡◌, ℕ, ◌+◌, Bool, true, false, cond, List, [], ◌∷◌, ◌++◌, Option, Some, None, refl, ap, codes}
use Rattle.std.specs.Prelude.{not, ◌||◌}
use Rattle.std.specs.Str.{bytes_eq}
use Rattle.rt_base.specs.declared.name.Names.{Names}
use Rattle.step_journal.specs.declared.entry.Entry.{Entry}
use Rattle.line_fields.specs.Cuts.{◌>>=◌, word_of}
use Rattle.line_fields.proofs.CutLaws.{lacks_test}
use Rattle.journal_text.specs.Reading.{form_of}
use Rattle.report_text.specs.Rows.{numbered}
use Rattle.report_text.specs.declared.forms.Kind.{Kind}
use Rattle.report_text.specs.declared.forms.Section.TheVariants.{Ceilings, Bounds, Ages, Jobs, Finals}
use Rattle.report_text.specs.Forms.{begins, where_true, ceiling_form, bound_form, age_form, entry_form, job_form, final_form, section_form}
use Rattle.report_text.specs.Document.{lines_of, front, after}
use Rattle.run_report.proofs.Lines.{Each, IsLine, Passes, nothing_passes, line_passes, pass_then, FailsFirst, Stops, stop_after, Refuses, nothing_refuses, line_refuses, refuse_then}
use Rattle.run_report.proofs.Forms.{first_word, first_passes}
use Rattle.run_report.proofs.Entries.{EntryWords}

-- ---- sections

abbrev pub Test : Type 0
Test = List ℕ → Bool

-- the form goes over the text, and each line's first word passes the tests that the words of the section pass
pub record IsSection {B : Type 0} (Words : Test → Type 0) (form : List ℕ → Option B) (text : List ℕ) : Type 0 where
  pub passes : Passes form text
  pub first : (test : Test) → Words test → Refuses (first_word test) text

pub nothing_section : {B : Type 0} (Words : Test → Type 0) (form : List ℕ → Option B) → IsSection Words form []
nothing_section Words form =
    record { passes = nothing_passes form; first = λ test words. nothing_refuses (first_word test) }

pub line_section : {B : Type 0} (Words : Test → Type 0) (form : List ℕ → Option B) (text body : List ℕ) (b : B)
    → IsLine text body → form body ≡ Some b → ((test : Test) → Words test → first_word test body ≡ None)
    → IsSection Words form text
line_section Words form text body b line is first = record {
  passes = line_passes form text body b line is;
  first = λ test words. line_refuses (first_word test) text body line (first test words);
}

section_then : {B : Type 0} (Words : Test → Type 0) (form : List ℕ → Option B) (a b : List ℕ) → IsSection Words form a
    → IsSection Words form b → IsSection Words form (a ++ b)
section_then Words form a b h k = record {
  passes = pass_then form a b h.passes k.passes;
  first = λ test words. refuse_then (first_word test) a b (h.first test words) (k.first test words);
}

pub numbered_section : {A B : Type 0} (Words : Test → Type 0) (form : List ℕ → Option B) (f : ℕ → A → List ℕ) (i : ℕ)
    (xs : List A) → Each (λ k x. IsSection Words form (f k x)) i xs → IsSection Words form (numbered f i xs)
numbered_section Words form f i [] h = nothing_section Words form
numbered_section Words form f i (x ∷ xs) h =
    section_then Words form (f i x) (numbered f (i + 1) xs) h.0 (numbered_section Words form f (i + 1) xs h.1)

-- ---- tests of the first word

abbrev pub other_than : List ℕ → Test
other_than want w = not (bytes_eq w want)

abbrev pub no_entry : Test
no_entry w =
    not (bytes_eq w (codes "plan") || (bytes_eq w (codes "step") || (bytes_eq w (codes "block") || bytes_eq w (codes "idle"))))

-- a line whose first word passes the test is not of the form
abbrev Leaves : {A : Type 0} → Test → (List ℕ → Option A) → Type 0
Leaves test form = (line : List ℕ) → test (word_of line).0 ≡ true → form line ≡ None

is_not : (b : Bool) → not b ≡ true → b ≡ false
is_not true e = absurd cc
is_not false e = refl

begins_none : (want line : List ℕ) → other_than want (word_of line).0 ≡ true → begins want line ≡ None
unfolding begins
begins_none want line other =
    ap (λ (b : Bool). cond b (Some (word_of line).1) None) (is_not (bytes_eq (word_of line).0 want) other)

pub ceiling_leaves : (kind : Kind) (names : Names) → Leaves (other_than (codes "ceiling")) (section_form Ceilings kind names)
unfolding section_form ceiling_form
ceiling_leaves kind names line other = rw (begins_none (codes "ceiling") line other) refl

where_none : (admitted : Bool) (o : Option (List ℕ)) (next : List ℕ → Option (Unit {0})) → o ≡ None
    → (where_true admitted >>= λ allowed. o >>= next) ≡ None
where_none true o next none = ap (λ (p : Option (List ℕ)). p >>= next) none
where_none false o next none = refl

pub bound_leaves : (kind : Kind) (names : Names) → Leaves (other_than (codes "bound")) (section_form Bounds kind names)
unfolding section_form bound_form
bound_leaves kind names line other =
    where_none kind.admitted (begins (codes "bound") line) _ (begins_none (codes "bound") line other)

pub age_leaves : (kind : Kind) (names : Names) → Leaves (other_than (codes "age")) (section_form Ages kind names)
unfolding section_form age_form
age_leaves kind names line other =
    where_none kind.admitted (begins (codes "age") line) _ (begins_none (codes "age") line other)

pub job_leaves : (kind : Kind) (names : Names) → Leaves (other_than (codes "job")) (section_form Jobs kind names)
unfolding section_form job_form
job_leaves kind names line other = rw (begins_none (codes "job") line other) refl

pub final_leaves : (kind : Kind) (names : Names) → Leaves (other_than (codes "final")) (section_form Finals kind names)
unfolding section_form final_form
final_leaves kind names line other = rw (begins_none (codes "final") line other) refl

neither : (a b : Bool) → not (a || b) ≡ true → (a ≡ false) × (not b ≡ true)
neither true b e = absurd cc
neither false b e = (refl, e)

pub entry_leaves : (second : Bool) (names : Names) → Leaves no_entry (entry_form second names)
unfolding entry_form form_of
entry_leaves second names line other =
    let w : List ℕ = (word_of line).0 in
    let plan : (bytes_eq w (codes "plan") ≡ false) × (not (bytes_eq w (codes "step") || (bytes_eq w (codes "block") || bytes_eq w (codes "idle"))) ≡ true) =
    neither (bytes_eq w (codes "plan")) (bytes_eq w (codes "step") || (bytes_eq w (codes "block") || bytes_eq w (codes "idle"))) other in
    let step : (bytes_eq w (codes "step") ≡ false) × (not (bytes_eq w (codes "block") || bytes_eq w (codes "idle")) ≡ true) =
    neither (bytes_eq w (codes "step")) (bytes_eq w (codes "block") || bytes_eq w (codes "idle")) plan.1 in
    let block : (bytes_eq w (codes "block") ≡ false) × (not (bytes_eq w (codes "idle")) ≡ true) =
    neither (bytes_eq w (codes "block")) (bytes_eq w (codes "idle")) step.1 in
    rw (plan.0, step.0, block.0, is_not (bytes_eq w (codes "idle")) block.1) refl

none_given : (b : Bool) → ◌≡◌ {A = Option (Unit {0})} (cond b None (Some tt)) None → b ≡ true
none_given true e = refl
none_given false e = absurd cc

pub first_stops : {A : Type 0} (test : Test) (form : List ℕ → Option A) (lines : List (List ℕ)) → Leaves test form
    → FailsFirst (first_word test) lines → FailsFirst form lines
first_stops test form [] leaves h = tt
first_stops test form (line ∷ lines) leaves h = leaves line (none_given (test (word_of line).0) h)

-- the walk by the form stops at this text
pub stays : {A : Type 0} (test : Test) (form : List ℕ → Option A) (text : List ℕ) → Leaves test form
    → Stops (first_word test) text → after form (lines_of text).0 ≡ (lines_of text).0
stays test form text leaves h = stop_after form text (first_stops test form (lines_of text).0 leaves h)

-- ---- the parts after the declarations

abbrev pub Word : List ℕ → Test → Type 0
Word w test = test w ≡ true

pub end_stops : (test : Test) → Word (codes "end") test → Stops (first_word test) (codes "end\n")
end_stops test passes = first_passes test (codes "end") [] (lacks_test 32 (codes "end") refl) tt passes

-- ceilings, bounds and ages in mode admitted, entries, jobs and last items
pub record AreParts (kind : Kind) (names : Names) (history : List Entry) (c b a e j f : List ℕ) : Type 0 where
  pub ceilings : IsSection (Word (codes "ceiling")) (section_form Ceilings kind names) c
  pub bounds : kind.admitted ≡ true → IsSection (Word (codes "bound")) (section_form Bounds kind names) b
  pub ages : kind.admitted ≡ true → IsSection (Word (codes "age")) (section_form Ages kind names) a
  pub entries : IsSection EntryWords (entry_form kind.second names) e
  pub read : (rest : List ℕ) → front (entry_form kind.second names) (lines_of (e ++ rest)).0 ≡ history ++ front (entry_form kind.second names) (lines_of rest).0
  pub jobs : IsSection (Word (codes "job")) (section_form Jobs kind names) j
  pub finals : IsSection (Word (codes "final")) (section_form Finals kind names) f
