-- Two texts, line after line.
use Rattle.std.proofs.Common.{◌≡◌, ℕ, ◌+◌, Bool, true, false, List, [], ◌∷◌, Some, None, refl, sym, ap, subst, ◌∙◌}
use Rattle.std.specs.Str.{bytes_eq}
use Rattle.std.proofs.lemmas.Slice.Eq.{bytes_eq-Decides}
use Rattle.rt_base.specs.declared.name.Names.{Names}
use Rattle.line_fields.specs.Cuts.{cut_at}
use Rattle.report_text.specs.Document.{lines_of}
use Rattle.report_text.proofs.Walking.{first_line, no_line}
use Rattle.run_report.specs.declared.verdict.Verdict.{Verdict}
use Rattle.run_report.specs.declared.verdict.Verdict.TheVariants.{Legal, WrongLine}
use Rattle.run_report.specs.Compared.{wrong, compared}

-- what is said from line n on
abbrev pub from_line : Names → ℕ → List ℕ → List ℕ → Verdict
from_line names n document report = compared names n (lines_of document).0 (lines_of report).0

abbrev either : Bool → Verdict → Verdict → Verdict
either same on off = elim same [ true ↦ on | false ↦ off ]

-- both have a line
both_lines : (names : Names) (n : ℕ) (d line more r other after : List ℕ) → Some (line, more) ≡ cut_at 10 d → Some (other, after) ≡ cut_at 10 r
    → from_line names n d r ≡ either (bytes_eq line other) (from_line names (n + 1) more after) (wrong names n line other)
both_lines names n d line more r other after one two =
    ap (λ (ds : List (List ℕ)). compared names n ds (lines_of r).0) (first_line d line more one)
    ∙ ap (λ (rs : List (List ℕ)). compared names n (line ∷ (lines_of more).0) rs) (first_line r other after two)

pub goes_on : (names : Names) (n : ℕ) (d line more r other after : List ℕ) (total : Verdict) → Some (line, more) ≡ cut_at 10 d
    → Some (other, after) ≡ cut_at 10 r → bytes_eq line other ≡ true → from_line names n d r ≡ total
    → from_line names (n + 1) more after ≡ total
goes_on names n d line more r other after total one two same e =
    sym (both_lines names n d line more r other after one two
    ∙ ap (λ (b : Bool). either b (from_line names (n + 1) more after) (wrong names n line other)) same) ∙ e

pub differs : (names : Names) (n : ℕ) (d line more r other after : List ℕ) (total : Verdict) → Some (line, more) ≡ cut_at 10 d
    → Some (other, after) ≡ cut_at 10 r → bytes_eq line other ≡ false → from_line names n d r ≡ total
    → wrong names n line other ≡ total
differs names n d line more r other after total one two same e =
    sym (both_lines names n d line more r other after one two
    ∙ ap (λ (b : Bool). either b (from_line names (n + 1) more after) (wrong names n line other)) same) ∙ e

pub report_over : (names : Names) (n : ℕ) (d line more r : List ℕ) (total : Verdict) → Some (line, more) ≡ cut_at 10 d → None ≡ cut_at 10 r
    → from_line names n d r ≡ total → WrongLine n ≡ total
report_over names n d line more r total one two e =
    sym (ap (λ (ds : List (List ℕ)). compared names n ds (lines_of r).0) (first_line d line more one)
    ∙ ap (λ (rs : List (List ℕ)). compared names n (line ∷ (lines_of more).0) rs) (no_line r two)) ∙ e

pub document_over : (names : Names) (n : ℕ) (d r : List ℕ) (total : Verdict) → None ≡ cut_at 10 d → from_line names n d r ≡ total
    → compared names n [] (lines_of r).0 ≡ total
document_over names n d r total one e =
    sym (ap (λ (ds : List (List ℕ)). compared names n ds (lines_of r).0) (no_line d one)) ∙ e

pub over_some : (names : Names) (n : ℕ) (r other after : List ℕ) → Some (other, after) ≡ cut_at 10 r
    → WrongLine n ≡ compared names n [] (lines_of r).0
over_some names n r other after two = sym (ap (λ (rs : List (List ℕ)). compared names n [] rs) (first_line r other after two))

pub over_none : (names : Names) (n : ℕ) (r : List ℕ) → None ≡ cut_at 10 r → Legal ≡ compared names n [] (lines_of r).0
over_none names n r two = sym (ap (λ (rs : List (List ℕ)). compared names n [] rs) (no_line r two))

-- ---- a text beside itself

alike : (names : Names) (n : ℕ) (ls : List (List ℕ)) → compared names n ls ls ≡ Legal
alike names n [] = refl
alike names n (l ∷ ls) =
    ap (λ (b : Bool). either b (compared names (n + 1) ls ls) (wrong names n l l)) ((bytes_eq-Decides l l).1 refl) ∙ alike names (n + 1) ls

pub same_text : (names : Names) (d r : List ℕ) → bytes_eq d r ≡ true → Legal ≡ from_line names 1 d r
same_text names d r e =
    subst (λ (t : List ℕ). Legal ≡ from_line names 1 d t) ((bytes_eq-Decides d r).0 e) (sym (alike names 1 (lines_of d).0))
