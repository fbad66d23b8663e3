-- Texts and their lines.
use Rattle.std.proofs.Common.{◌≡◌, ℕ, ◌+◌, Bool, true, false, cond, nat_eq, List, [], ◌∷◌, ◌++◌, codes, Option, Some, None, refl, sym, ap, ◌∙◌}
use Rattle.std.specs.Str.{bytes_eq}
use Rattle.std.proofs.lemmas.Bool.{eqb-true}
use Rattle.std.proofs.lemmas.Slice.Eq.{bytes_eq-Decides}
use Rattle.rt_base.specs.declared.name.Names.{Names}
use Rattle.report_text.specs.Pieces.{pieces, longer}
use Rattle.report_text.specs.Document.{lines_of}
use Rattle.report_text.proofs.Counted.{Text}
use Rattle.run_report.specs.declared.verdict.Verdict.{Verdict}
use Rattle.run_report.specs.declared.verdict.Verdict.TheVariants.{Legal, BadLine, Unfinished, BadSet, NotALegalStep, WrongLine, WrongItem}
use Rattle.run_report.specs.Compared.{final_name, wrong_by, wrong, compared}

-- ---- lines joined again

abbrev joined : List (List ℕ) → List ℕ → List ℕ
joined [] last = last
joined (line ∷ lines) last = line ++ 10 ∷ joined lines last

longer_joined : (b : ℕ) (ps : List (List ℕ)) (last : List ℕ) → joined (longer b ps last).0 (longer b ps last).1 ≡ b ∷ joined ps last
longer_joined b [] last = refl
longer_joined b (p ∷ ps) last = refl

abbrev with_byte : ℕ → Bool → Text → Text
with_byte b is p = cond {A = Text} is ([] ∷ p.0, p.1) (longer b p.0 p.1)

one_byte : (b : ℕ) (p : Text) (is : Bool) → nat_eq b 10 ≡ is → joined (with_byte b is p).0 (with_byte b is p).1 ≡ b ∷ joined p.0 p.1
one_byte b p true e = ap (λ (k : ℕ). k ∷ joined p.0 p.1) (sym (eqb-true b 10 e))
one_byte b p false e = longer_joined b p.0 p.1

whole : (bs : List ℕ) → joined (lines_of bs).0 (lines_of bs).1 ≡ bs
whole [] = refl
whole (b ∷ bs) = one_byte b (pieces 10 bs) (nat_eq b 10) refl ∙ ap (λ (l : List ℕ). b ∷ l) (whole bs)

pub same_bytes : (a b : List ℕ) → (lines_of a).0 ≡ (lines_of b).0 → (lines_of a).1 ≡ [] → (lines_of b).1 ≡ [] → a ≡ b
same_bytes a b lines one two =
    sym (whole a)
    ∙ (ap (λ (ls : List (List ℕ)). joined ls (lines_of a).1) lines
    ∙ (ap (λ (last : List ℕ). joined (lines_of b).0 last) (one ∙ sym two) ∙ whole b))

-- ---- a text that ends with a line end

pub record EndedBy (p : Text) : Type 0 where
  pub line : List ℕ
  pub more : List (List ℕ)
  pub lines : p.0 ≡ line ∷ more
  pub last : p.1 ≡ []

byte_ended : (b : ℕ) (is : Bool) (p : Text) → EndedBy p → EndedBy (with_byte b is p)
byte_ended b true p h = record { line = []; more = p.0; lines = refl; last = h.last }
byte_ended b false p h = record {
  line = b ∷ h.line;
  more = h.more;
  lines = ap (λ (ps : List (List ℕ)). (longer b ps p.1).0) h.lines;
  last = ap (λ (ps : List (List ℕ)). (longer b ps p.1).1) h.lines ∙ h.last;
}

pub append_ended : (xs bs : List ℕ) → EndedBy (lines_of bs) → EndedBy (lines_of (xs ++ bs))
append_ended [] bs h = h
append_ended (x ∷ xs) bs h = byte_ended x (nat_eq x 10) (pieces 10 (xs ++ bs)) (append_ended xs bs h)

pub end_ended : EndedBy (lines_of (codes "end\n"))
end_ended = record { line = codes "end"; more = []; lines = refl; last = refl }

-- ---- what a comparison says

-- no other verdicts come of it
abbrev pub IsDifference : Verdict → Type 0
IsDifference Legal = Unit {0}
IsDifference (WrongLine n) = Unit {0}
IsDifference (WrongItem item) = Unit {0}
IsDifference (BadLine n) = ⊥
IsDifference Unfinished = ⊥
IsDifference (BadSet error) = ⊥
IsDifference (NotALegalStep n) = ⊥

abbrev either : Bool → Verdict → Verdict → Verdict
either same on off = elim same [ true ↦ on | false ↦ off ]

either_is : (is : Bool) (a b : Verdict) → IsDifference a → IsDifference b → IsDifference (either is a b)
either_is true a b one two = one
either_is false a b one two = two

wrong_is : (n : ℕ) (a b : Option (List ℕ)) → IsDifference (wrong_by n a b)
wrong_is n None b = tt
wrong_is n (Some a) None = tt
wrong_is n (Some a) (Some b) = either_is (bytes_eq a b) (WrongItem a) (WrongLine n) tt tt

pub is_difference : (names : Names) (n : ℕ) (ds rs : List (List ℕ)) → IsDifference (compared names n ds rs)
is_difference names n [] [] = tt
is_difference names n [] (r ∷ rs) = tt
is_difference names n (d ∷ ds) [] = tt
is_difference names n (d ∷ ds) (r ∷ rs) =
    either_is (bytes_eq d r) (compared names (n + 1) ds rs) (wrong names n d r) (is_difference names (n + 1) ds rs)
    (wrong_is n (final_name names d) (final_name names r))

not_both : (n : ℕ) (a : List ℕ) (is : Bool) → either is (WrongItem a) (WrongLine n) ≡ Legal → ⊥
not_both n a true e = absurd cc
not_both n a false e = absurd cc

wrong_not : (n : ℕ) (a b : Option (List ℕ)) → wrong_by n a b ≡ Legal → ⊥
wrong_not n None b e = absurd cc
wrong_not n (Some a) None e = absurd cc
wrong_not n (Some a) (Some b) e = not_both n a (bytes_eq a b) e

one_line : (names : Names) (n : ℕ) (d : List ℕ) (ds : List (List ℕ)) (r : List ℕ) (rs : List (List ℕ)) (is : Bool)
    → bytes_eq d r ≡ is → (compared names (n + 1) ds rs ≡ Legal → ds ≡ rs)
    → either is (compared names (n + 1) ds rs) (wrong names n d r) ≡ Legal → d ∷ ds ≡ r ∷ rs
one_line names n d ds r rs true is below e =
    ap (λ (l : List ℕ). l ∷ ds) ((bytes_eq-Decides d r).0 is) ∙ ap (λ (ls : List (List ℕ)). r ∷ ls) (below e)
one_line names n d ds r rs false is below e = absurd (wrong_not n (final_name names d) (final_name names r) e)

pub same_lines : (names : Names) (n : ℕ) (ds rs : List (List ℕ)) → compared names n ds rs ≡ Legal → ds ≡ rs
same_lines names n [] [] e = refl
same_lines names n [] (r ∷ rs) e = absurd cc
same_lines names n (d ∷ ds) [] e = absurd cc
same_lines names n (d ∷ ds) (r ∷ rs) e =
    one_line names n d ds r rs (bytes_eq d r) refl (same_lines names (n + 1) ds rs) e
