-- One more line of the head.
use Rattle.std.proofs.Common.{◌≡◌, ℕ, ◌+◌, Bool, List, Option, Some, None, Result, Ok, Err, sym, ap, subst, ◌∙◌}
use Rattle.line_fields.specs.Cuts.{cut_at}
use Rattle.report_text.specs.Pieces.{pieces}
use Rattle.report_text.specs.declared.read.Line.TheVariants.{Bad, More, Mode}
use Rattle.report_text.specs.declared.read.HeadError.{HeadError}
use Rattle.report_text.specs.declared.read.HeadError.TheVariants.{BadLine, Unfinished, OutOfMemory}
use Rattle.report_text.specs.declared.read.Head.{Head}
use Rattle.report_text.specs.Head.{Decls, nothing, Told, bad, more, mode, told_as, line_of, ended, head, lines_of, version_of, after_version, first_of, head_of, Gives}
use Rattle.report_text.proofs.PieceLaws.{first_piece, last_piece}

abbrev Answer : Type 0
Answer = Result Head HeadError

-- what is said of the head from line n on
abbrev pub rest_of : Bool → Decls → ℕ → List ℕ → Answer
rest_of two d n bs = lines_of two d n (pieces 10 bs).0 (pieces 10 bs).1

abbrev pub after : Bool → Decls → ℕ → Told → List ℕ → Answer
after two d n t rest =
    elim t [ bad ↦ Err (BadLine n) | more e ↦ rest_of two e (n + 1) rest | mode e admitted ↦ Ok (head e admitted n) ]

pub next_line : (two : Bool) (d : Decls) (n : ℕ) (bs f rest : List ℕ) → cut_at 10 bs ≡ Some (f, rest)
    → rest_of two d n bs ≡ after two d n (line_of two d f) rest
next_line two d n bs f rest e =
    ap (λ (p : List (List ℕ) × List ℕ). lines_of two d n p.0 p.1) (first_piece 10 bs f rest e)

pub goes_on : (two : Bool) (d e : Decls) (n : ℕ) (bs f rest : List ℕ) (total : Answer) → Some (f, rest) ≡ cut_at 10 bs
    → told_as More e ≡ line_of two d f → rest_of two d n bs ≡ total → rest_of two e (n + 1) rest ≡ total
goes_on two d e n bs f rest total cut said so_far =
    ap (λ (t : Told). after two d n t rest) said ∙ sym (next_line two d n bs f rest (sym cut)) ∙ so_far

pub is_bad : (two : Bool) (d e : Decls) (n : ℕ) (bs f rest : List ℕ) (total : Answer) → Some (f, rest) ≡ cut_at 10 bs
    → told_as Bad e ≡ line_of two d f → rest_of two d n bs ≡ total → Err (BadLine n) ≡ total
is_bad two d e n bs f rest total cut said so_far =
    ap (λ (t : Told). after two d n t rest) said ∙ sym (next_line two d n bs f rest (sym cut)) ∙ so_far

pub is_mode : (two admitted : Bool) (d e : Decls) (n : ℕ) (bs f rest : List ℕ) (total : Answer)
    → Some (f, rest) ≡ cut_at 10 bs → told_as (Mode admitted) e ≡ line_of two d f → rest_of two d n bs ≡ total
    → Ok (head e admitted n) ≡ total
is_mode two admitted d e n bs f rest total cut said so_far =
    ap (λ (t : Told). after two d n t rest) said ∙ sym (next_line two d n bs f rest (sym cut)) ∙ so_far

pub is_over : (two : Bool) (d : Decls) (n : ℕ) (bs : List ℕ) (total : Answer) → None ≡ cut_at 10 bs
    → rest_of two d n bs ≡ total → ended n bs ≡ total
is_over two d n bs total cut so_far =
    sym (ap (λ (p : List (List ℕ) × List ℕ). lines_of two d n p.0 p.1) (last_piece 10 bs (sym cut))) ∙ so_far

pub first_none : (bs : List ℕ) → None ≡ cut_at 10 bs → ended 1 bs ≡ head_of bs
unfolding head_of
first_none bs cut = sym (ap (λ (p : List (List ℕ) × List ℕ). first_of p.0 p.1) (last_piece 10 bs (sym cut)))

pub first_some : (bs f rest : List ℕ) → Some (f, rest) ≡ cut_at 10 bs
    → after_version (version_of f) (pieces 10 rest).0 (pieces 10 rest).1 ≡ head_of bs
unfolding head_of
first_some bs f rest cut =
    sym (ap (λ (p : List (List ℕ) × List ℕ). first_of p.0 p.1) (first_piece 10 bs f rest (sym cut)))

pub first_lines : (bs f rest : List ℕ) (two : Bool) → Some (f, rest) ≡ cut_at 10 bs → Some two ≡ version_of f
    → rest_of two nothing 2 rest ≡ head_of bs
first_lines bs f rest two cut is =
    ap (λ (v : Option Bool). after_version v (pieces 10 rest).0 (pieces 10 rest).1) is ∙ first_some bs f rest cut

pub first_bad : (bs f rest : List ℕ) → Some (f, rest) ≡ cut_at 10 bs → None ≡ version_of f
    → Err (BadLine 1) ≡ head_of bs
first_bad bs f rest cut is =
    ap (λ (v : Option Bool). after_version v (pieces 10 rest).0 (pieces 10 rest).1) is ∙ first_some bs f rest cut

-- an answer that is meant is given
pub given : (r want : Answer) → r ≡ want → Gives r want
given (Ok h) want e = e
given (Err (BadLine n)) want e = e
given (Err Unfinished) want e = e
given (Err OutOfMemory) want e = tt

pub given_along : (r a b : Answer) → Gives r a → a ≡ b → Gives r b
given_along r a b g e = subst (Gives r) e g
