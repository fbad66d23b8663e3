-- How many lines a text has, and its head.
use Rattle.std.proofs.Common.{◌≡◌, ℕ, suc, ◌+◌, ◌≤◌, ◌<◌, Bool, true, false, cond, nat_eq, List, [], ◌∷◌, length, Option, Some, None, Result, Ok, Err, refl, sym, ap, arith}
use Rattle.report_text.specs.Pieces.{pieces, longer}
use Rattle.report_text.specs.declared.read.Head.{Head}
use Rattle.report_text.specs.declared.read.HeadError.{HeadError}
use Rattle.report_text.specs.declared.read.HeadError.TheVariants.{BadLine}
use Rattle.report_text.specs.Head.{Decls, nothing, Told, bad, more, mode, line_of, ended, head, lines_of, version_of, after_version, first_of, head_of}

abbrev pub Text : Type 0
Text = List (List ℕ) × List ℕ

longer_count : (b : ℕ) (ps : List (List ℕ)) (last : List ℕ) → length (longer b ps last).0 ≡ length ps
longer_count b [] last = refl
longer_count b (p ∷ ps) last = refl

one_byte : (b : ℕ) (p : Text) (is : Bool) (n : ℕ) → length p.0 ≤ n
    → length (cond {A = Text} is ([] ∷ p.0, p.1) (longer b p.0 p.1)).0 ≤ suc n
one_byte b p true n h = omega (arith, h)
one_byte b p false n h = omega (arith, h, longer_count b p.0 p.1)

pub few_lines : (bs : List ℕ) → length (pieces 10 bs).0 ≤ length bs
few_lines [] = omega arith
few_lines (b ∷ bs) = one_byte b (pieces 10 bs) (nat_eq b 10) (length bs) (few_lines bs)

-- ---- the mode line is one of the lines

abbrev Answer : Type 0
Answer = Result Head HeadError

pub err_ok : (e : HeadError) (h : Head) → Err e ≡ Ok h → ⊥
err_ok e h same = absurd cc

pub ended_none : (n : ℕ) (last : List ℕ) (out : Head) → ended n last ≡ Ok out → ⊥
ended_none n [] out e = err_ok _ out e
ended_none n (b ∷ bs) out e = err_ok _ out e

abbrev answer : Bool → ℕ → Told → List (List ℕ) → List ℕ → Answer
answer two n t lines last =
    elim t [ bad ↦ Err (BadLine n) | more e ↦ lines_of two e (n + 1) lines last | mode e admitted ↦ Ok (head e admitted n) ]

told_within : (two : Bool) (n : ℕ) (t : Told) (lines : List (List ℕ)) (last : List ℕ) (out : Head)
    → ((d : Decls) → lines_of two d (n + 1) lines last ≡ Ok out → out.lines < n + 1 + length lines)
    → answer two n t lines last ≡ Ok out → out.lines < n + suc (length lines)
told_within two n bad lines last out on e = absurd (err_ok _ out e)
told_within two n (more d) lines last out on e = omega (arith, on d e)
told_within two n (mode d admitted) lines last out on e =
    let same : head d admitted n ≡ out = cc in
    let number : n ≡ out.lines = ap (λ (h : Head). h.lines) same in omega (arith, number)

lines_within : (two : Bool) (d : Decls) (n : ℕ) (lines : List (List ℕ)) (last : List ℕ) (out : Head)
    → lines_of two d n lines last ≡ Ok out → out.lines < n + length lines
lines_within two d n [] last out e = absurd (ended_none n last out e)
lines_within two d n (line ∷ lines) last out e =
    told_within two n (line_of two d line) lines last out (λ d e. lines_within two d (n + 1) lines last out e) e

versioned : (v : Option Bool) (lines : List (List ℕ)) (last : List ℕ) (out : Head) → after_version v lines last ≡ Ok out
    → out.lines ≤ suc (length lines)
versioned None lines last out e = absurd (err_ok _ out e)
versioned (Some two) lines last out e = omega (arith, lines_within two nothing 2 lines last out e)

from_first : (lines : List (List ℕ)) (last : List ℕ) (out : Head) → first_of lines last ≡ Ok out → out.lines ≤ length lines
from_first [] last out e = absurd (ended_none 1 last out e)
from_first (line ∷ lines) last out e = versioned (version_of line) lines last out e

pub head_within : (bytes : List ℕ) (out : Head) → Ok out ≡ head_of bytes → out.lines ≤ length (pieces 10 bytes).0
unfolding head_of
head_within bytes out e = from_first (pieces 10 bytes).0 (pieces 10 bytes).1 out (sym e)
