-- A text, line after line.
use Rattle.std.proofs.Common.{◌≡◌, ℕ, zero, suc, ◌+◌, ◌≤◌, List, [], ◌∷◌, ◌++◌, length, drop, Option, Some, None, refl, sym, ap, subst, ◌∙◌, arith, append_assoc, add-one}
use Rattle.std.proofs.lemmas.List.{append-nil}
use Rattle.line_fields.specs.Cuts.{cut_at}
use Rattle.report_text.proofs.PieceLaws.{first_piece, last_piece, shorter}
use Rattle.report_text.specs.Document.{lines_of, front, after, Moves}

abbrev Text : Type 0
Text = List (List ℕ) × List ℕ

-- ---- one line

pub first_line : (bs line more : List ℕ) → Some (line, more) ≡ cut_at 10 bs → (lines_of bs).0 ≡ line ∷ (lines_of more).0
first_line bs line more cut = ap (λ (p : Text). p.0) (first_piece 10 bs line more (sym cut))

pub same_last : (bs line more : List ℕ) → Some (line, more) ≡ cut_at 10 bs → (lines_of bs).1 ≡ (lines_of more).1
same_last bs line more cut = ap (λ (p : Text). p.1) (first_piece 10 bs line more (sym cut))

pub no_line : (bs : List ℕ) → None ≡ cut_at 10 bs → (lines_of bs).0 ≡ []
no_line bs cut = ap (λ (p : Text). p.0) (last_piece 10 bs (sym cut))

pub all_last : (bs : List ℕ) → None ≡ cut_at 10 bs → (lines_of bs).1 ≡ bs
all_last bs cut = ap (λ (p : Text). p.1) (last_piece 10 bs (sym cut))

-- ---- the lines of a form

abbrev pub after_by : {A : Type 0} → List (List ℕ) → List (List ℕ) → Option A → List (List ℕ)
after_by stay go o = elim o [ None ↦ stay | Some a ↦ go ]

after_some : {A : Type 0} (form : List ℕ → Option A) (line : List ℕ) (lines : List (List ℕ)) (a : A) → form line ≡ Some a
    → after form (line ∷ lines) ≡ after form lines
after_some form line lines a e = ap (after_by (line ∷ lines) (after form lines)) e

after_none : {A : Type 0} (form : List ℕ → Option A) (line : List ℕ) (lines : List (List ℕ)) → form line ≡ None
    → after form (line ∷ lines) ≡ line ∷ lines
after_none form line lines e = ap (after_by (line ∷ lines) (after form lines)) e

abbrev pub front_by : {A : Type 0} → List A → Option A → List A
front_by rest o = elim o [ None ↦ [] | Some a ↦ a ∷ rest ]

front_some : {A : Type 0} (form : List ℕ → Option A) (line : List ℕ) (lines : List (List ℕ)) (a : A) → form line ≡ Some a
    → front form (line ∷ lines) ≡ a ∷ front form lines
front_some form line lines a e = ap (front_by (front form lines)) e

front_none : {A : Type 0} (form : List ℕ → Option A) (line : List ℕ) (lines : List (List ℕ)) → form line ≡ None
    → front form (line ∷ lines) ≡ []
front_none form line lines e = ap (front_by (front form lines)) e

-- what a walk over the lines of a form keeps
pub record Walked {A : Type 0} (form : List ℕ → Option A) (first : ℕ) (text : List ℕ) (n : ℕ) (rest : List ℕ) : Type 0 where
  pub left : after form (lines_of rest).0 ≡ after form (lines_of text).0
  pub last : (lines_of rest).1 ≡ (lines_of text).1
  pub number : n + length (lines_of rest).0 ≡ first + length (lines_of text).0
  pub few : n + length rest ≤ first + length text

pub at_start : {A : Type 0} (form : List ℕ → Option A) (first : ℕ) (text : List ℕ) → Walked form first text first text
at_start form first text = record { left = refl; last = refl; number = refl; few = omega arith }

pub goes_on : {A : Type 0} (form : List ℕ → Option A) (first : ℕ) (text : List ℕ) (n : ℕ) (rest line more : List ℕ) (a : A)
    → Some (line, more) ≡ cut_at 10 rest → form line ≡ Some a → Walked form first text n rest
    → Walked form first text (n + 1) more
goes_on form first text n rest line more a cut is w =
    let lines : (lines_of rest).0 ≡ line ∷ (lines_of more).0 = first_line rest line more cut in
    let count : length (lines_of rest).0 ≡ suc (length (lines_of more).0) = ap length lines in
    record {
      left = sym (after_some form line (lines_of more).0 a is) ∙ sym (ap (after form) lines) ∙ w.left;
      last = sym (same_last rest line more cut) ∙ w.last;
      number = omega (arith, count, w.number);
      few = omega (arith, shorter 10 rest line more (sym cut), w.few);
    }

stays : {A : Type 0} (form : List ℕ → Option A) (first : ℕ) (text : List ℕ) (n : ℕ) (rest : List ℕ)
    → after form (lines_of rest).0 ≡ (lines_of rest).0 → Walked form first text n rest
    → Moves first text n rest (after form (lines_of text).0)
stays form first text n rest e w =
    let here : (lines_of rest).0 ≡ after form (lines_of text).0 = sym e ∙ w.left in
    record {
      left = here;
      last = w.last;
      number = subst (λ (l : List (List ℕ)). n + length l ≡ first + length (lines_of text).0) here w.number;
      few = w.few;
    }

pub stops : {A : Type 0} (form : List ℕ → Option A) (first : ℕ) (text : List ℕ) (n : ℕ) (rest line more : List ℕ)
    → Some (line, more) ≡ cut_at 10 rest → form line ≡ None → Walked form first text n rest
    → Moves first text n rest (after form (lines_of text).0)
stops form first text n rest line more cut is w =
    let lines : (lines_of rest).0 ≡ line ∷ (lines_of more).0 = first_line rest line more cut in
    stays form first text n rest (ap (after form) lines ∙ after_none form line (lines_of more).0 is ∙ sym lines) w

pub ends : {A : Type 0} (form : List ℕ → Option A) (first : ℕ) (text : List ℕ) (n : ℕ) (rest : List ℕ)
    → None ≡ cut_at 10 rest → Walked form first text n rest
    → Moves first text n rest (after form (lines_of text).0)
ends form first text n rest cut w =
    let none : (lines_of rest).0 ≡ [] = no_line rest cut in
    stays form first text n rest (ap (after form) none ∙ sym none) w

-- ---- what is read on the way

pub one_more : {A : Type 0} (form : List ℕ → Option A) (got whole : List A) (rest line more : List ℕ) (a : A)
    → Some (line, more) ≡ cut_at 10 rest → form line ≡ Some a → got ++ front form (lines_of rest).0 ≡ whole
    → (got ++ a ∷ []) ++ front form (lines_of more).0 ≡ whole
one_more {A = A} form got whole rest line more a cut is e =
    let here : front form (lines_of rest).0 ≡ a ∷ front form (lines_of more).0 = ap (front form) (first_line rest line more cut) ∙ front_some form line (lines_of more).0 a is in
    append_assoc got (a ∷ []) (front form (lines_of more).0) ∙ (ap (λ (l : List A). got ++ l) (sym here) ∙ e)

all_read : {A : Type 0} (got whole more : List A) → more ≡ [] → got ++ more ≡ whole → got ≡ whole
all_read {A = A} got whole more none e = sym (append-nil got) ∙ (ap (λ (l : List A). got ++ l) (sym none) ∙ e)

pub read_stops : {A : Type 0} (form : List ℕ → Option A) (got whole : List A) (rest line more : List ℕ)
    → Some (line, more) ≡ cut_at 10 rest → form line ≡ None → got ++ front form (lines_of rest).0 ≡ whole → got ≡ whole
read_stops form got whole rest line more cut is e =
    all_read got whole (front form (lines_of rest).0)
    (ap (front form) (first_line rest line more cut) ∙ front_none form line (lines_of more).0 is) e

pub read_ends : {A : Type 0} (form : List ℕ → Option A) (got whole : List A) (rest : List ℕ) → None ≡ cut_at 10 rest
    → got ++ front form (lines_of rest).0 ≡ whole → got ≡ whole
read_ends form got whole rest cut e =
    all_read got whole (front form (lines_of rest).0) (ap (front form) (no_line rest cut)) e

-- ---- after some lines

pub drop_more : {A : Type 0} (i : ℕ) (xs : List A) → drop 1 (drop i xs) ≡ drop (i + 1) xs
drop_more i xs = at i xs ∙ ap (λ (n : ℕ). drop n xs) (sym (add-one i)) where
  at : {A : Type 0} (i : ℕ) (xs : List A) → drop 1 (drop i xs) ≡ drop (suc i) xs
  at zero xs = refl
  at (suc i) [] = refl
  at (suc i) (x ∷ xs) = at i xs

-- a walk goes on
pub further : (f : List (List ℕ) → List (List ℕ)) (n : ℕ) (text : List ℕ) (m : ℕ) (r : List ℕ) (ls : List (List ℕ)) (k : ℕ)
    (s : List ℕ) → Moves n text m r ls → Moves m r k s (f (lines_of r).0) → Moves n text k s (f ls)
further f n text m r ls k s a b =
    let same : f (lines_of r).0 ≡ f ls = ap f a.left in
    let count : length (lines_of r).0 ≡ length ls = ap length a.left in
    let long : length (f (lines_of r).0) ≡ length (f ls) = ap length same in
    record {
      left = b.left ∙ same;
      last = b.last ∙ a.last;
      number = omega (arith, count, long, a.number, b.number);
      few = omega (arith, a.few, b.few);
    }
