-- Texts of whole lines, and walks over them by a form.
use Rattle.std.proofs.Common.{◌≡◌, ℕ, zero, suc, ◌+◌, ◌<◌, List, [], ◌∷◌, ◌++◌, length, drop, get_or, Option, None, Some, refl, sym, ap, subst, ◌∙◌, arith, append_assoc}
use Rattle.line_fields.specs.Cuts.{Lacks}
use Rattle.report_text.proofs.PieceLaws.{pieces_cut}
use Rattle.report_text.specs.Rows.{numbered}
use Rattle.report_text.specs.Document.{lines_of, front, after}
use Rattle.report_text.proofs.Counted.{Text}
use Rattle.report_text.proofs.Walking.{after_by, front_by}
use Rattle.run_report.proofs.Every.{Every}

-- ---- each element with its place

abbrev pub Each : {A : Type 0} → (ℕ → A → Type 0) → ℕ → List A → Type 0
Each P i [] = Unit {0}
Each P i (x ∷ xs) = P i x × Each P (i + 1) xs

each_from : {A : Type 0} (P : ℕ → A → Type 0) (i : ℕ) (xs : List A) (d : A)
    → ((k : ℕ) → k < length xs → P (i + k) (get_or xs k d)) → Each P i xs
each_from P i [] d h = tt
each_from P i (x ∷ xs) d h =
    let here : i + 0 ≡ i = omega arith in (
      subst (λ (n : ℕ). P n x) here (h 0 (omega arith)),
      each_from P (i + 1) xs d (λ k lt.
          let next : i + suc k ≡ (i + 1) + k = omega arith in
          subst (λ (n : ℕ). P n (get_or xs k d)) next (h (suc k) (omega arith))),
    )

pub each_at : {A : Type 0} (P : ℕ → A → Type 0) (xs : List A) (d : A)
    → ((k : ℕ) → k < length xs → P k (get_or xs k d)) → Each P 0 xs
each_at P xs d h =
    each_from P 0 xs d (λ k lt. let is : k ≡ 0 + k = omega arith in subst (λ (n : ℕ). P n (get_or xs k d)) is (h k lt))

pub each_every : {A : Type 0} (Q : A → Type 0) (P : ℕ → A → Type 0) (i : ℕ) (xs : List A)
    → ((k : ℕ) (x : A) → Q x → P k x) → Every Q xs → Each P i xs
each_every Q P i [] f h = tt
each_every Q P i (x ∷ xs) f h = (f i x h.0, each_every Q P (i + 1) xs f h.1)

-- ---- one line

-- a text is one line, of this body
pub record IsLine (text body : List ℕ) : Type 0 where
  pub ends : (rest : List ℕ) → text ++ rest ≡ body ++ 10 ∷ rest
  pub lacks : Lacks 10 body

pub cut_line : (text body rest : List ℕ) → IsLine text body
    → lines_of (text ++ rest) ≡ (body ∷ (lines_of rest).0, (lines_of rest).1)
cut_line text body rest line = ap lines_of (line.ends rest) ∙ pieces_cut 10 body rest line.lacks

-- ---- a number of lines

pub record AreLines (n : ℕ) (text : List ℕ) : Type 0 where
  pub lines : (rest : List ℕ) → drop n (lines_of (text ++ rest)).0 ≡ (lines_of rest).0
  pub last : (rest : List ℕ) → (lines_of (text ++ rest)).1 ≡ (lines_of rest).1

pub no_lines : AreLines 0 []
no_lines = record { lines = λ rest. refl; last = λ rest. refl }

pub line_more : (text body : List ℕ) (n : ℕ) (more : List ℕ) → IsLine text body → AreLines n more
    → AreLines (suc n) (text ++ more)
line_more text body n more line h = record {
  lines = λ rest.
      ap (λ (t : List ℕ). drop (suc n) (lines_of t).0) (append_assoc text more rest)
      ∙ ap (λ (t : Text). drop (suc n) t.0) (cut_line text body (more ++ rest) line) ∙ h.lines rest;
  last = λ rest.
      ap (λ (t : List ℕ). (lines_of t).1) (append_assoc text more rest)
      ∙ ap (λ (t : Text). t.1) (cut_line text body (more ++ rest) line) ∙ h.last rest;
}

drop_none : {A : Type 0} (n : ℕ) → ◌≡◌ {A = List A} (drop n []) []
drop_none zero = refl
drop_none (suc n) = refl

drop_both : {A : Type 0} (m n k : ℕ) (xs : List A) → k ≡ m + n → drop k xs ≡ drop n (drop m xs)
drop_both zero n k xs e = let is : k ≡ n = omega (arith, e) in ap (λ (j : ℕ). drop j xs) is
drop_both (suc m) n k [] e = drop_none k ∙ sym (drop_none n)
drop_both (suc m) n zero (x ∷ xs) e = absurd (omega (arith, e))
drop_both (suc m) n (suc k) (x ∷ xs) e = drop_both m n k xs (omega (arith, e))

pub lines_then : (m n : ℕ) (a b : List ℕ) → AreLines m a → AreLines n b → AreLines (m + n) (a ++ b)
lines_then m n a b h k = record {
  lines = λ rest.
      ap (λ (t : List ℕ). drop (m + n) (lines_of t).0) (append_assoc a b rest)
      ∙ drop_both m n (m + n) (lines_of (a ++ (b ++ rest))).0 refl
      ∙ ap (drop n) (h.lines (b ++ rest)) ∙ k.lines rest;
  last = λ rest. ap (λ (t : List ℕ). (lines_of t).1) (append_assoc a b rest) ∙ h.last (b ++ rest) ∙ k.last rest;
}

pub numbered_lines : {A : Type 0} (f body : ℕ → A → List ℕ) (i : ℕ) (xs : List A)
    → Each (λ k x. IsLine (f k x) (body k x)) i xs → AreLines (length xs) (numbered f i xs)
numbered_lines f body i [] h = no_lines
numbered_lines f body i (x ∷ xs) h =
    line_more (f i x) (body i x) (length xs) (numbered f (i + 1) xs) h.0 (numbered_lines f body (i + 1) xs h.1)

-- ---- lines of a form

-- a walk by the form goes over the text
pub record Passes {A : Type 0} (form : List ℕ → Option A) (text : List ℕ) : Type 0 where
  pub over : (rest : List ℕ) → after form (lines_of (text ++ rest)).0 ≡ after form (lines_of rest).0
  pub last : (rest : List ℕ) → (lines_of (text ++ rest)).1 ≡ (lines_of rest).1

pub nothing_passes : {A : Type 0} (form : List ℕ → Option A) → Passes form []
nothing_passes form = record { over = λ rest. refl; last = λ rest. refl }

pub line_passes : {A : Type 0} (form : List ℕ → Option A) (text body : List ℕ) (a : A) → IsLine text body
    → form body ≡ Some a → Passes form text
line_passes form text body a line is = record {
  over = λ rest.
      ap (λ (t : Text). after form t.0) (cut_line text body rest line)
      ∙ ap (after_by (body ∷ (lines_of rest).0) (after form (lines_of rest).0)) is;
  last = λ rest. ap (λ (t : Text). t.1) (cut_line text body rest line);
}

pub pass_then : {A : Type 0} (form : List ℕ → Option A) (a b : List ℕ) → Passes form a → Passes form b
    → Passes form (a ++ b)
pass_then form a b h k = record {
  over = λ rest.
      ap (λ (t : List ℕ). after form (lines_of t).0) (append_assoc a b rest) ∙ h.over (b ++ rest) ∙ k.over rest;
  last = λ rest. ap (λ (t : List ℕ). (lines_of t).1) (append_assoc a b rest) ∙ h.last (b ++ rest) ∙ k.last rest;
}

-- what is read on the way

pub record IsRead {A : Type 0} (form : List ℕ → Option A) (text : List ℕ) (a : A) : Type 0 where
  pub body : List ℕ
  pub line : IsLine text body
  pub is : form body ≡ Some a

pub numbered_read : {A : Type 0} (form : List ℕ → Option A) (f : ℕ → A → List ℕ) (i : ℕ) (xs : List A) (rest : List ℕ)
    → Each (λ k x. IsRead form (f k x) x) i xs
    → front form (lines_of (numbered f i xs ++ rest)).0 ≡ xs ++ front form (lines_of rest).0
numbered_read form f i [] rest h = refl
numbered_read {A = A} form f i (x ∷ xs) rest h =
    let more : List ℕ = numbered f (i + 1) xs ++ rest in
    ap (λ (t : List ℕ). front form (lines_of t).0) (append_assoc (f i x) (numbered f (i + 1) xs) rest)
    ∙ ap (λ (t : Text). front form t.0) (cut_line (f i x) h.0.body more h.0.line)
    ∙ ap (front_by (front form (lines_of more).0)) h.0.is
    ∙ ap (λ (l : List A). x ∷ l) (numbered_read form f (i + 1) xs rest h.1)

-- ---- where a walk stops

abbrev pub FailsFirst : {A : Type 0} → (List ℕ → Option A) → List (List ℕ) → Type 0
FailsFirst form [] = Unit {0}
FailsFirst form (line ∷ lines) = form line ≡ None

-- the first line of the text, if there is one, is not of the form
abbrev pub Stops : {A : Type 0} → (List ℕ → Option A) → List ℕ → Type 0
Stops form text = FailsFirst form (lines_of text).0

after_first : {A : Type 0} (form : List ℕ → Option A) (lines : List (List ℕ)) → FailsFirst form lines
    → after form lines ≡ lines
after_first form [] h = refl
after_first form (line ∷ lines) h = ap (after_by (line ∷ lines) (after form lines)) h

pub stop_after : {A : Type 0} (form : List ℕ → Option A) (text : List ℕ) → Stops form text
    → after form (lines_of text).0 ≡ (lines_of text).0
stop_after form text h = after_first form (lines_of text).0 h

front_first : {A : Type 0} (form : List ℕ → Option A) (lines : List (List ℕ)) → FailsFirst form lines
    → front form lines ≡ []
front_first form [] h = refl
front_first form (line ∷ lines) h = ap (front_by (front form lines)) h

pub stop_front : {A : Type 0} (form : List ℕ → Option A) (text : List ℕ) → Stops form text
    → front form (lines_of text).0 ≡ []
stop_front form text h = front_first form (lines_of text).0 h

-- a walk that stops at what follows the text stops at the text
abbrev pub Refuses : {A : Type 0} → (List ℕ → Option A) → List ℕ → Type 0
Refuses form text = (rest : List ℕ) → Stops form rest → Stops form (text ++ rest)

pub line_refuses : {A : Type 0} (form : List ℕ → Option A) (text body : List ℕ) → IsLine text body → form body ≡ None
    → Refuses form text
line_refuses form text body line is rest h =
    subst (λ (t : Text). FailsFirst form t.0) (sym (cut_line text body rest line)) is

pub nothing_refuses : {A : Type 0} (form : List ℕ → Option A) → Refuses form []
nothing_refuses form rest h = h

pub refuse_then : {A : Type 0} (form : List ℕ → Option A) (a b : List ℕ) → Refuses form a → Refuses form b
    → Refuses form (a ++ b)
refuse_then form a b h k rest stops =
    subst (λ (t : List ℕ). Stops form t) (sym (append_assoc a b rest)) (h (b ++ rest) (k rest stops))
