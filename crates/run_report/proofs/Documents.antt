-- What a document that was read meets.
use Rattle.std.proofs.Common.{◌≡◌, ℕ, ◌+◌, ◌-◌, ◌≤◌, Bool, true, false, List, [], ◌∷◌, drop, length, Option, Some, None, Result, Ok, Err, refl, sym, ap, subst, arith, length-drop}
use Rattle.report_text.specs.declared.read.Head.{Head}
use Rattle.report_text.specs.declared.read.HeadError.{HeadError}
use Rattle.report_text.specs.Head.{head_of}
use Rattle.report_text.specs.IsHead.{IsHead}
use Rattle.report_text.proofs.GoodHead.{head_good}
use Rattle.report_text.specs.declared.forms.Kind.{Kind}
use Rattle.report_text.specs.declared.document.Document.{Document}
use Rattle.report_text.specs.declared.document.DocumentError.{DocumentError}
use Rattle.report_text.specs.Forms.{is_end}
use Rattle.report_text.specs.Document.{lines_of, from_entries, after_parts, over_at, end_at, number_in, kind_of, document, unless, body_of, after_head, document_of}
use Rattle.report_text.proofs.Counted.{few_lines, head_within}
use Rattle.report_text.proofs.Reading.{Answer, closed}

pub record IsRead (bytes : List ℕ) (d : Document) : Type 0 where
  pub good : IsHead d.head
  pub ended : (lines_of bytes).1 ≡ []
  pub first : d.first ≤ 1 + length bytes

over_none : (n : ℕ) (lines : List (List ℕ)) (last : List ℕ) → over_at n lines last ≡ None → last ≡ []
over_none n [] [] e = refl
over_none n [] (b ∷ bs) e = absurd cc
over_none n (line ∷ lines) last e = absurd cc

closed_none : (n : ℕ) (is : Bool) (lines : List (List ℕ)) (last : List ℕ) → closed n is lines last ≡ None → last ≡ []
closed_none n true lines last e = over_none (n + 1) lines last e
closed_none n false lines last e = absurd cc

end_none : (n : ℕ) (lines : List (List ℕ)) (last : List ℕ) → end_at n lines last ≡ None → last ≡ []
end_none n [] [] e = refl
end_none n [] (b ∷ bs) e = absurd cc
end_none n (line ∷ lines) last e = closed_none n (is_end line) lines last e

ok_is : (a b : Document) → ◌≡◌ {A = Answer} (Ok a) (Ok b) → a ≡ b
ok_is a b e = cc

unless_none : (o : Option DocumentError) (m d : Document) → unless o m ≡ Ok d → o ≡ None
unless_none None m d e = refl
unless_none (Some x) m d e = absurd cc

unless_is : (o : Option DocumentError) (m d : Document) → unless o m ≡ Ok d → m ≡ d
unless_is None m d e = ok_is m d e
unless_is (Some x) m d e = absurd cc

body_read : (bytes : List ℕ) (head : Head) (kind : Kind) (d : Document) → IsHead head → head.lines ≤ length (lines_of bytes).0
    → body_of head kind (head.lines + 1) (drop head.lines (lines_of bytes).0) (lines_of bytes).1 ≡ Ok d
    → IsRead bytes d
unfolding body_of
body_read bytes head kind d good within e =
    let lines : List (List ℕ) = drop head.lines (lines_of bytes).0 in
    let last : List ℕ = (lines_of bytes).1 in
    let n : ℕ = head.lines + 1 in
    let es : List (List ℕ) = from_entries kind head.names lines in
    let left : List (List ℕ) = after_parts kind head.names es in
    let fault : Option DocumentError = end_at (number_in n lines left) left last in
    let made : Document = document head kind n lines es in
    let first : number_in n lines es ≡ d.first = ap (λ (x : Document). x.first) (unless_is fault made d e) in
    let few : length lines ≡ length (lines_of bytes).0 - head.lines = length-drop head.lines (lines_of bytes).0 in
    record {
      good = subst IsHead (ap (λ (x : Document). x.head) (unless_is fault made d e)) good;
      ended = end_none (number_in n lines left) left last (unless_none fault made d e);
      first = omega (arith, first, few, within, few_lines bytes);
    }

from_head : (bytes : List ℕ) (r : Result Head HeadError) (d : Document) → r ≡ head_of bytes
    → after_head (lines_of bytes).0 (lines_of bytes).1 r ≡ Ok d → IsRead bytes d
from_head bytes (Err error) d is e = absurd cc
from_head bytes (Ok head) d is e = body_read bytes head (kind_of (lines_of bytes).0 head) d (head_good bytes head (sym is)) (head_within bytes head is) e

pub is_read : (bytes : List ℕ) (d : Document) → document_of bytes ≡ Ok d → IsRead bytes d
unfolding document_of
is_read bytes d e = from_head bytes (head_of bytes) d refl e
