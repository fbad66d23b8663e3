-- The parts put together.
use Rattle.std.proofs.Common.{◌≡◌, ℕ, ◌+◌, Bool, true, false, cond, nat_eq, List, [], ◌∷◌, Option, Some, None, Result, Ok, Err, refl, sym, ap, subst, ◌∙◌, arith}
use Rattle.line_fields.specs.Cuts.{cut_at}
use Rattle.rt_base.specs.declared.name.Names.{Names}
use Rattle.step_journal.specs.declared.entry.Entry.{Entry}
use Rattle.report_text.specs.Pieces.{pieces, longer}
use Rattle.report_text.specs.declared.read.Head.{Head}
use Rattle.report_text.specs.declared.read.HeadError.{HeadError}
use Rattle.report_text.specs.declared.read.HeadError.TheVariants as head
use Rattle.report_text.specs.Head.{head_of, Gives}
use Rattle.report_text.specs.declared.forms.Kind.{Kind}
use Rattle.report_text.specs.declared.forms.Section.TheVariants.{Jobs, Finals}
use Rattle.report_text.specs.declared.document.Document.{Document}
use Rattle.report_text.specs.declared.document.DocumentError.{DocumentError}
use Rattle.report_text.specs.declared.document.DocumentError.TheVariants.{BadLine, Unfinished, OutOfMemory}
use Rattle.report_text.specs.Forms.{section_form, entry_form, is_end}
use Rattle.report_text.specs.Document.{lines_of, front, after, from_entries, after_parts, over_at, end_at, number_in, is_second, unless, body_of, fault_of, after_head, document_of, Reads, Moves}
use Rattle.report_text.proofs.Walking.{first_line, same_last, no_line, all_last, further}

-- ---- the end

abbrev Text : Type 0
Text = List (List ℕ) × List ℕ

longer_over : (n b : ℕ) (ps : List (List ℕ)) (last : List ℕ) → Some (BadLine n) ≡ over_at n (longer b ps last).0 (longer b ps last).1
longer_over n b [] last = refl
longer_over n b (p ∷ ps) last = refl

byte_over : (n b : ℕ) (p : Text) (is : Bool)
    → Some (BadLine n) ≡ over_at n (cond {A = Text} is ([] ∷ p.0, p.1) (longer b p.0 p.1)).0 (cond {A = Text} is ([] ∷ p.0, p.1) (longer b p.0 p.1)).1
byte_over n b p true = refl
byte_over n b p false = longer_over n b p.0 p.1

pub more_left : (n : ℕ) (bs : List ℕ) → (bs ≡ [] → ⊥) → Some (BadLine n) ≡ over_at n (lines_of bs).0 (lines_of bs).1
more_left n [] some = absurd (some refl)
more_left n (b ∷ bs) some = byte_over n b (pieces 10 bs) (nat_eq b 10)

abbrev pub closed : ℕ → Bool → List (List ℕ) → List ℕ → Option DocumentError
closed n is lines last = elim is [ true ↦ over_at (n + 1) lines last | false ↦ Some (BadLine n) ]

end_line : (n : ℕ) (bs line rest : List ℕ) → Some (line, rest) ≡ cut_at 10 bs
    → closed n (is_end line) (lines_of rest).0 (lines_of rest).1 ≡ end_at n (lines_of bs).0 (lines_of bs).1
end_line n bs line rest cut =
    ap (λ (last : List ℕ). closed n (is_end line) (lines_of rest).0 last) (sym (same_last bs line rest cut))
    ∙ ap (λ (ls : List (List ℕ)). end_at n ls (lines_of bs).1) (sym (first_line bs line rest cut))

pub at_end : (n : ℕ) (bs line rest : List ℕ) (o : Option DocumentError) → Some (line, rest) ≡ cut_at 10 bs → is_end line ≡ true
    → o ≡ over_at (n + 1) (lines_of rest).0 (lines_of rest).1 → o ≡ end_at n (lines_of bs).0 (lines_of bs).1
at_end n bs line rest o cut is e =
    e ∙ (ap (λ (b : Bool). closed n b (lines_of rest).0 (lines_of rest).1) (sym is) ∙ end_line n bs line rest cut)

pub not_end : (n : ℕ) (bs line rest : List ℕ) → Some (line, rest) ≡ cut_at 10 bs → is_end line ≡ false
    → Some (BadLine n) ≡ end_at n (lines_of bs).0 (lines_of bs).1
not_end n bs line rest cut is =
    ap (λ (b : Bool). closed n b (lines_of rest).0 (lines_of rest).1) (sym is) ∙ end_line n bs line rest cut

pub none_left : (n : ℕ) (bs : List ℕ) (o : Option DocumentError) → None ≡ cut_at 10 bs → o ≡ end_at n [] bs
    → o ≡ end_at n (lines_of bs).0 (lines_of bs).1
none_left n bs o cut e =
    e ∙ (ap (λ (last : List ℕ). end_at n [] last) (sym (all_last bs cut))
    ∙ ap (λ (ls : List (List ℕ)). end_at n ls (lines_of bs).1) (sym (no_line bs cut)))

-- ---- the first line

pub second_some : (bs line rest : List ℕ) → Some (line, rest) ≡ cut_at 10 bs
    → is_second (line ∷ (lines_of rest).0) ≡ is_second (lines_of bs).0
second_some bs line rest cut = ap is_second (sym (first_line bs line rest cut))

pub second_none : (bs : List ℕ) → None ≡ cut_at 10 bs → false ≡ is_second (lines_of bs).0
second_none bs cut = ap is_second (sym (no_line bs cut))

-- ---- the parts

number_is : (n : ℕ) (text : List ℕ) (m : ℕ) (r : List ℕ) (ls : List (List ℕ)) → Moves n text m r ls
    → m ≡ number_in n (lines_of text).0 ls
number_is n text m r ls h = omega (arith, h.number)

abbrev made : Head → Bool → List Entry → ℕ → Document
made head second entries first = record { head = head; second = second; entries = entries; first = first }

abbrev entries_form : Kind → Names → List ℕ → Option Entry
entries_form kind names = entry_form kind.second names

abbrev closing : Kind → Names → List (List ℕ) → List (List ℕ)
closing kind names ls = after (section_form Finals kind names) (after (section_form Jobs kind names) ls)

pub body_reads : (head : Head) (kind : Kind) (n : ℕ) (text : List ℕ) (first : ℕ) (r1 : List ℕ) (jobs : ℕ) (r2 : List ℕ) (e : ℕ) (r3 : List ℕ)
    (entries : List Entry) (o : Option DocumentError)
    → Moves n text first r1 (from_entries kind head.names (lines_of text).0)
    → Moves first r1 jobs r2 (after (entries_form kind head.names) (lines_of r1).0)
    → Moves jobs r2 e r3 (closing kind head.names (lines_of r2).0)
    → entries ≡ front (entries_form kind head.names) (lines_of r1).0
    → o ≡ end_at e (lines_of r3).0 (lines_of r3).1
    → unless o (made head kind.second entries first) ≡ body_of head kind n (lines_of text).0 (lines_of text).1
unfolding body_of after_parts
body_reads head kind n text first r1 jobs r2 e r3 entries o m1 m2 m3 got is =
    let es : List (List ℕ) = from_entries kind head.names (lines_of text).0 in
    let to_jobs : Moves n text jobs r2 (after (entries_form kind head.names) es) =
    further (after (entries_form kind head.names)) n text first r1 es jobs r2 m1 m2 in
    let to_end : Moves n text e r3 (closing kind head.names (after (entries_form kind head.names) es)) =
    further (closing kind head.names) n text jobs r2 (after (entries_form kind head.names) es) e r3 to_jobs m3 in
    let left : List (List ℕ) = closing kind head.names (after (entries_form kind head.names) es) in
    let number : e ≡ number_in n (lines_of text).0 left = number_is n text e r3 left to_end in
    let ended : o ≡ end_at (number_in n (lines_of text).0 left) left (lines_of text).1 =
    is ∙ (ap (λ (k : ℕ). end_at k (lines_of r3).0 (lines_of r3).1) number
    ∙ (ap (λ (ls : List (List ℕ)). end_at (number_in n (lines_of text).0 left) ls (lines_of r3).1) to_end.left
    ∙ ap (λ (last : List ℕ). end_at (number_in n (lines_of text).0 left) left last) to_end.last)) in
    let read : entries ≡ front (entries_form kind head.names) es = got ∙ ap (front (entries_form kind head.names)) m1.left in
    let at : first ≡ number_in n (lines_of text).0 es = number_is n text first r1 es m1 in
    ap (λ (x : Option DocumentError). unless x (made head kind.second entries first)) ended
    ∙ (ap (λ (x : List Entry). unless (end_at (number_in n (lines_of text).0 left) left (lines_of text).1) (made head kind.second x first)) read
    ∙ ap (λ (x : ℕ). unless (end_at (number_in n (lines_of text).0 left) left (lines_of text).1) (made head kind.second (front (entries_form kind head.names) es) x)) at)

-- ---- the answer

abbrev pub Answer : Type 0
Answer = Result Document DocumentError

-- an answer that is meant is given
pub given : (r want : Answer) → r ≡ want → Reads r want
given (Ok d) want e = e
given (Err (BadLine n)) want e = e
given (Err Unfinished) want e = e
given (Err OutOfMemory) want e = tt

pub given_along : (r a b : Answer) → Reads r a → a ≡ b → Reads r b
given_along r a b g e = subst (Reads r) e g

pub head_refused : (bytes : List ℕ) (error : HeadError) → Gives (Err error) (head_of bytes)
    → Reads (Err (fault_of error)) (document_of bytes)
unfolding document_of
head_refused bytes head.OutOfMemory g = tt
head_refused bytes other g = ap (after_head (lines_of bytes).0 (lines_of bytes).1) g

pub head_read : (bytes : List ℕ) (head : Head) (r : Answer) → Ok head ≡ head_of bytes
    → Reads r (after_head (lines_of bytes).0 (lines_of bytes).1 (Ok head)) → Reads r (document_of bytes)
unfolding document_of
head_read bytes head r is h = subst (Reads r) (ap (after_head (lines_of bytes).0 (lines_of bytes).1) is) h
