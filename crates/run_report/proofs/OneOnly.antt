-- A document has one verdict.
use Rattle.std.proofs.Common.{◌≡◌, ◌⊎◌, ℕ, zero, suc, ◌+◌, ◌<◌, Bool, true, false, List, [], ◌∷◌, ◌++◌, take, Option, Some, None, Result, Ok, Err, refl, sym, ap, subst, ◌∙◌, inl, inr, arith}
use Rattle.std.specs.Prelude.{slice_get}
use Rattle.std.proofs.lemmas.Bool.{cases_lt}
use Rattle.std.proofs.lemmas.Slice.Eq.{bytes_eq-Decides}
use Rattle.rt_base.specs.declared.name.Names.{Names}
use Rattle.txn_set.specs.Set.{Set}
use Rattle.step_journal.specs.declared.entry.Entry.{Entry}
use Rattle.step_journal.specs.State.{State, opening}
use Rattle.step_journal.specs.History.{state_after, IsLegalEntry, IsLegalFrom, IsLegal}
use Rattle.serial_replay.specs.Replays.{IsFirstIllegal}
use Rattle.report_text.specs.IsHead.{set_of}
use Rattle.report_text.specs.declared.document.Document.{Document}
use Rattle.report_text.specs.declared.document.DocumentError.{DocumentError}
use Rattle.report_text.specs.declared.document.DocumentError.TheVariants as unread
use Rattle.report_text.specs.Document.{lines_of, document_of}
use Rattle.report_text.proofs.Reading.{Answer as Documents}
use Rattle.run_report.specs.declared.verdict.SetError.{SetError}
use Rattle.run_report.specs.declared.verdict.Verdict.{Verdict}
use Rattle.run_report.specs.declared.verdict.Verdict.TheVariants.{Legal, BadLine, Unfinished, BadSet, NotALegalStep, WrongLine, WrongItem}
use Rattle.run_report.specs.Compared.{wrong, compared}
use Rattle.run_report.specs.Verdict.{set_refusal, report_for, difference, Declares, IsVerdict}
use Rattle.run_report.specs.Laws.{OneVerdict}

-- ---- the first entry that is no legal step is one

illegal_before : (set : Set) (s : State) (es : List Entry) (i j : ℕ) (e : Entry) → slice_get es i ≡ Some e → i < j
    → IsLegalFrom set s (take j es) → IsLegalFrom set s (take i es ++ e ∷ [])
illegal_before set s [] i j e here lt h = absurd cc
illegal_before set s (x ∷ xs) zero zero e here lt h = absurd (omega arith)
illegal_before set s (x ∷ xs) (suc i) zero e here lt h = absurd (omega arith)
illegal_before set s (x ∷ xs) zero (suc j) e here lt h =
    let same : x ≡ e = cc in (subst (λ (y : Entry). IsLegalEntry set s y) same h.0, tt)
illegal_before set s (x ∷ xs) (suc i) (suc j) e here lt h =
    (h.0, illegal_before set (state_after set s x) xs i j e here (omega arith) h.1)

not_later : (set : Set) (entries : List Entry) (i j : ℕ) → IsFirstIllegal set entries i → IsFirstIllegal set entries j → i < j → ⊥
not_later set entries i j a b lt = a.not_with (illegal_before set (opening set) entries i j a.entry a.here lt b.before)

one_index : (set : Set) (entries : List Entry) (i j : ℕ) → IsFirstIllegal set entries i → IsFirstIllegal set entries j → i ≡ j
one_index set entries i j a b =
    elim (cases_lt i j) [ inl lt ↦ absurd (not_later set entries i j a b lt) | inr le ↦ elim (cases_lt j i) [ inl lt ↦ absurd (not_later set entries j i b a lt) | inr other ↦ omega arith ] ]

-- ---- a text differs nowhere from itself

abbrev either : Bool → Verdict → Verdict → Verdict
either same on off = elim same [ true ↦ on | false ↦ off ]

same_as_itself : (names : Names) (n : ℕ) (lines : List (List ℕ)) → compared names n lines lines ≡ Legal
same_as_itself names n [] = refl
same_as_itself names n (d ∷ ds) =
    ap (λ (b : Bool). either b (compared names (n + 1) ds ds) (wrong names n d d)) ((bytes_eq-Decides d d).1 refl)
    ∙ same_as_itself names (n + 1) ds

-- ---- the verdict by what the document is

abbrev OfEntries : List ℕ → Document → Verdict → Type 0
OfEntries bytes d v =
    (IsLegal (set_of d.head) d.entries × (v ≡ difference bytes d))
    ⊎ ((index : ℕ) × IsFirstIllegal (set_of d.head) d.entries index × (v ≡ NotALegalStep (d.first + index)))

abbrev OfSet : List ℕ → Document → Option SetError → Verdict → Type 0
OfSet bytes d (Some error) v = v ≡ BadSet error
OfSet bytes d None v = OfEntries bytes d v

abbrev Of : List ℕ → Result Document DocumentError → Verdict → Type 0
Of bytes (Ok d) v = OfSet bytes d (set_refusal d.head) v
Of bytes (Err (unread.BadLine n)) v = v ≡ BadLine n
Of bytes (Err unread.Unfinished) v = v ≡ Unfinished
Of bytes (Err unread.OutOfMemory) v = ⊥

of_entries : (bytes : List ℕ) (d : Document) (v : Verdict) → Declares bytes d → OfEntries bytes d v → Of bytes (document_of bytes) v
of_entries bytes d v h said =
    subst (λ (r : Documents). Of bytes r v) (sym h.read)
    (subst (λ (o : Option SetError). OfSet bytes d o v) (sym h.not_refused) said)

of_document : (bytes : List ℕ) (v : Verdict) → IsVerdict bytes v → Of bytes (document_of bytes) v
of_document bytes (BadLine n) h = subst (λ (r : Documents). Of bytes r (BadLine n)) (sym h) refl
of_document bytes Unfinished h = subst (λ (r : Documents). Of bytes r Unfinished) (sym h) refl
of_document bytes (BadSet error) h =
    subst (λ (r : Documents). Of bytes r (BadSet error)) (sym h.1)
    (subst (λ (o : Option SetError). OfSet bytes h.0 o (BadSet error)) (sym h.2) refl)
of_document bytes (NotALegalStep n) h =
    of_entries bytes h.0 (NotALegalStep n) h.1 (inr (h.2.0, h.2.1, ap (λ (k : ℕ). NotALegalStep k) h.2.2))
of_document bytes (WrongLine n) h = of_entries bytes h.0 (WrongLine n) h.1.declares (inl (h.1.legal, sym h.2))
of_document bytes (WrongItem item) h = of_entries bytes h.0 (WrongItem item) h.1.declares (inl (h.1.legal, sym h.2))
of_document bytes Legal h =
    let same : difference bytes h.0 ≡ Legal =
    ap (λ (b : List ℕ). compared h.0.head.names 1 (lines_of b).0 (lines_of (report_for h.0)).0) h.2
    ∙ same_as_itself h.0.head.names 1 (lines_of (report_for h.0)).0 in
    of_entries bytes h.0 Legal h.1.declares (inl (h.1.legal, sym same))

one_of_entries : (bytes : List ℕ) (d : Document) (v w : Verdict) → OfEntries bytes d v → OfEntries bytes d w → v ≡ w
one_of_entries bytes d v w (inl a) (inl b) = a.1 ∙ sym b.1
one_of_entries bytes d v w (inl a) (inr b) = absurd (b.1.not_all a.0)
one_of_entries bytes d v w (inr a) (inl b) = absurd (a.1.not_all b.0)
one_of_entries bytes d v w (inr a) (inr b) =
    let same : a.0 ≡ b.0 = one_index (set_of d.head) d.entries a.0 b.0 a.1 b.1 in
    a.2 ∙ (ap (λ (k : ℕ). NotALegalStep (d.first + k)) same ∙ sym b.2)

one_of_set : (bytes : List ℕ) (d : Document) (o : Option SetError) (v w : Verdict) → OfSet bytes d o v → OfSet bytes d o w → v ≡ w
one_of_set bytes d (Some error) v w a b = a ∙ sym b
one_of_set bytes d None v w a b = one_of_entries bytes d v w a b

one_of : (bytes : List ℕ) (r : Documents) (v w : Verdict) → Of bytes r v → Of bytes r w → v ≡ w
one_of bytes (Ok d) v w a b = one_of_set bytes d (set_refusal d.head) v w a b
one_of bytes (Err (unread.BadLine n)) v w a b = a ∙ sym b
one_of bytes (Err unread.Unfinished) v w a b = a ∙ sym b
one_of bytes (Err unread.OutOfMemory) v w a b = absurd a

pub one_verdict : OneVerdict
one_verdict bytes v w a b =
    one_of bytes (document_of bytes) v w (of_document bytes v a) (of_document bytes w b)
