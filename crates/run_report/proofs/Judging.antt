-- From what was found to the verdict.
use Rattle.std.proofs.Common.{◌≡◌, ◌≢◌, ℕ, ◌+◌, Bool, true, List, Option, Some, None, Ok, refl, sym, ap, subst, ◌∙◌}
use Rattle.std.specs.Prelude.{option_map}
use Rattle.rt_base.specs.declared.name.Names.{Names}
use Rattle.item_model.specs.Work.{first_of_both}
use Rattle.txn_set.specs.Set.{Set}
use Rattle.txn_compiler.specs.declared.error.CompileError.{CompileError}
use Rattle.txn_compiler.specs.declared.error.CompileError.TheVariants as compiling
use Rattle.txn_compiler.specs.Refusal.{compile_refusal}
use Rattle.txn_compiler.specs.Refusal.{Refuses as RefusesSet}
use Rattle.set_admission.specs.declared.error.AdmitError.{AdmitError}
use Rattle.set_admission.specs.declared.error.AdmitError.TheVariants as admitting
use Rattle.set_admission.specs.Admission.{refusal, Refuses}
use Rattle.step_journal.specs.declared.entry.Entry.{Entry}
use Rattle.step_journal.specs.History.{IsLegal, state_of}
use Rattle.serial_replay.specs.Replays.{IsFirstIllegal}
use Rattle.job_rows.specs.Rows.{job_rows}
use Rattle.report_text.specs.IsHead.{set_of}
use Rattle.report_text.specs.Texts.{entries_text, jobs_text, finals_text}
use Rattle.run_report.specs.Report.{opening_text, report_of}
use Rattle.report_text.specs.declared.document.Document.{Document}
use Rattle.report_text.specs.Document.{lines_of, document_of}
use Rattle.run_report.specs.declared.verdict.SetError.{SetError}
use Rattle.run_report.specs.declared.verdict.SetError.TheVariants.{Compile, Admit}
use Rattle.run_report.specs.declared.verdict.Verdict.{Verdict}
use Rattle.run_report.specs.declared.verdict.Verdict.TheVariants.{Legal, BadSet, NotALegalStep, WrongLine, WrongItem}
use Rattle.run_report.specs.Compared.{compared}
use Rattle.run_report.specs.Verdict.{refusal_in, set_refusal, report_for, difference, Declares, Tells, IsVerdict, HasParts}
use Rattle.run_report.specs.declared.judged.Judged.{Judged}
use Rattle.run_report.specs.declared.judged.Judged.TheVariants as judged
use Rattle.run_report.specs.Judged.{IsJudged}
use Rattle.run_report.proofs.Documents.{is_read}
use Rattle.run_report.proofs.WholeVerdict.{EndedBy, append_ended, end_ended, same_bytes, same_lines, IsDifference, is_difference}

-- ---- a set that is refused

set_refused : (found : Option CompileError) (error : CompileError) → RefusesSet found error → error ≢ compiling.OutOfMemory
    → found ≡ Some error
set_refused found compiling.OutOfMemory h some = absurd (some refl)
set_refused found other h some = h

not_admitted : (found : Option AdmitError) (error : AdmitError) → Refuses found error → error ≢ admitting.OutOfMemory
    → found ≡ Some error
not_admitted found admitting.OutOfMemory h some = absurd (some refl)
not_admitted found other h some = h

abbrev compile_part : Option CompileError → Option SetError
compile_part o = option_map (λ error. Compile error) o

bad_compile_verdict : (bytes : List ℕ) (d : Document) (error : CompileError) → document_of bytes ≡ Ok d
    → RefusesSet (compile_refusal (set_of d.head)) error → error ≢ compiling.OutOfMemory
    → IsVerdict bytes (BadSet (Compile error))
bad_compile_verdict bytes d error read refused some =
    let found : compile_refusal (set_of d.head) ≡ Some error = set_refused (compile_refusal (set_of d.head)) error refused some in
    let so : set_refusal d.head ≡ Some (Compile error) =
    ap (λ (o : Option CompileError). first_of_both (compile_part o) (refusal_in d.head.admitted (set_of d.head))) found in
    (d, read, so)

pub bad_compile : (bytes : List ℕ) (d : Document) (error : CompileError) (j : Judged) → document_of bytes ≡ Ok d
    → RefusesSet (compile_refusal (set_of d.head)) error → (j ≡ judged.Other (BadSet (Compile error))) × (error ≢ compiling.OutOfMemory)
    → IsJudged bytes j
bad_compile bytes d error j read refused said =
    subst (IsJudged bytes) (sym said.0) (record { verdict = bad_compile_verdict bytes d error read refused said.1; other = refl })

-- where the set is compiled, only its admission may be refused
refusal_is : (bytes : List ℕ) (names : Names) (set : Set) (admitted : Bool) (entries : List Entry) (first : ℕ)
    → (h : HasParts bytes names set admitted entries first) → set_refusal h.document.head ≡ refusal_in admitted set
refusal_is bytes names set admitted entries first h =
    let none : compile_refusal (set_of h.document.head) ≡ None = subst (λ (s : Set). compile_refusal s ≡ None) h.set_is h.compiled in
    ap (λ (o : Option CompileError). first_of_both (compile_part o) (refusal_in h.document.head.admitted (set_of h.document.head))) none
    ∙ (ap (λ (b : Bool). refusal_in b (set_of h.document.head)) (sym h.mode_is)
    ∙ ap (λ (s : Set). refusal_in admitted s) (sym h.set_is))

bad_admit_verdict : (bytes : List ℕ) (names : Names) (set : Set) (entries : List Entry) (first : ℕ) (error : AdmitError)
    → HasParts bytes names set true entries first → Refuses (refusal set) error → error ≢ admitting.OutOfMemory
    → IsVerdict bytes (BadSet (Admit error))
bad_admit_verdict bytes names set entries first error h refused some =
    let found : refusal set ≡ Some error = not_admitted (refusal set) error refused some in
    let so : set_refusal h.document.head ≡ Some (Admit error) =
    refusal_is bytes names set true entries first h ∙ ap (λ (o : Option AdmitError). option_map (λ e. Admit e) o) found in
    (h.document, h.read, so)

pub bad_admit : (bytes : List ℕ) (names : Names) (set : Set) (entries : List Entry) (first : ℕ) (error : AdmitError) (j : Judged)
    → HasParts bytes names set true entries first → Refuses (refusal set) error
    → (j ≡ judged.Other (BadSet (Admit error))) × (error ≢ admitting.OutOfMemory) → IsJudged bytes j
bad_admit bytes names set entries first error j h refused said =
    subst (IsJudged bytes) (sym said.0) (record { verdict = bad_admit_verdict bytes names set entries first error h refused said.1; other = refl })

declares : (bytes : List ℕ) (names : Names) (set : Set) (admitted : Bool) (entries : List Entry) (first : ℕ)
    → (h : HasParts bytes names set admitted entries first) → refusal_in admitted set ≡ None → Declares bytes h.document
declares bytes names set admitted entries first h none = record {
  read = h.read;
  not_refused = refusal_is bytes names set admitted entries first h ∙ none;
}

-- ---- entries that are no history

pub illegal : (bytes : List ℕ) (names : Names) (set : Set) (admitted : Bool) (entries : List Entry) (first index : ℕ)
    → HasParts bytes names set admitted entries first → refusal_in admitted set ≡ None → IsFirstIllegal set entries index
    → IsVerdict bytes (NotALegalStep (first + index))
illegal bytes names set admitted entries first index h none found =
    let of_set : IsFirstIllegal (set_of h.document.head) entries index = subst (λ (s : Set). IsFirstIllegal s entries index) h.set_is found in
    let of_both : IsFirstIllegal (set_of h.document.head) h.document.entries index =
    subst (λ (es : List Entry). IsFirstIllegal (set_of h.document.head) es index) h.entries_are of_set in
    let number : first + index ≡ h.document.first + index = ap (λ (f : ℕ). f + index) h.first_is in
    (h.document, declares bytes names set admitted entries first h none, (index, of_both, number))

-- ---- a document and its report

report_ended : (names : Names) (set : Set) (admitted : Bool) (entries : List Entry)
    → EndedBy (lines_of (report_of names set admitted entries))
report_ended names set admitted entries =
    append_ended (opening_text names set admitted) _ (append_ended (entries_text names entries) _
    (append_ended (jobs_text names (job_rows set entries)) _ (append_ended (finals_text names (state_of set entries).items) _ end_ended)))

said : (bytes : List ℕ) (d : Document) (v : Verdict) → Tells bytes d → v ≡ difference bytes d → IsVerdict bytes v
said bytes d Legal t e =
    let same : (lines_of bytes).0 ≡ (lines_of (report_for d)).0 =
    same_lines d.head.names 1 (lines_of bytes).0 (lines_of (report_for d)).0 (sym e) in (
      d,
      t,
      same_bytes bytes (report_for d) same (is_read bytes d t.declares.read).ended
          (report_ended d.head.names (set_of d.head) d.head.admitted d.entries).last,
    )
said bytes d (WrongLine n) t e = (d, t, sym e)
said bytes d (WrongItem item) t e = (d, t, sym e)
said bytes d other t e =
    absurd (subst IsDifference (sym e) (is_difference d.head.names 1 (lines_of bytes).0 (lines_of (report_for d)).0))

pub legal_said : (bytes : List ℕ) (names : Names) (set : Set) (admitted : Bool) (entries : List Entry) (first : ℕ) (text : List ℕ) (v : Verdict)
    → HasParts bytes names set admitted entries first → refusal_in admitted set ≡ None → IsLegal set entries
    → text ≡ report_of names set admitted entries
    → v ≡ compared names 1 (lines_of bytes).0 (lines_of text).0 → IsVerdict bytes v
legal_said bytes names set admitted entries first text v h none legal written e =
    let d : Document = h.document in
    let of_set : IsLegal (set_of d.head) entries = subst (λ (s : Set). IsLegal s entries) h.set_is legal in
    let of_both : IsLegal (set_of d.head) d.entries = subst (λ (es : List Entry). IsLegal (set_of d.head) es) h.entries_are of_set in
    let report : report_of names set admitted entries ≡ report_for d =
    ap (λ (n : Names). report_of n set admitted entries) h.names_are
    ∙ (ap (λ (s : Set). report_of d.head.names s admitted entries) h.set_is
    ∙ (ap (λ (b : Bool). report_of d.head.names (set_of d.head) b entries) h.mode_is
    ∙ ap (λ (es : List Entry). report_of d.head.names (set_of d.head) d.head.admitted es) h.entries_are)) in
    said bytes d v (record { declares = declares bytes names set admitted entries first h none; legal = of_both })
    (e ∙ (ap (λ (n : Names). compared n 1 (lines_of bytes).0 (lines_of text).0) h.names_are
    ∙ ap (λ (t : List ℕ). compared d.head.names 1 (lines_of bytes).0 (lines_of t).0) (written ∙ report)))
