-- A document whose entries stand between the beginning and the end of its report.
use Rattle.std.proofs.Common.{◌≡◌, ℕ, ◌+◌, ◌-◌, ◌≤◌, Bool, None, List, [], ◌∷◌, ◌++◌, length, take, drop, refl, sym, ap, ◌∙◌, arith, append_assoc, length-append}
use Rattle.std.proofs.lemmas.List.{take_at, drop_at}
use Rattle.std.proofs.lemmas.Slice.Eq.{bytes_eq-Decides}
use Rattle.rt_base.specs.declared.name.Names.{Names}
use Rattle.txn_set.specs.Set.{Set}
use Rattle.step_journal.specs.declared.entry.Entry.{Entry}
use Rattle.step_journal.specs.History.{IsLegal, state_of}
use Rattle.job_rows.specs.Rows.{job_rows}
use Rattle.journal_text.specs.Lines.{entry_line}
use Rattle.report_text.specs.Rows.{numbered}
use Rattle.report_text.specs.Texts.{whole_entry_line}
use Rattle.run_report.specs.Report.{opening_text, closing_text, report_of}
use Rattle.report_text.specs.Placed.{entry_lines, Stand}
use Rattle.run_report.specs.declared.verdict.Verdict.TheVariants.{Legal}
use Rattle.run_report.specs.Verdict.{refusal_in, IsVerdict, HasParts}
use Rattle.run_report.proofs.Comparing.{same_text}
use Rattle.run_report.proofs.Judging.{legal_said}

lines_text : (names : Names) (i : ℕ) (es : List Entry) → entry_lines names es ≡ numbered (whole_entry_line names) i es
lines_text names i [] = refl
lines_text names i (e ∷ es) =
    ap (λ (r : List ℕ). entry_line names e ++ 10 ∷ r) (lines_text names (i + 1) es)
    ∙ sym (append_assoc (entry_line names e) (10 ∷ []) (numbered (whole_entry_line names) (i + 1) es))

pub begins_within : (names : Names) (entries : List Entry) (bytes : List ℕ) (left after : ℕ) → Stand names entries bytes left after
    → left ≤ length bytes
begins_within names entries bytes left after s =
    omega (arith, s.begins, ap length s.all, length-append s.front (entry_lines names entries ++ s.back))

pub ends_within : (names : Names) (entries : List Entry) (bytes : List ℕ) (left after : ℕ) → Stand names entries bytes left after
    → after ≤ length bytes
ends_within names entries bytes left after s =
    omega (arith, s.ends, ap length s.all, length-append s.front (entry_lines names entries ++ s.back), length-append (entry_lines names entries) s.back)

front_is : (names : Names) (entries : List Entry) (bytes : List ℕ) (left after : ℕ) (s : Stand names entries bytes left after)
    → take (length bytes - left) bytes ≡ s.front
front_is names entries bytes left after s =
    let rest : List ℕ = entry_lines names entries ++ s.back in
    let at : length bytes - left ≡ length s.front = omega (arith, s.begins, ap length s.all, length-append s.front rest) in
    ap (λ (n : ℕ). take n bytes) at ∙ (ap (λ (bs : List ℕ). take (length s.front) bs) s.all ∙ take_at s.front rest (length s.front) refl)

back_is : (names : Names) (entries : List Entry) (bytes : List ℕ) (left after : ℕ) (s : Stand names entries bytes left after)
    → drop (length bytes - after) bytes ≡ s.back
back_is names entries bytes left after s =
    let lines : List ℕ = entry_lines names entries in
    let all : bytes ≡ (s.front ++ lines) ++ s.back = s.all ∙ sym (append_assoc s.front lines s.back) in
    let at : length bytes - after ≡ length (s.front ++ lines) = omega (arith, s.ends, ap length all, length-append (s.front ++ lines) s.back) in
    ap (λ (n : ℕ). drop n bytes) at
    ∙ (ap (λ (bs : List ℕ). drop (length (s.front ++ lines)) bs) all ∙ drop_at (s.front ++ lines) s.back (length (s.front ++ lines)) refl)

-- what stands between them is then the entries' own lines
pub between_written : (bytes : List ℕ) (names : Names) (set : Set) (admitted : Bool) (entries : List Entry) (left after : ℕ)
    → Stand names entries bytes left after → take (length bytes - left) bytes ≡ opening_text names set admitted
    → drop (length bytes - after) bytes ≡ closing_text names (job_rows set entries) (state_of set entries).items
    → bytes ≡ report_of names set admitted entries
between_written bytes names set admitted entries left after s opening closing =
    let end : List ℕ = closing_text names (job_rows set entries) (state_of set entries).items in
    s.all ∙ (ap (λ (f : List ℕ). f ++ (entry_lines names entries ++ s.back)) (sym (front_is names entries bytes left after s) ∙ opening)
    ∙ (ap (λ (b : List ℕ). opening_text names set admitted ++ (entry_lines names entries ++ b)) (sym (back_is names entries bytes left after s) ∙ closing)
    ∙ ap (λ (l : List ℕ). opening_text names set admitted ++ (l ++ end)) (lines_text names 0 entries)))

pub between_said : (bytes : List ℕ) (names : Names) (set : Set) (admitted : Bool) (entries : List Entry) (first left after : ℕ)
    → HasParts bytes names set admitted entries first → Stand names entries bytes left after → refusal_in admitted set ≡ None
    → IsLegal set entries → take (length bytes - left) bytes ≡ opening_text names set admitted
    → drop (length bytes - after) bytes ≡ closing_text names (job_rows set entries) (state_of set entries).items
    → IsVerdict bytes Legal
between_said bytes names set admitted entries first left after h s none legal opening closing =
    let written : bytes ≡ report_of names set admitted entries =
    between_written bytes names set admitted entries left after s opening closing in
    legal_said bytes names set admitted entries first bytes Legal h none legal written
    (same_text names bytes bytes ((bytes_eq-Decides bytes bytes).1 refl))
