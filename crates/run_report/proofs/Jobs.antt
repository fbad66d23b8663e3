-- The line of a job is read back, and is one line.
use Rattle.std.proofs.Common.{◌≡◌, ℕ, ◌<◌, ◌^◌, ◌-◌, Bool, true, false, cond, List, ◌∷◌, ◌++◌, Option, Some, None, decimal, refl, sym, ap, subst, ◌∙◌, arith, codes, append_assoc}
use Rattle.std.specs.Str.{bytes_eq}
use Rattle.std.proofs.lemmas.Slice.Eq.{bytes_eq-Decides}
use Rattle.rt_base.specs.Names.{AreNames}
use Rattle.rt_base.specs.declared.ids.JobId.{JobId}
use Rattle.rt_base.specs.declared.name.Names.{Names}
use Rattle.rt_base.specs.declared.operation.End.{End}
use Rattle.rt_base.specs.declared.operation.End.TheVariants as end
use Rattle.job_rows.specs.declared.row.JobRow.{JobRow}
use Rattle.line_fields.specs.Cuts.{next, word_is, field, Lacks, Ends}
use Rattle.line_fields.specs.Numbers.{unsigned_of}
use Rattle.journal_text.specs.Ids.{job_text, job_of, IsJob}
use Rattle.line_fields.proofs.CutLaws.{none_some, field_again, next_again, next_last, given_again, lacks_test, lacks_append}
use Rattle.line_fields.proofs.NumberLaws.{unsigned_again, unsigned_lacks, decimal_lacks, no_minus}
use Rattle.journal_text.proofs.IdLaws.{job_again, job_lacks}
use Rattle.journal_text.specs.Lines.{◌⊕◌, end_text, IsEnd}
use Rattle.journal_text.proofs.PartLaws.{end_again}
use Rattle.report_text.specs.Texts.{close_text, by_text, job_line}
use Rattle.report_text.proofs.HeadAgain.{word_lacks, number_lacks}
use Rattle.report_text.specs.Forms.{may_end, pending_form, ended_form, or_else, close_form, by_form, job_form}
use Rattle.run_report.proofs.Lines.{IsLine}
use Rattle.run_report.proofs.Forms.{begins_again, last_lacks, end_lacks, job_text_lacks}

-- ---- who delayed

abbrev pub IsBy : List (List ℕ) → Option JobId → Type 0
IsBy txns None = Unit {0}
IsBy txns (Some job) = IsJob txns job

no_job : (txns : List (List ℕ)) → job_of txns (codes "-") ≡ None
unfolding job_of
no_job txns = refl

not_dash : (txns : List (List ℕ)) (job : JobId) → AreNames txns → IsJob txns job → (test : Bool)
    → bytes_eq (job_text txns job) (codes "-") ≡ test → test ≡ false
not_dash txns job good is true e =
    let same : job_text txns job ≡ codes "-" = (bytes_eq-Decides (job_text txns job) (codes "-")).0 e in
    absurd (none_some job (sym (no_job txns) ∙ ap (job_of txns) (sym same) ∙ job_again txns job good is))
not_dash txns job good is false e = refl

by_again : (names : Names) (by : Option JobId) → AreNames names.txns → IsBy names.txns by
    → by_form names.txns (by_text names by) ≡ Some by
unfolding by_form
by_again names None good is = refl
by_again names (Some job) good is =
    rw (not_dash names.txns job good is (bytes_eq (job_text names.txns job) (codes "-")) refl, job_again names.txns job good is) refl

by_lacks : (names : Names) (by : Option JobId) → AreNames names.txns → IsBy names.txns by → Lacks 32 (by_text names by)
by_lacks names None good is = lacks_test 32 (codes "-") refl
by_lacks names (Some job) good is = job_lacks names.txns job good is

by_line_lacks : (names : Names) (by : Option JobId) → AreNames names.txns → IsBy names.txns by → Lacks 10 (by_text names by)
by_line_lacks names None good is = lacks_test 10 (codes "-") refl
by_line_lacks names (Some job) good is = job_text_lacks names.txns job good is

-- ---- how it ended

-- the numbers are those of their types, and by its end it is of the version
pub record IsEnded (names : Names) (second : Bool) (release : ℕ) (e : End × ℕ) : Type 0 where
  pub end : IsEnd names e.0
  pub may : may_end second e.0 ≡ true
  pub tick : e.1 < 2 ^ 64

abbrev pub IsClose : Names → Bool → ℕ → Option (End × ℕ) → Type 0
IsClose names second release None = Unit {0}
IsClose names second release (Some e) = IsEnded names second release e

not_number : (n : ℕ) → n < 2 ^ 64 → (test : Bool) → bytes_eq (decimal n) (codes "-") ≡ test → test ≡ false
not_number n lt true e =
    let same : decimal n ≡ codes "-" = (bytes_eq-Decides (decimal n) (codes "-")).0 e in
    absurd (subst (Lacks 45) same (decimal_lacks 45 n no_minus lt) 0 (omega arith) refl)
not_number n lt false e = refl

none_next : {A : Type 0} (read : List ℕ → Option A) (w rest : List ℕ) → read w ≡ None → Lacks 32 w → Ends rest
    → next read (32 ∷ (w ++ rest)) ≡ None
unfolding next
none_next read w rest none lacks ends = rw (field_again w rest lacks ends, none) refl

not_pending : (tick : ℕ) (rest : List ℕ) → tick < 2 ^ 64 → Ends rest → pending_form (field (decimal tick) ⊕ rest) ≡ None
unfolding pending_form word_is
not_pending tick rest lt ends =
    let none : word_is (codes "-") (decimal tick) ≡ None =
    ap (λ (b : Bool). cond b (Some tt) None) (not_number tick lt (bytes_eq (decimal tick) (codes "-")) refl) in
    rw (none_next (word_is (codes "-")) (decimal tick) rest none (unsigned_lacks tick lt) ends) refl

pending_again : (rest : List ℕ) → Ends rest
    → pending_form (field (codes "-") ⊕ field (codes "pending") ⊕ field (codes "-") ⊕ rest) ≡ Some rest
unfolding pending_form
pending_again rest ends =
    rw (
      next_again (word_is (codes "-")) (codes "-") (field (codes "pending") ⊕ field (codes "-") ⊕ rest) tt (given_again (codes "-")) (lacks_test 32 (codes "-") refl) refl,
      next_again (word_is (codes "pending")) (codes "pending") (field (codes "-") ⊕ rest) tt (given_again (codes "pending")) (lacks_test 32 (codes "pending") refl) refl,
      next_again (word_is (codes "-")) (codes "-") rest tt (given_again (codes "-")) (lacks_test 32 (codes "-") refl) ends,
    ) refl

ends_end : (names : Names) (e : End) (rest : List ℕ) → Ends (end_text names e ++ rest)
ends_end names end.Committed rest = refl
ends_end names other rest = refl

ended_again : (names : Names) (second : Bool) (release : ℕ) (e : End × ℕ) (rest : List ℕ) → AreNames names.items
    → IsEnded names second release e → Ends rest
    → ended_form second names (field (decimal e.1) ⊕ end_text names e.0 ⊕ field (decimal (e.1 - release)) ⊕ rest) ≡ Some rest
unfolding ended_form
ended_again names second release e rest good is ends =
    let after : List ℕ = field (decimal (e.1 - release)) ⊕ rest in
    let less : e.1 - release < 2 ^ 64 = omega (arith, is.tick) in
    rw (
      next_again unsigned_of (decimal e.1) (end_text names e.0 ⊕ after) e.1 (unsigned_again e.1 is.tick) (unsigned_lacks e.1 is.tick) (ends_end names e.0 after),
      end_again names e.0 after good is.end refl,
      is.may,
      next_again unsigned_of (decimal (e.1 - release)) rest (e.1 - release) (unsigned_again (e.1 - release) less) (unsigned_lacks (e.1 - release) less) ends,
    ) refl

close_again : (names : Names) (second : Bool) (release : ℕ) (o : Option (End × ℕ)) (rest : List ℕ) → AreNames names.items
    → IsClose names second release o → Ends rest → close_form second names (close_text names release o ++ rest) ≡ Some rest
unfolding close_form
close_again names second release None rest good is ends =
    ap (λ (o : Option (List ℕ)). or_else o (ended_form second names (close_text names release None ++ rest))) (pending_again rest ends)
close_again names second release (Some e) rest good is ends =
    let after : List ℕ = end_text names e.0 ⊕ field (decimal (e.1 - release)) ⊕ rest in
    let text : close_text names release (Some e) ++ rest ≡ field (decimal e.1) ⊕ after = simp append_assoc in
    ap (λ (t : List ℕ). or_else (pending_form t) (ended_form second names t)) text
    ∙ ap (λ (o : Option (List ℕ)). or_else o (ended_form second names (field (decimal e.1) ⊕ after)))
    (not_pending e.1 after is.tick (ends_end names e.0 (field (decimal (e.1 - release)) ⊕ rest)))
    ∙ ended_again names second release e rest good is ends

close_lacks : (names : Names) (second : Bool) (release : ℕ) (o : Option (End × ℕ)) → AreNames names.items
    → IsClose names second release o → Lacks 10 (close_text names release o)
close_lacks names second release None good is = lacks_test 10 (codes " - pending -") refl
close_lacks names second release (Some e) good is =
    number_lacks e.1 (end_text names e.0 ⊕ field (decimal (e.1 - release))) is.tick
    (lacks_append 10 (end_text names e.0) (field (decimal (e.1 - release))) (end_lacks names e.0 good is.end)
    (last_lacks (e.1 - release) (omega (arith, is.tick))))

close_ends : (names : Names) (release : ℕ) (o : Option (End × ℕ)) (rest : List ℕ) → Ends (close_text names release o ++ rest)
close_ends names release None rest = refl
close_ends names release (Some e) rest = refl

-- ---- the line

-- the row has a line of the version
pub record FitsRow (names : Names) (second : Bool) (row : JobRow) : Type 0 where
  pub job : IsJob names.txns row.job
  pub release : row.release < 2 ^ 64
  pub close : IsClose names second row.release row.end
  pub by : IsBy names.txns row.delayed_by
  pub delay : row.delay < 2 ^ 64

abbrev after_close : Names → JobRow → List ℕ
after_close names row = field (by_text names row.delayed_by) ⊕ field (decimal row.delay)

abbrev pub job_rest : Names → JobRow → List ℕ
job_rest names row =
    field (job_text names.txns row.job) ⊕ field (decimal row.release) ⊕ close_text names row.release row.end ⊕ after_close names row

abbrev pub job_body : Names → ℕ → JobRow → List ℕ
job_body names place row = codes "job" ++ job_rest names row

pub job_line_again : (names : Names) (second : Bool) (place : ℕ) (row : JobRow) → AreNames names.items → AreNames names.txns
    → FitsRow names second row → job_form second names (job_body names place row) ≡ Some tt
unfolding job_form
job_line_again names second place row items txns fits =
    let closed : List ℕ = close_text names row.release row.end ⊕ after_close names row in
    rw (
      begins_again (codes "job") (job_rest names row) (lacks_test 32 (codes "job") refl) refl,
      next_again (job_of names.txns) (job_text names.txns row.job) (field (decimal row.release) ⊕ closed) row.job (job_again names.txns row.job txns fits.job) (job_lacks names.txns row.job txns fits.job) refl,
      next_again unsigned_of (decimal row.release) closed row.release (unsigned_again row.release fits.release) (unsigned_lacks row.release fits.release) (close_ends names row.release row.end (after_close names row)),
      close_again names second row.release row.end (after_close names row) items fits.close refl,
      next_again (by_form names.txns) (by_text names row.delayed_by) (field (decimal row.delay)) row.delayed_by (by_again names row.delayed_by txns fits.by) (by_lacks names row.delayed_by txns fits.by) refl,
      next_last unsigned_of (decimal row.delay) row.delay (unsigned_again row.delay fits.delay) (unsigned_lacks row.delay fits.delay),
    ) refl

pub job_is_line : (names : Names) (second : Bool) (place : ℕ) (row : JobRow) → AreNames names.items → AreNames names.txns
    → FitsRow names second row → IsLine (job_line names place row) (job_body names place row)
job_is_line names second place row items txns fits = record {
  ends = λ rest. simp append_assoc;
  lacks =
      lacks_append 10 (codes "job") (job_rest names row) (lacks_test 10 (codes "job") refl)
      (word_lacks (job_text names.txns row.job) (field (decimal row.release) ⊕ close_text names row.release row.end ⊕ after_close names row)
      (job_text_lacks names.txns row.job txns fits.job)
      (number_lacks row.release (close_text names row.release row.end ⊕ after_close names row) fits.release
      (lacks_append 10 (close_text names row.release row.end) (after_close names row)
      (close_lacks names second row.release row.end items fits.close)
      (word_lacks (by_text names row.delayed_by) (field (decimal row.delay)) (by_line_lacks names row.delayed_by txns fits.by)
      (last_lacks row.delay fits.delay)))));
}
