-- Each line after the declarations is read back, and is one line.
use Rattle.std.proofs.Common.{◌≡◌, ℕ, ℤ, ◌<◌, ◌^◌, Bool, true, cond, List, ◌++◌, length, Option, Some, None, decimal, refl, ap, ◌∙◌, arith, codes, append_assoc}
use Rattle.std.specs.Fmt.{signed_decimal}
use Rattle.std.specs.Str.{bytes_eq}
use Rattle.std.proofs.lemmas.Slice.Eq.{bytes_eq-Decides}
use Rattle.rt_base.specs.Names.{AreNames}
use Rattle.rt_base.specs.declared.ids.JobId.{JobId}
use Rattle.rt_base.specs.declared.name.Names.{Names}
use Rattle.rt_base.specs.declared.operation.End.{End}
use Rattle.rt_base.specs.declared.operation.End.TheVariants as end
use Rattle.item_model.specs.declared.stored.Stored.{Stored}
use Rattle.line_fields.specs.Cuts.{word_of, field, Lacks, Ends}
use Rattle.line_fields.specs.Numbers.{unsigned_of, short_of, signed_of, IsI64}
use Rattle.journal_text.specs.Ids.{name_at, item_of, tx_of, job_text, IsJob}
use Rattle.line_fields.proofs.CutLaws.{word_again, next_again, next_last, lacks_test, lacks_append}
use Rattle.line_fields.proofs.NumberLaws.{unsigned_again, unsigned_lacks, short_again, short_lacks, signed_again, signed_lacks as signed_word, decimal_lacks}
use Rattle.journal_text.proofs.IdLaws.{item_again, tx_again, id_lacks, name_lacks}
use Rattle.journal_text.specs.Lines.{◌⊕◌, end_text, IsEnd}
use Rattle.report_text.specs.Texts.{ceiling_line, bound_line, age_line, final_line}
use Rattle.report_text.proofs.HeadAgain.{field_lacks, word_lacks, number_lacks, signed_lacks}
use Rattle.report_text.specs.Forms.{begins, ceiling_form, bound_form, age_form, final_form}
use Rattle.journal_text.proofs.NextLaws.{no_digit}
use Rattle.run_report.proofs.Lines.{IsLine}

-- ---- the first word

pub begins_again : (w rest : List ℕ) → Lacks 32 w → Ends rest → begins w (w ++ rest) ≡ Some rest
unfolding begins
begins_again w rest lacks ends =
    let same : bytes_eq w w ≡ true = (bytes_eq-Decides w w).1 refl in
    ap (λ (p : List ℕ × List ℕ). cond (bytes_eq p.0 w) (Some p.1) None) (word_again w rest lacks ends)
    ∙ ap (λ (b : Bool). cond b (Some rest) None) same

-- the form of no line whose first word passes a test
abbrev pub first_word : (List ℕ → Bool) → List ℕ → Option (Unit {0})
first_word test line = cond (test (word_of line).0) None (Some tt)

pub first_passes : (test : List ℕ → Bool) (w rest : List ℕ) → Lacks 32 w → Ends rest → test w ≡ true
    → first_word test (w ++ rest) ≡ None
first_passes test w rest lacks ends passes =
    ap (λ (p : List ℕ × List ℕ). cond (test p.0) None (Some tt)) (word_again w rest lacks ends)
    ∙ ap (λ (b : Bool). cond b None (Some tt)) passes

-- ---- bytes that a line lacks

pub last_lacks : (n : ℕ) → n < 2 ^ 64 → Lacks 10 (field (decimal n))
last_lacks n lt = field_lacks (decimal n) (decimal_lacks 10 n no_digit lt)

pub named_lacks : (names : List (List ℕ)) (i : ℕ) (rest : List ℕ) → AreNames names → i < length names → Lacks 10 rest
    → Lacks 10 (field (name_at names i) ++ rest)
named_lacks names i rest good lt after = word_lacks (name_at names i) rest (name_lacks 10 refl (name_at names i) (good.plain i lt)) after

pub last_named_lacks : (names : List (List ℕ)) (i : ℕ) → AreNames names → i < length names → Lacks 10 (field (name_at names i))
last_named_lacks names i good lt = field_lacks (name_at names i) (name_lacks 10 refl (name_at names i) (good.plain i lt))

pub job_text_lacks : (txns : List (List ℕ)) (job : JobId) → AreNames txns → IsJob txns job → Lacks 10 (job_text txns job)
job_text_lacks txns job good is =
    lacks_append 10 (name_at txns job.tx.0 ++ codes "/") (decimal job.serial)
    (lacks_append 10 (name_at txns job.tx.0) (codes "/") (name_lacks 10 refl (name_at txns job.tx.0) (good.plain job.tx.0 is.0)) (lacks_test 10 (codes "/") refl))
    (decimal_lacks 10 job.serial no_digit (omega (arith, is.1)))

pub signed_word_lacks : (z : ℤ) (rest : List ℕ) → IsI64 z → Lacks 10 rest → Lacks 10 (field (signed_decimal z) ++ rest)
signed_word_lacks z rest fits after = word_lacks (signed_decimal z) rest (signed_lacks z fits) after

pub last_signed_lacks : (z : ℤ) → IsI64 z → Lacks 10 (field (signed_decimal z))
last_signed_lacks z fits = field_lacks (signed_decimal z) (signed_lacks z fits)

pub end_lacks : (names : Names) (e : End) → AreNames names.items → IsEnd names e → Lacks 10 (end_text names e)
end_lacks names end.Committed good fits = lacks_test 10 (codes " committed") refl
end_lacks names end.Overrun good fits = lacks_test 10 (codes " overrun") refl
end_lacks names end.Late good fits = lacks_test 10 (codes " late") refl
end_lacks names (end.Stale item stamp) good fits =
    lacks_append 10 (codes " stale") (field (name_at names.items item.0) ⊕ field (decimal stamp)) (lacks_test 10 (codes " stale") refl)
    (named_lacks names.items item.0 (field (decimal stamp)) good fits.0 (last_lacks stamp fits.1))
end_lacks names (end.Apart a b) good fits =
    lacks_append 10 (codes " apart") (field (name_at names.items a.0) ⊕ field (name_at names.items b.0)) (lacks_test 10 (codes " apart") refl)
    (named_lacks names.items a.0 (field (name_at names.items b.0)) good fits.0 (last_named_lacks names.items b.0 good fits.1))
end_lacks names end.Quit good fits = lacks_test 10 (codes " quit") refl

-- ---- ceilings, bounds and ages

abbrev pub ceiling_rest : Names → ℕ → ℕ → ℕ → List ℕ
ceiling_rest names item write absolute =
    field (name_at names.items item) ⊕ field (decimal write) ⊕ field (decimal absolute)

abbrev pub ceiling_body : Names → ℕ → ℕ → ℕ → List ℕ
ceiling_body names item write absolute = codes "ceiling" ++ ceiling_rest names item write absolute

pub ceiling_again : (names : Names) (item write absolute : ℕ) → AreNames names.items → item < length names.items
    → write < 2 ^ 32 → absolute < 2 ^ 32 → ceiling_form names (ceiling_body names item write absolute) ≡ Some tt
unfolding ceiling_form
ceiling_again names item write absolute good named w a =
    rw (
      begins_again (codes "ceiling") (ceiling_rest names item write absolute) (lacks_test 32 (codes "ceiling") refl) refl,
      next_again (item_of names.items) (name_at names.items item) (field (decimal write) ⊕ field (decimal absolute)) (record { 0 = item }) (item_again names.items (record { 0 = item }) good named) (id_lacks names.items item good named) refl,
      next_again short_of (decimal write) (field (decimal absolute)) write (short_again write w) (short_lacks write w) refl,
      next_last short_of (decimal absolute) absolute (short_again absolute a) (short_lacks absolute a),
    ) refl

pub ceiling_is_line : (names : Names) (item write absolute : ℕ) → AreNames names.items → item < length names.items
    → write < 2 ^ 32 → absolute < 2 ^ 32
    → IsLine (ceiling_line names item write absolute) (ceiling_body names item write absolute)
ceiling_is_line names item write absolute good named w a = record {
  ends = λ rest. simp append_assoc;
  lacks =
      lacks_append 10 (codes "ceiling") (ceiling_rest names item write absolute) (lacks_test 10 (codes "ceiling") refl)
      (named_lacks names.items item (field (decimal write) ⊕ field (decimal absolute)) good named
      (number_lacks write (field (decimal absolute)) (omega (arith, w)) (last_lacks absolute (omega (arith, a)))));
}

abbrev pub bound_rest : Names → ℕ → ℕ → ℕ → List ℕ
bound_rest names tx blocking response =
    field (name_at names.txns tx) ⊕ field (decimal blocking) ⊕ field (decimal response)

abbrev pub bound_body : Names → ℕ → ℕ → ℕ → List ℕ
bound_body names tx blocking response = codes "bound" ++ bound_rest names tx blocking response

pub bound_again : (names : Names) (tx blocking response : ℕ) → AreNames names.txns → tx < length names.txns
    → blocking < 2 ^ 64 → response < 2 ^ 64 → bound_form true names (bound_body names tx blocking response) ≡ Some tt
unfolding bound_form
bound_again names tx blocking response good named b r =
    rw (
      begins_again (codes "bound") (bound_rest names tx blocking response) (lacks_test 32 (codes "bound") refl) refl,
      next_again (tx_of names.txns) (name_at names.txns tx) (field (decimal blocking) ⊕ field (decimal response)) (record { 0 = tx }) (tx_again names.txns (record { 0 = tx }) good named) (id_lacks names.txns tx good named) refl,
      next_again unsigned_of (decimal blocking) (field (decimal response)) blocking (unsigned_again blocking b) (unsigned_lacks blocking b) refl,
      next_last unsigned_of (decimal response) response (unsigned_again response r) (unsigned_lacks response r),
    ) refl

pub bound_is_line : (names : Names) (tx blocking response : ℕ) → AreNames names.txns → tx < length names.txns
    → blocking < 2 ^ 64 → response < 2 ^ 64
    → IsLine (bound_line names tx blocking response) (bound_body names tx blocking response)
bound_is_line names tx blocking response good named b r = record {
  ends = λ rest. simp append_assoc;
  lacks =
      lacks_append 10 (codes "bound") (bound_rest names tx blocking response) (lacks_test 10 (codes "bound") refl)
      (named_lacks names.txns tx (field (decimal blocking) ⊕ field (decimal response)) good named
      (number_lacks blocking (field (decimal response)) b (last_lacks response r)));
}

abbrev pub age_rest : Names → ℕ → ℕ → List ℕ
age_rest names item age = field (name_at names.items item) ⊕ field (decimal age)

abbrev pub age_body : Names → ℕ → ℕ → List ℕ
age_body names item age = codes "age" ++ age_rest names item age

pub age_again : (names : Names) (item age : ℕ) → AreNames names.items → item < length names.items → age < 2 ^ 64
    → age_form true names (age_body names item age) ≡ Some tt
unfolding age_form
age_again names item age good named a =
    rw (
      begins_again (codes "age") (age_rest names item age) (lacks_test 32 (codes "age") refl) refl,
      next_again (item_of names.items) (name_at names.items item) (field (decimal age)) (record { 0 = item }) (item_again names.items (record { 0 = item }) good named) (id_lacks names.items item good named) refl,
      next_last unsigned_of (decimal age) age (unsigned_again age a) (unsigned_lacks age a),
    ) refl

pub age_is_line : (names : Names) (item age : ℕ) → AreNames names.items → item < length names.items → age < 2 ^ 64
    → IsLine (age_line names item age) (age_body names item age)
age_is_line names item age good named a = record {
  ends = λ rest. simp append_assoc;
  lacks =
      lacks_append 10 (codes "age") (age_rest names item age) (lacks_test 10 (codes "age") refl)
      (named_lacks names.items item (field (decimal age)) good named (last_lacks age a));
}

-- ---- last items

abbrev pub final_rest : Names → ℕ → Stored → List ℕ
final_rest names item stored =
    field (name_at names.items item) ⊕ field (signed_decimal stored.value) ⊕ field (decimal stored.stamp)

abbrev pub final_body : Names → ℕ → Stored → List ℕ
final_body names item stored = codes "final" ++ final_rest names item stored

-- its numbers are those of their types
pub record FitsStored (stored : Stored) : Type 0 where
  pub value : IsI64 stored.value
  pub stamp : stored.stamp < 2 ^ 64

pub final_again : (names : Names) (item : ℕ) (stored : Stored) → AreNames names.items → item < length names.items
    → FitsStored stored → final_form names (final_body names item stored) ≡ Some (record { 0 = item })
unfolding final_form
final_again names item stored good named fits =
    rw (
      begins_again (codes "final") (final_rest names item stored) (lacks_test 32 (codes "final") refl) refl,
      next_again (item_of names.items) (name_at names.items item) (field (signed_decimal stored.value) ⊕ field (decimal stored.stamp)) (record { 0 = item }) (item_again names.items (record { 0 = item }) good named) (id_lacks names.items item good named) refl,
      next_again signed_of (signed_decimal stored.value) (field (decimal stored.stamp)) stored.value (signed_again stored.value fits.value) (signed_word stored.value fits.value) refl,
      next_last unsigned_of (decimal stored.stamp) stored.stamp (unsigned_again stored.stamp fits.stamp) (unsigned_lacks stored.stamp fits.stamp),
    ) refl

pub final_is_line : (names : Names) (item : ℕ) (stored : Stored) → AreNames names.items → item < length names.items
    → FitsStored stored → IsLine (final_line names item stored) (final_body names item stored)
final_is_line names item stored good named fits = record {
  ends = λ rest. simp append_assoc;
  lacks =
      lacks_append 10 (codes "final") (final_rest names item stored) (lacks_test 10 (codes "final") refl)
      (named_lacks names.items item (field (signed_decimal stored.value) ⊕ field (decimal stored.stamp)) good named
      (signed_word_lacks stored.value (field (decimal stored.stamp)) fits.value (last_lacks stored.stamp fits.stamp)));
}
