-- What a legal report says.
use Rattle.std.proofs.Common.{◌≡◌, ℕ, ◌+◌, Bool, None, List, Result, Ok, refl, sym, subst, ◌∙◌}
use Rattle.rt_base.specs.declared.name.Names.{Names}
use Rattle.item_model.specs.declared.stored.Stored.{Stored}
use Rattle.txn_set.specs.Set.{Set}
use Rattle.step_journal.specs.declared.entry.Entry.{Entry}
use Rattle.step_journal.specs.History.{IsLegal, state_of}
use Rattle.serial_replay.specs.Replays.{IsFirstIllegal}
use Rattle.report_text.specs.Texts.{NamesSet}
use Rattle.report_text.specs.declared.document.Document.{Document}
use Rattle.report_text.specs.declared.document.DocumentError.{DocumentError}
use Rattle.run_report.specs.declared.verdict.Verdict.{Verdict}
use Rattle.run_report.specs.declared.verdict.Verdict.TheVariants.{Legal, NotALegalStep}
use Rattle.run_report.specs.declared.judged.ReportedSet.{ReportedSet}
use Rattle.run_report.specs.declared.judged.LegalReport.{LegalReport}
use Rattle.run_report.specs.declared.judged.Found.{Found}
use Rattle.run_report.specs.Verdict.{refusal_in, report_for, Tells, IsVerdict, HasParts}
use Rattle.run_report.specs.Judged.{set_in, is_admitted, IsLegalReport, IsOther, found_by, IsFoundLegal, IsFound}
use Rattle.run_report.proofs.Judging.{illegal}

abbrev pub document_read : Document → Result Document DocumentError
document_read d = Ok d

pub one_document : (a b : Document) → document_read a ≡ document_read b → a ≡ b
one_document a b e = cc

pub says : (bytes : List ℕ) (names : Names) (set : ReportedSet) (entries : List Entry) (first : ℕ) (items : List Stored)
    → HasParts bytes names (set_in set) (is_admitted set) entries first → NamesSet names (set_in set)
    → IsFoundLegal bytes (set_in set) entries items
    → IsLegalReport bytes (record { names = names; set = set; entries = entries; items = items })
says bytes names set entries first items h one f =
    let same : f.verdict.0 ≡ h.document = one_document f.verdict.0 h.document (sym f.verdict.1.declares.read ∙ h.read) in
    record {
      document = h.document;
      tells = subst (λ (d : Document). Tells bytes d) same f.verdict.1;
      whole = subst (λ (d : Document). bytes ≡ report_for d) same f.verdict.2;
      names_are = h.names_are;
      set_is = h.set_is;
      mode_is = h.mode_is;
      entries_are = h.entries_are;
      one_each = one;
      legal = f.legal;
      last = f.last;
    }

pub legal_verdict : (bytes : List ℕ) (r : LegalReport) → IsLegalReport bytes r → IsVerdict bytes Legal
legal_verdict bytes r h = (h.document, h.tells, h.whole)

-- ---- what is found of entries

by_verdict : (bytes : List ℕ) (set : Set) (entries : List Entry) (items : List Stored) (v : Verdict) → IsVerdict bytes v
    → IsLegal set entries → items ≡ (state_of set entries).items → IsFound bytes set entries (found_by v items)
by_verdict bytes set entries items Legal h legal last = record { verdict = h; legal = legal; last = last }
by_verdict bytes set entries items rest h legal last = record { verdict = h; other = refl }

pub found_told : (bytes : List ℕ) (set : Set) (entries : List Entry) (items : List Stored) (v : Verdict) (f : Found)
    → f ≡ found_by v items → IsVerdict bytes v → IsLegal set entries → items ≡ (state_of set entries).items
    → IsFound bytes set entries f
found_told bytes set entries items v f is h legal last =
    subst (λ (g : Found). IsFound bytes set entries g) (sym is) (by_verdict bytes set entries items v h legal last)

pub illegal_other : (bytes : List ℕ) (names : Names) (set : Set) (admitted : Bool) (entries : List Entry) (first index : ℕ)
    → HasParts bytes names set admitted entries first → refusal_in admitted set ≡ None → IsFirstIllegal set entries index
    → IsOther bytes (NotALegalStep (first + index))
illegal_other bytes names set admitted entries first index h none found =
    record { verdict = illegal bytes names set admitted entries first index h none found; other = refl }
