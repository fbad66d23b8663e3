-- A text that is told to be the report of what it begins with is said to be legal.
use Rattle.std.proofs.Common.{◌≡◌, ℕ, List, None, Ok, sym, subst}
use Rattle.std.specs.List.{All}
use Rattle.rt_base.specs.declared.name.Names.{Names}
use Rattle.txn_set.specs.Set.{Set, IsCompiled}
use Rattle.txn_compiler.specs.Refusal.{compile_refusal}
use Rattle.txn_compiler.specs.Laws.{CompiledUnlessRefused}
use Rattle.step_journal.specs.declared.entry.Entry.{Entry}
use Rattle.journal_text.specs.Lines.{HasLine}
use Rattle.report_text.specs.declared.read.Head.{Head}
use Rattle.report_text.specs.Head.{head_of}
use Rattle.report_text.specs.IsHead.{IsHead, set_of}
use Rattle.report_text.specs.Laws.{IsItemDecl}
use Rattle.run_report.proofs.HeadSets.{are_lists}
use Rattle.run_report.specs.declared.verdict.Verdict.TheVariants.{Legal}
use Rattle.run_report.specs.Verdict.{IsVerdict}
use Rattle.run_report.specs.Laws.{IsReport}
use Rattle.run_report.specs.Laws.{ReportIsLegal}
use Rattle.run_report.specs.Types.{HasTypes}
use Rattle.run_report.proofs.Every.{all_every}
use Rattle.run_report.proofs.Declarations.{WithinFits, head_fits, line_value}
use Rattle.run_report.specs.Told.{IsToldIn}

types : (bytes : List ℕ) (head : Head) (entries : List Entry) → Ok head ≡ head_of bytes → All (HasLine head.names) entries
    → HasTypes (set_of head) entries
types bytes head entries read lines =
    let fits = head_fits bytes head (sym read) in
    record {
      items = all_every IsItemDecl head.items fits.items;
      within = all_every WithinFits head.together fits.sets;
      values = λ k d lt. line_value head.names _ (lines k d lt);
    }

pub reported : ReportIsLegal → CompiledUnlessRefused → (bytes : List ℕ) (head : Head) (entries : List Entry) → Ok head ≡ head_of bytes
    → IsHead head → compile_refusal (set_of head) ≡ None → All (HasLine head.names) entries
    → IsToldIn bytes head.names (set_of head) head.admitted entries → IsVerdict bytes Legal
reported law compiled bytes head entries read good passed lines told =
    let is_set : IsCompiled (set_of head) = (compiled (set_of head) (are_lists head good)).0 passed in
    let report : IsReport bytes = record {
      names = head.names;
      set = set_of head;
      mode = head.admitted;
      entries = entries;
      one_each = record { items = good.items; txns = good.txns };
      item_names = good.item_names;
      txn_names = good.txn_names;
      compiled = is_set;
      admitted = told.admitted;
      legal = told.told.legal;
      written = told.told.written;
    } in
    law bytes report (types bytes head entries read lines)

-- the same by the names and the set that were compiled of the declarations
pub reported_by : ReportIsLegal → CompiledUnlessRefused → (bytes : List ℕ) (head : Head) (entries told_entries : List Entry) (names : Names) (set : Set)
    → Ok head ≡ head_of bytes → IsHead head → compile_refusal set ≡ None → All (HasLine head.names) entries
    → told_entries ≡ entries → names ≡ head.names → set ≡ set_of head → IsToldIn bytes names set head.admitted told_entries → IsVerdict bytes Legal
reported_by law compiled bytes head entries told_entries names set read good passed lines of_entries of_names of_set told =
    reported law compiled bytes head entries read good (subst (λ (s : Set). compile_refusal s ≡ None) of_set passed) lines
    (subst (λ (s : Set). IsToldIn bytes head.names s head.admitted entries) of_set
    (subst (λ (n : Names). IsToldIn bytes n set head.admitted entries) of_names
    (subst (λ (l : List Entry). IsToldIn bytes names set head.admitted l) of_entries told)))
