-- What is said to be legal is a report.
use Rattle.std.proofs.Common.{◌≡◌, Bool, Option, Some, None, refl, subst}
use Rattle.std.specs.Prelude.{option_map}
use Rattle.item_model.specs.Work.{first_of_both}
use Rattle.txn_set.specs.Set.{IsCompiled}
use Rattle.txn_compiler.specs.declared.error.CompileError.{CompileError}
use Rattle.txn_compiler.specs.Refusal.{compile_refusal}
use Rattle.txn_compiler.specs.Laws.{CompiledUnlessRefused}
use Rattle.set_admission.specs.declared.error.AdmitError.{AdmitError}
use Rattle.set_admission.specs.Admission.{refusal}
use Rattle.set_admission.specs.Laws.{AdmittedUnlessRefused}
use Rattle.report_text.specs.IsHead.{IsHead, set_of}
use Rattle.run_report.proofs.HeadSets.{are_lists}
use Rattle.run_report.specs.declared.verdict.SetError.{SetError}
use Rattle.run_report.specs.declared.verdict.SetError.TheVariants.{Compile, Admit}
use Rattle.run_report.specs.Verdict.{refusal_in}
use Rattle.run_report.specs.Laws.{LegalIsReport}
use Rattle.run_report.proofs.Documents.{is_read}

first_none : (o : Option CompileError) (p : Option SetError) → first_of_both (option_map (λ e. Compile e) o) p ≡ None → o ≡ None
first_none None p e = refl
first_none (Some x) p e = absurd cc

second_none : (o : Option CompileError) (p : Option SetError) → first_of_both (option_map (λ e. Compile e) o) p ≡ None → p ≡ None
second_none None p e = e
second_none (Some x) p e = absurd cc

admit_none : (o : Option AdmitError) → option_map (λ e. Admit e) o ≡ None → o ≡ None
admit_none None e = refl
admit_none (Some x) e = absurd cc

pub legal_report : CompiledUnlessRefused → AdmittedUnlessRefused → LegalIsReport
legal_report compiled decided bytes h =
    let d = h.0 in
    let good : IsHead d.head = (is_read bytes d h.1.declares.read).good in
    let passed : compile_refusal (set_of d.head) ≡ None =
    first_none (compile_refusal (set_of d.head)) (refusal_in d.head.admitted (set_of d.head)) h.1.declares.not_refused in
    let allowed : refusal_in d.head.admitted (set_of d.head) ≡ None =
    second_none (compile_refusal (set_of d.head)) (refusal_in d.head.admitted (set_of d.head)) h.1.declares.not_refused in
    let is_set : IsCompiled (set_of d.head) = (compiled (set_of d.head) (are_lists d.head good)).0 passed in
    record {
      names = d.head.names;
      set = set_of d.head;
      mode = d.head.admitted;
      entries = d.entries;
      one_each = record { items = good.items; txns = good.txns };
      item_names = good.item_names;
      txn_names = good.txn_names;
      compiled = is_set;
      admitted = λ is. (decided (set_of d.head) is_set).by_rule.0
          (admit_none (refusal (set_of d.head)) (subst (λ (b : Bool). refusal_in b (set_of d.head) ≡ None) is allowed));
      legal = h.1.legal;
      written = h.2;
    }
