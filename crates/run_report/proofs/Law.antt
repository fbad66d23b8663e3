-- Each report is legal.
use Rattle.std.proofs.Common.{◌≡◌, ℕ, ◌+◌, ◌<◌, ◌^◌, Bool, true, false, List, ◌++◌, drop, Option, Some, None, Ok, refl, ap, ◌∙◌, arith, append_assoc, codes}
use Rattle.std.specs.Prelude.{option_map}
use Rattle.std.specs.List.{All}
use Rattle.rt_base.specs.declared.name.Names.{Names}
use Rattle.item_model.specs.Work.{first_of_both}
use Rattle.txn_set.specs.Set.{Set, HasGoodTimes}
use Rattle.txn_set.specs.declared.decl.TxnDecl.{TxnDecl}
use Rattle.step_journal.specs.History.{state_of}
use Rattle.law_histories.specs.Counting.{EntriesAreFew, TimeIsBounded}
use Rattle.law_times.specs.Deadlines.{ResponseIsFound}
use Rattle.txn_compiler.specs.Kept.{AreLists}
use Rattle.txn_compiler.specs.Laws.{CompiledUnlessRefused}
use Rattle.txn_compiler.specs.Refusal.{compile_refusal}
use Rattle.txn_compiler.specs.declared.error.CompileError.{CompileError}
use Rattle.set_admission.specs.declared.error.AdmitError.{AdmitError}
use Rattle.set_admission.specs.Admission.{refusal}
use Rattle.set_admission.specs.Bounds.{response_of, age_of}
use Rattle.set_admission.specs.Laws.{AdmittedUnlessRefused}
use Rattle.board.proofs.Counts.{items_count}
use Rattle.job_rows.specs.Rows.{job_rows}
use Rattle.journal_text.specs.Lines.{IsWritable}
use Rattle.report_text.specs.declared.read.Head.{Head}
use Rattle.report_text.specs.Texts.{is_second, declarations, ceilings_of, entries_text, jobs_text, finals_text}
use Rattle.report_text.specs.Laws.{IsItemDecl, IsTxnDecl, HasLines, head_again, HeadIsReadBack}
use Rattle.report_text.specs.declared.document.Document.{Document}
use Rattle.report_text.specs.Document.{lines_of, body_of, after_head, document_of, is_second as is_second_text}
use Rattle.run_report.specs.Report.{limits_text, report_of}
use Rattle.run_report.specs.Legal.{LegalHasLines, LegalHasRows}
use Rattle.run_report.specs.declared.verdict.SetError.{SetError}
use Rattle.run_report.specs.declared.verdict.SetError.TheVariants.{Compile, Admit}
use Rattle.run_report.specs.Verdict.{set_refusal, refusal_in, IsVerdict}
use Rattle.run_report.specs.declared.verdict.Verdict.TheVariants.{Legal}
use Rattle.report_text.specs.declared.forms.Kind.{Kind}
use Rattle.run_report.specs.Laws.{IsReport}
use Rattle.run_report.specs.Laws.{ReportIsLegal}
use Rattle.run_report.proofs.Every.{Every, every_all, every_both}
use Rattle.run_report.proofs.DeclaredLines.{declared_lines, second_told}
use Rattle.run_report.proofs.Steps.{EntryFits, HistoryFits, Values, history_fits, all_values}
use Rattle.run_report.proofs.Entries.{has_line, entry_may}
use Rattle.run_report.proofs.Rows.{rows_fit}
use Rattle.run_report.proofs.Sections.{AreParts}
use Rattle.run_report.proofs.ReportParts.{EntryOf, bounds_text, ages_text, are_parts}
use Rattle.run_report.proofs.WholeDocument.{made, body_again}
use Rattle.run_report.proofs.Ages.{response_fits, age_fits}

-- ---- the declarations have lines

txn_fits : (txn : TxnDecl) → HasGoodTimes txn → IsTxnDecl txn
txn_fits txn good = record {
  prio = omega (arith, good.prio.1);
  period = omega (arith, good.period.1);
  offset = omega (arith, good.offset, good.period.1);
  deadline = omega (arith, good.deadline.1, good.period.1);
  steps = omega (arith, good.steps.1);
  quiet = omega (arith, good.quiet, good.steps.1);
}

has_lines : (text : List ℕ) (r : IsReport text) → All IsItemDecl r.set.items → All (λ g. g.within < 2 ^ 64) r.set.together
    → HasLines r.names r.set
has_lines text r items within = record {
  one_each = r.one_each;
  item_names = r.item_names;
  txn_names = r.txn_names;
  items = items;
  txns = λ k d lt. txn_fits _ (r.compiled.times k d lt);
  reads = r.compiled.reads;
  writes = r.compiled.writes;
  together = r.compiled.together;
  within = within;
}

-- ---- the document

-- the declarations and what follows them are read as one document
document_again : (names : Names) (set : Set) (admitted : Bool) (rest : List ℕ) (d : Document) → HeadIsReadBack → HasLines names set
    → body_of (head_again names set admitted) (record { second = is_second set; admitted = admitted }) ((head_again names set admitted).lines + 1) (lines_of rest).0 (lines_of rest).1 ≡ Ok d
    → document_of (declarations names set admitted ++ rest) ≡ Ok d
unfolding document_of
document_again names set admitted rest d read h body =
    let text : List ℕ = declarations names set admitted ++ rest in
    let head : Head = head_again names set admitted in
    let lines : List (List ℕ) = (lines_of text).0 in
    let count = declared_lines names set h admitted in
    let second : is_second_text lines ≡ is_second set = second_told names set admitted rest in
    ap (after_head lines (lines_of text).1) (read names set admitted rest h)
    ∙ ap (λ (b : Bool). body_of head (record { second = b; admitted = admitted }) (head.lines + 1) (drop head.lines lines) (lines_of text).1) second
    ∙ ap (λ (l : List (List ℕ)). body_of head (record { second = is_second set; admitted = admitted }) (head.lines + 1) l (lines_of text).1) (count.lines rest)
    ∙ ap (λ (l : List ℕ). body_of head (record { second = is_second set; admitted = admitted }) (head.lines + 1) (lines_of rest).0 l) (count.last rest)
    ∙ body

-- ---- nothing refuses the set

neither_refused : (o : Option CompileError) (p : Option SetError) → o ≡ None → p ≡ None
    → first_of_both (option_map (λ e. Compile e) o) p ≡ None
neither_refused None p e f = f
neither_refused (Some x) p e f = absurd cc

none_refused : (mode : Bool) (set : Set) → (mode ≡ true → refusal set ≡ None) → refusal_in mode set ≡ None
none_refused true set h = ap (λ (o : Option AdmitError). option_map (λ e. Admit e) o) (h refl)
none_refused false set h = refl

-- ---- the law

regroup : (d c l t : List ℕ) → (d ++ (c ++ l)) ++ t ≡ d ++ (c ++ (l ++ t))
regroup d c l t = append_assoc d (c ++ l) t ∙ ap (λ (s : List ℕ). d ++ s) (append_assoc c l t)

module _ (few : EntriesAreFew) (time : TimeIsBounded) (read : HeadIsReadBack) (lines : LegalHasLines) (rows : LegalHasRows) (found : ResponseIsFound)
    (compiled : CompiledUnlessRefused) (decided : AdmittedUnlessRefused) where
  told : (text : List ℕ) (r : IsReport text) → HistoryFits r.set r.entries → Every (EntryOf r.names (is_second r.set)) r.entries
  told text r fits =
      every_both (IsWritable r.names) (EntryFits (is_second r.set)) (EntryOf r.names (is_second r.set)) r.entries
      (λ e written small. record { line = has_line r.names (is_second r.set) e written small; may = entry_may (is_second r.set) e small })
      (every_all (IsWritable r.names) r.entries (lines r.names r.set r.entries r.one_each r.compiled r.legal)) fits.each

  parts : (text : List ℕ) (r : IsReport text) → HistoryFits r.set r.entries
      → AreParts (record { second = is_second r.set; admitted = r.mode }) r.names r.entries (ceilings_of r.names r.set)
      (bounds_text r.names r.set (response_of r.set)) (ages_text r.names r.set (age_of r.set)) (entries_text r.names r.entries)
      (jobs_text r.names (job_rows r.set r.entries)) (finals_text r.names (state_of r.set r.entries).items)
  parts text r fits =
      are_parts r.names r.set r.mode r.item_names r.txn_names r.one_each r.compiled r.entries (job_rows r.set r.entries)
      (state_of r.set r.entries).items (response_of r.set) (age_of r.set) (told text r fits)
      (rows_fit r.names r.set r.entries r.compiled r.legal few time fits (rows r.names r.set r.entries r.one_each r.compiled r.legal))
      (items_count r.set r.entries) fits.state.items (λ tx. response_fits r.set tx found r.compiled)
      (λ item. age_fits r.set item found r.compiled)

  pub legal_by : (text : List ℕ) (r : IsReport text) → All IsItemDecl r.set.items → All (λ g. g.within < 2 ^ 64) r.set.together
      → Values r.set r.entries → IsVerdict text Legal
  legal_by text r items within values =
      let p = parts text r (history_fits r.set r.entries few time r.compiled r.legal items values) in
      let head : Head = head_again r.names r.set r.mode in
      let mode : Kind = record { second = is_second r.set; admitted = r.mode } in
      let c : List ℕ = ceilings_of r.names r.set in
      let b : List ℕ = bounds_text r.names r.set (response_of r.set) in
      let a : List ℕ = ages_text r.names r.set (age_of r.set) in
      let e : List ℕ = entries_text r.names r.entries in
      let j : List ℕ = jobs_text r.names (job_rows r.set r.entries) in
      let f : List ℕ = finals_text r.names (state_of r.set r.entries).items in
      let l : List ℕ = limits_text r.mode r.names r.set in
      let rest : List ℕ = c ++ (l ++ (e ++ (j ++ (f ++ codes "end\n")))) in
      let same : text ≡ declarations r.names r.set r.mode ++ rest =
      r.written ∙ regroup (declarations r.names r.set r.mode) c l (e ++ (j ++ (f ++ codes "end\n"))) in
      let d : Document = made mode r.names r.entries c b a e j f p head (head.lines + 1) in
      let again : document_of (declarations r.names r.set r.mode ++ rest) ≡ Ok d =
      document_again r.names r.set r.mode rest d read (has_lines text r items within)
      (body_again mode r.names r.entries c b a e j f p head (head.lines + 1) refl) in
      let lists : AreLists r.set = record { reads = r.compiled.reads; writes = r.compiled.writes; together = r.compiled.together } in
      let accepted : set_refusal head ≡ None =
      neither_refused (compile_refusal r.set) (refusal_in r.mode r.set) ((compiled r.set lists).1 r.compiled)
      (none_refused r.mode r.set (λ is. (decided r.set r.compiled).by_rule.1 (r.admitted is))) in
      (d, record { declares = record { read = ap document_of same ∙ again; not_refused = accepted }; legal = r.legal }, r.written)

  pub report_legal : ReportIsLegal
  report_legal text r types = legal_by text r types.items types.within (all_values r.set r.entries types.values)
