-- The report of each run of a scenario is legal.
use Rattle.std.proofs.Common.{refl}
use Rattle.law_histories.specs.Counting.{EntriesAreFew, TimeIsBounded}
use Rattle.law_times.specs.Deadlines.{ResponseIsFound}
use Rattle.txn_compiler.specs.Laws.{CompiledUnlessRefused}
use Rattle.set_admission.specs.Laws.{AdmittedUnlessRefused}
use Rattle.report_text.specs.Laws.{HeadIsReadBack}
use Rattle.run_report.specs.Legal.{LegalHasLines, LegalHasRows}
use Rattle.run_report.specs.Report.{report_of}
use Rattle.run_report.specs.Laws.{IsReport}
use Rattle.step_script.specs.Shown.{set_of}
use Rattle.run_report.proofs.Law.{legal_by}
use Rattle.law_texts.specs.ReportLaws.{RunReportIsLegal}
use Rattle.law_texts.proofs.RunTexts.{items_fit, within_fits, run_values}

pub run_report_legal : EntriesAreFew → TimeIsBounded → HeadIsReadBack → LegalHasLines → LegalHasRows → ResponseIsFound
    → CompiledUnlessRefused → AdmittedUnlessRefused → RunReportIsLegal
run_report_legal few time read lines rows found compiled decided s is integers admitted history ok accepted legal run =
    let r : IsReport (report_of s.names (set_of s) admitted history) = record {
      names = s.names;
      set = set_of s;
      mode = admitted;
      entries = history;
      one_each = record { items = is.named_items; txns = is.named_txns };
      item_names = is.item_names;
      txn_names = is.txn_names;
      compiled = ok;
      admitted = accepted;
      legal = legal;
      written = refl;
    } in
    legal_by few time read lines rows found compiled decided (report_of s.names (set_of s) admitted history) r (items_fit s is integers) (within_fits s is) (run_values s history integers run)
