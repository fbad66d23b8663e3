use Rattle.law_texts.proofs.RunLaw.{run_report_legal}
use Rattle.law_texts.proofs.verdicts.run_report_is_legal.Goals as goal

pub returns : goal.returns
returns c =
    run_report_legal c.counting.ensures.entries c.counting.ensures.time c.head_is_read_back.ensures c.legal_has_lines.ensures
    c.legal_has_rows.ensures c.response.ensures.found c.compiled_unless_refused.ensures c.admitted_unless_refused.ensures
