use Rattle.run_report.proofs.Sound.{legal_report}
use Rattle.run_report.proofs.verdict_laws.legal_is_report.Goals as goal

pub returns : goal.returns
returns c = legal_report c.compiled_unless_refused.ensures c.admitted_unless_refused.ensures
