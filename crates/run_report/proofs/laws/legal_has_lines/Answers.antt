use Rattle.run_report.proofs.LegalLines.{legal_lines}
use Rattle.run_report.proofs.laws.legal_has_lines.Goals as goal

pub returns : goal.returns
returns c = legal_lines
