use Rattle.run_report.proofs.LegalRows.{legal_rows}
use Rattle.run_report.proofs.laws.legal_has_rows.Goals as goal

pub returns : goal.returns
returns c = legal_rows
