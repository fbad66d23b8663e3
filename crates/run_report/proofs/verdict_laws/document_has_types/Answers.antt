use Rattle.run_report.proofs.Declarations.{document_types}
use Rattle.run_report.proofs.verdict_laws.document_has_types.Goals as goal

pub returns : goal.returns
returns c = document_types
