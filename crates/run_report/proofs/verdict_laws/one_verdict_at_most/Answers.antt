use Rattle.run_report.proofs.OneOnly.{one_verdict}
use Rattle.run_report.proofs.verdict_laws.one_verdict_at_most.Goals as goal

pub returns : goal.returns
returns c = one_verdict
