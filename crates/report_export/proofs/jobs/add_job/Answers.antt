use Rattle.std.proofs.Common.{rules}
use Rattle.report_export.proofs.Chains.{joined, begun}
use Rattle.report_export.proofs.jobs.add_job.Goals as goal

pub returns : goal.returns
returns c = search (rules, joined, begun) depth 12
