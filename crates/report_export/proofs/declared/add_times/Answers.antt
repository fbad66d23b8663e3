use Rattle.std.proofs.Common.{rules}
use Rattle.report_export.specs.Json.{times_json}
use Rattle.report_export.proofs.Chains.{joined, begun}
use Rattle.report_export.proofs.declared.add_times.Goals as goal

pub returns : goal.returns
unfolding times_json
returns c = search (rules, joined, begun) depth 12
