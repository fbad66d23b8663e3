use Rattle.std.proofs.Common.{◌≡◌, [], replicate}
use Rattle.report_export.proofs.ages.no_commits.Given as goal

abbrev pub invariant-loop : goal.invariant-loop
invariant-loop l = l.commits.items ≡ replicate l.counter []
