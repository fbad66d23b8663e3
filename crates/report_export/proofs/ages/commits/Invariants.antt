use Rattle.std.proofs.Common.{◌≡◌, drop}
use Rattle.report_export.specs.Ages.{commits_in}
use Rattle.report_export.proofs.ages.commits.Given as goal

abbrev pub invariant-loop-i : goal.invariant-loop-i
invariant-loop-i l = l.commits.items ≡ commits_in l.txns (drop l.i l.rows)
