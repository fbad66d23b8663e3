use Rattle.std.proofs.Common.{◌≡◌, drop}
use Rattle.report_export.specs.Ages.{worst_ages}
use Rattle.report_export.proofs.ages.ages.Given as goal

abbrev pub invariant-loop-i : goal.invariant-loop-i
invariant-loop-i l = l.worsts.items ≡ worst_ages l.items l.commits (drop l.i l.entries)
