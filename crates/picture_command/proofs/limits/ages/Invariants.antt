use Rattle.std.proofs.Common.{◌≡◌}
use Rattle.picture_command.specs.Limits.{firsts, age_or_none}
use Rattle.picture_command.proofs.limits.ages.Given as goal

abbrev pub invariant-loop-i : goal.invariant-loop-i
invariant-loop-i l = l.ages.items ≡ firsts (age_or_none l.set) l.i
