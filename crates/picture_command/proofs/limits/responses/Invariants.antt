use Rattle.std.proofs.Common.{◌≡◌}
use Rattle.set_admission.specs.Bounds.{response_of}
use Rattle.picture_command.specs.Limits.{firsts}
use Rattle.picture_command.proofs.limits.responses.Given as goal

abbrev pub invariant-loop-i : goal.invariant-loop-i
invariant-loop-i l = l.responses.items ≡ firsts (response_of l.set) l.i
