use Rattle.std.proofs.Common.{◌-◌, ◌≤◌}
use Rattle.journal_text.proofs.NextLaws.{SameBelow}
use Rattle.journal_text.proofs.next_step.same_front.Given as goal

abbrev pub invariant-loop-at : goal.invariant-loop-at
invariant-loop-at l = (l.at ≤ l.len) × SameBelow l.a l.b l.at

abbrev pub decreases-loop-at : goal.decreases-loop-at
decreases-loop-at l = l.len - l.at
