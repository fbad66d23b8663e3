use Rattle.std.proofs.Common.{◌≡◌}
use Rattle.seat_tests.proofs.calls.plan_each.Given as goal

abbrev pub invariant-loop-tx : goal.invariant-loop-tx
invariant-loop-tx g l = (l.seat.plant ≡ l.fn.seat.plant) × (l.seat.tx ≡ l.fn.seat.tx)
