use Rattle.std.proofs.Common.{◌≡◌}
use Rattle.seat_tests.proofs.pairs.plan_until_said.Given as goal

abbrev pub invariant-loop : goal.invariant-loop
invariant-loop g l = (l.seat.plant ≡ l.fn.seat.plant) × (l.seat.tx ≡ l.fn.seat.tx)
