use Rattle.std.proofs.Common.{◌≡◌}
use Rattle.seat_tests.proofs.turns.make_steps.Given as goal

abbrev pub invariant-loop : goal.invariant-loop
invariant-loop g l = (l.caller.seat.plant ≡ l.fn.caller.seat.plant) × (l.caller.seat.tx ≡ l.fn.caller.seat.tx)
