use Rattle.std.proofs.Common.{◌≡◌}
use Rattle.embedded_plant.proofs.shared.plan_more.Given as goal

abbrev pub invariant-loop : goal.invariant-loop
invariant-loop l = (l.seat.plant ≡ l.fn.seat.plant) × (l.seat.tx ≡ l.fn.seat.tx)
