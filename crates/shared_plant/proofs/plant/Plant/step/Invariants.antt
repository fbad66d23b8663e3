use Rattle.std.proofs.Common.{◌≡◌, Some}
use Rattle.rt_base.specs.declared.ids.TxId.{TxId}
use Rattle.shared_plant.specs.Answers.{Later, WaitsAt}
use Rattle.shared_plant.proofs.Laters.{Tried}
use Rattle.shared_plant.proofs.plant.Plant.step.Given as goal

abbrev pub invariant-loop : goal.invariant-loop
invariant-loop g l =
    (goal.iterator-loop g).can_next l.iterator' × (goal.iterator-loop g).is_finite l.iterator' × Later l.fn.seat l.seat
    × ((tx : TxId) → l.fn.seat.tx ≡ Some tx → Tried l.self.set (WaitsAt l.self.set l.self.room (record { tx = tx; serial = l.serial }) l.op) l.fn.seat l.seat)
